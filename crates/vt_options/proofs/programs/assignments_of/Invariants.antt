use Rattle.std.proofs.Common.{◌≡◌, None, map, take}
use Rattle.vt_options.specs.promise.Programs.{SetNumbers, bad_sets}
use Rattle.vt_options.proofs.programs.assignments_of.Given as goal

-- the texts so far set these numbers
abbrev pub invariant-loop-text : goal.invariant-loop-text
invariant-loop-text l = record {
  numbers : SetNumbers (map (λ text. text.now) (take l.text-index l.texts)) l.sets.items;
  good : bad_sets (map (λ text. text.now) (take l.text-index l.texts)) ≡ None;
}
