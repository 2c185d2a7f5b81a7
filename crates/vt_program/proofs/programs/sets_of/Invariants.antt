use Rattle.std.proofs.Common.{◌≡◌, map, take}
use Rattle.vt_options.specs.promise.Programs.{pair_of}
use Rattle.vt_program.specs.promise.Programs.{set_pair}
use Rattle.vt_program.proofs.programs.sets_of.Given as goal

-- the numbers so far are there
abbrev pub invariant-loop-assignment : goal.invariant-loop-assignment
invariant-loop-assignment l = map set_pair l.sets.items ≡ map pair_of (take l.assignment-index l.assignments)
