use Rattle.std.proofs.Common.{◌≡◌, false, take}
use Rattle.vt_options.specs.inside.Line.{names_of}
use Rattle.vt_options.specs.inside.Taken.{is_among}
use Rattle.vt_options.proofs.taken.has_text.Given as goal

-- no option so far has the name
abbrev pub invariant-loop-option : goal.invariant-loop-option
invariant-loop-option l = is_among (names_of (take l.option-index l.options)) l.name ≡ false
