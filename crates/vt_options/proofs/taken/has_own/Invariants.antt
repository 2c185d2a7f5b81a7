use Rattle.std.proofs.Common.{◌≡◌, false, take}
use Rattle.vt_options.specs.inside.Taken.{is_among, own_names}
use Rattle.vt_options.proofs.taken.has_own.Given as goal

-- no option so far has the name
abbrev pub invariant-loop-option : goal.invariant-loop-option
invariant-loop-option l = is_among (own_names (take l.option-index l.own)) l.name ≡ false
