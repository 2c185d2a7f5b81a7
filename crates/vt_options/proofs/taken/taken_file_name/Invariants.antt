use Rattle.std.proofs.Common.{◌≡◌, length}
use Rattle.vt_options.specs.inside.Own.{file_names}
use Rattle.vt_options.specs.inside.Taken.{own_names, taken_file_in}
use Rattle.vt_options.proofs.taken.taken_file_name.Given as goal

-- no option so far has a name that is taken
abbrev pub invariant-loop-option : goal.invariant-loop-option
invariant-loop-option l = taken_file_in (own_names l.own) (file_names l.files) ≡ taken_file_in (own_names l.own) (file_names l.rest)

abbrev pub decreases-loop-option : goal.decreases-loop-option
decreases-loop-option l = length l.rest
