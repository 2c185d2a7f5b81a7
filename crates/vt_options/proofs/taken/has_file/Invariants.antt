use Rattle.std.proofs.Common.{◌≡◌, false, take}
use Rattle.vt_options.specs.inside.Own.{file_names}
use Rattle.vt_options.specs.inside.Taken.{is_among}
use Rattle.vt_options.proofs.taken.has_file.Given as goal

-- no option so far has the name
abbrev pub invariant-loop-option : goal.invariant-loop-option
invariant-loop-option l = is_among (file_names (take l.option-index l.files)) l.name ≡ false
