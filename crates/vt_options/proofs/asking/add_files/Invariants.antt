use Rattle.std.proofs.Common.{◌≡◌, ◌++◌, map, take}
use Rattle.vt_options.specs.promise.Line.{once}
use Rattle.vt_options.specs.inside.Line.{options_of}
use Rattle.vt_options.specs.inside.Own.{file_names}
use Rattle.vt_options.proofs.asking.add_files.Given as goal

-- the options so far were added
abbrev pub invariant-loop-option : goal.invariant-loop-option
invariant-loop-option l = options_of l.list.items ≡ options_of l.fn.list.items ++ map once (file_names (take l.option-index l.files))
