use Rattle.std.proofs.Common.{◌≡◌, ◌++◌, take}
use Rattle.vt_options.specs.inside.Line.{options_of}
use Rattle.vt_options.proofs.asking.add_all.Given as goal

-- the options so far were added
abbrev pub invariant-loop-option : goal.invariant-loop-option
invariant-loop-option l = options_of l.list.items ≡ options_of l.fn.list.items ++ options_of (take l.option-index l.more)
