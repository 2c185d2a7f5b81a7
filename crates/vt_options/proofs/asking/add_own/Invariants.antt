use Rattle.std.proofs.Common.{◌≡◌, ◌++◌, take, map}
use Rattle.vt_options.specs.promise.Line.{once}
use Rattle.vt_options.specs.inside.Line.{helps_of, options_of}
use Rattle.vt_options.specs.inside.Texts.{own_help}
use Rattle.vt_options.specs.promise.Own.{number_table}
use Rattle.vt_options.proofs.asking.add_own.Given as goal

-- the options so far were added, with their help
abbrev pub invariant-loop-option : goal.invariant-loop-option
invariant-loop-option l = (options_of l.list.items ≡ options_of l.fn.list.items ++ map once (map (λ o. o.name) (number_table (take l.option-index l.own))))
    × (helps_of l.list.items ≡ helps_of l.fn.list.items ++ map own_help (take l.option-index l.own))
