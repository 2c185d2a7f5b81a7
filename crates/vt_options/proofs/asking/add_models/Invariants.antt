use Rattle.std.proofs.Common.{◌≡◌, ◌++◌, map, take}
use Rattle.vt_options.specs.promise.Line.{once}
use Rattle.vt_options.specs.inside.Line.{options_of}
use Rattle.vt_options.specs.promise.Own.{table_names}
use Rattle.vt_options.specs.inside.Own.{tables_of}
use Rattle.vt_options.proofs.asking.add_models.Given as goal

-- the options of the models so far were added
abbrev pub invariant-loop-model : goal.invariant-loop-model
invariant-loop-model l = options_of l.list.items ≡ options_of l.fn.list.items ++ map once (table_names (tables_of (take l.model-index l.models)))
