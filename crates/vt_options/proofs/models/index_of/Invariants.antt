use Rattle.std.proofs.Common.{◌≡◌, None, take}
use Rattle.vt_options.specs.promise.Own.{index_from}
use Rattle.vt_options.specs.inside.Own.{model_names}
use Rattle.vt_options.proofs.models.index_of.Given as goal

-- no model so far has the name
abbrev pub invariant-loop-index : goal.invariant-loop-index
invariant-loop-index l = index_from 0 (model_names (take l.index l.models)) l.name ≡ None
