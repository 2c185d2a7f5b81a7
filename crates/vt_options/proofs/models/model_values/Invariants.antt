use Rattle.std.proofs.Common.{◌≡◌, ◌<◌, ◌≤◌, [], None, get_or, take}
use Rattle.clap.specs.Words.{first_value, found_of}
use Rattle.vt_options.specs.promise.Own.{AreInRange, GiveValues, first_bad_in}
use Rattle.vt_options.specs.inside.Own.{tables_of}
use Rattle.vt_options.proofs.models.model_values.Given as goal

-- the values are there once the wanted model was met, and no option so far is bad
abbrev pub invariant-loop-index : goal.invariant-loop-index
invariant-loop-index l = record {
  before : l.index ≤ l.wanted → l.wanted_values.items ≡ [];
  given : l.wanted < l.index → GiveValues (first_value (found_of l.matches)) (get_or (tables_of l.models) l.wanted []) l.wanted_values.items;
  within : l.wanted < l.index → AreInRange (get_or (tables_of l.models) l.wanted []) l.wanted_values.items;
  good : first_bad_in (first_value (found_of l.matches)) (tables_of (take l.index l.models)) ≡ None;
}
