-- The values of the options of a model that is the only one.
use Rattle.std.proofs.Common.{◌≡◌, ◌∙◌, ℕ, List, [], ◌∷◌, ap, subst, length, get_or}
use Rattle.std.proofs.lemmas.List.{length-map}
use Rattle.std.proofs.lemmas.Grind.{get_or_head}
use Rattle.vt_options.specs.declared.own.OwnOption.{OwnOption}
use Rattle.vt_options.specs.promise.Own.{only, number_table, number_option, AreInRange, AreWithin, GiveModel}
use Rattle.vt_options.specs.promise.Table.{Given, NumberOption}
use Rattle.vt_tasks.proofs.ModelsLemmas as models

-- they are those of its options
module _ (given : Given) (own : List OwnOption) (k : ℕ) (vs : List ℕ) (h : GiveModel (only own) given k vs) where
  table_is : get_or (number_table own ∷ []) k [] ≡ number_table own
  table_is = let same : k ≡ 0 = cc in get_or_head (number_table own) [] k [] same

  pub values_are : length vs ≡ length own
  values_are = models.values_are given (get_or (number_table own ∷ []) k []) vs h.values ∙ ap length table_is ∙ length-map own number_option

  pub within_are : AreWithin own vs
  within_are = subst (λ (table : List NumberOption). AreInRange table vs) table_is h.within
