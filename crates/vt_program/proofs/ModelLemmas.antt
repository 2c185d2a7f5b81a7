-- Which model a choice names, and what is known of its values.
use Rattle.std.proofs.Common.{◌≡◌, ◌≢◌, ℕ, List, Option, Some, None, [], ◌∷◌, subst, codes, get_or, true, false}
use Rattle.std.specs.Prelude.{if◌then◌else◌}
use Rattle.std.specs.Str.{bytes_eq}
use Rattle.clap.specs.Words.{Text}
use Rattle.vt_options.specs.promise.Own.{AreInRange, GiveModel, named_in}
use Rattle.vt_options.specs.promise.Table.{Given}
use Rattle.vt_command.specs.promise.Table.{twarp_models, stations_table}

abbrev names : List Text
names = codes "hop" ∷ codes "phold" ∷ codes "stations" ∷ []

third : (o : Option Text) (k : ℕ) → named_in names o ≡ Some k → k ≢ 0 → k ≢ 1 → k ≡ 2
third None k e hop phold = let is : k ≡ 0 = cc in absurd (hop is)
third (Some text) k e hop phold =
    elim (bytes_eq (codes "hop") text) as (λ b. (if b then Some 0 else if bytes_eq (codes "phold") text then Some 1 else if bytes_eq (codes "stations") text then Some 2 else None) ≡ Some k → k ≡ 2) [
      | true ↦ λ e. let is : k ≡ 0 = cc in absurd (hop is)
      | false ↦ λ e. elim (bytes_eq (codes "phold") text) as (λ b. (if b then Some 1 else if bytes_eq (codes "stations") text then Some 2 else None) ≡ Some k → k ≡ 2) [
        | true ↦ λ e. let is : k ≡ 1 = cc in absurd (phold is)
        | false ↦ λ e. elim (bytes_eq (codes "stations") text) as (λ b. (if b then Some 2 else None) ≡ Some k → k ≡ 2) [
          | true ↦ λ e. let is : k ≡ 2 = cc in is
          | false ↦ λ e. absurd cc
        ] e
      ] e
    ] e

module _ (texts : Given) (k : ℕ) (vs : List ℕ) (h : GiveModel twarp_models texts k vs) where
  within : (n : ℕ) → k ≡ n → AreInRange (get_or twarp_models.tables n []) vs
  within n e = subst (λ (m : ℕ). AreInRange (get_or twarp_models.tables m []) vs) e h.within

  pub is_third : k ≢ 0 → k ≢ 1 → k ≡ 2
  is_third hop phold = third (texts (codes "model")) k h.chosen hop phold

  pub stations_within : k ≡ 2 → AreInRange stations_table vs
  stations_within e = within 2 e
