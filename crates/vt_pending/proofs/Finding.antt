-- Whether something is found.
use Rattle.std.proofs.Common.{Bool, true, false, ◌||◌, if◌then◌else◌, ◌≡◌, refl, ap}
use Rattle.std.specs.Prelude.{List, [], ◌∷◌, Some, find, is_some}
use Rattle.std.specs.List.{list_any}
use Rattle.vt_key.specs.promise.Queues.{without_first}

module _ {X : Type 0} (test : X → Bool) where
  -- something is found where some item passes
  pub is_some-find : (xs : List X) → is_some (find test xs) ≡ list_any test xs
  is_some-find [] = refl
  is_some-find (x ∷ xs) = elim (test x) as (λ b. is_some (if b then Some x else find test xs) ≡ (b || list_any test xs)) [ true ↦ refl | false ↦ is_some-find xs ]

  -- where none passes, the list stays as it is
  pub without-none : (xs : List X) → list_any test xs ≡ false → without_first test xs ≡ xs
  without-none [] none = refl
  without-none (x ∷ xs) none =
      elim (test x) as (λ b. (b || list_any test xs) ≡ false → (if b then xs else x ∷ without_first test xs) ≡ x ∷ xs) [
        | true ↦ λ e. absurd (let h : true ≡ false = e in cc)
        | false ↦ λ e. ap (λ l. x ∷ l) (without-none xs e)
      ] none
