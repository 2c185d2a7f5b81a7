-- The last of past events.
use Rattle.std.proofs.Common.{◌≡◌, suc, ◌-◌, List, [], ◌∷◌, ◌++◌, Option, Some, None, MatchOption, slice_get, length, refl, sym, ap, ◌∙◌, arith}
use Rattle.std.specs.List.{last_or}
use Rattle.vt_past.specs.declared.event.PastEvent.{PastEvent}
use Rattle.vt_past.specs.inside.Events.{rank_of_last, last_rank}

-- the last of a list, as the list tells it by its length
pub last-at : {X : Type 0} (xs : List X) → last_or None xs ≡ slice_get xs (length xs - 1)
last-at [] = refl
last-at {X = X} (x ∷ xs) = let less : suc (length xs) - 1 ≡ length xs = omega arith in from x xs ∙ ap (slice_get (x ∷ xs)) (sym less) where
  from : (y : X) (ys : List X) → last_or (Some y) ys ≡ slice_get (y ∷ ys) (length ys)
  from y [] = refl
  from y (z ∷ zs) = from z zs

module _ {P K : Type 0} where
  pub last-pushed : (past : List (PastEvent P K)) (e : PastEvent P K) → Some e.letter.event.rank ≡ last_rank (past ++ e ∷ [])
  last-pushed [] e = refl
  last-pushed (x ∷ xs) e = from x xs where
    from : (y : PastEvent P K) (ys : List (PastEvent P K)) → Some e.letter.event.rank ≡ rank_of_last (last_or (Some y) (ys ++ e ∷ []))
    from y [] = refl
    from y (z ∷ zs) = from z zs

  -- that of all but the first, where there is another
  pub last-behind : (e : PastEvent P K) (past : List (PastEvent P K)) → (past ≡ [] → ⊥) → last_rank (e ∷ past) ≡ last_rank past
  last-behind e [] some = absurd (some refl)
  last-behind e (x ∷ xs) some = refl

  pub last-popped : (first : Option (PastEvent P K)) (old new : List (PastEvent P K)) → MatchOption first ((old ≡ []) × (new ≡ [])) (λ e. old ≡ e ∷ new) → (new ≡ [] → ⊥) → last_rank old ≡ last_rank new
  last-popped None old new is some = absurd (some is.1)
  last-popped (Some e) old new is some = ap last_rank is ∙ last-behind e new some
