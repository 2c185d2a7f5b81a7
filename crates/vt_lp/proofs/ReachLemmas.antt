-- Past events in rising rank: what the last one that isn't after a rank tells of all.
use Rattle.std.proofs.Common.{◌≡◌, ◌||◌, inl, inr, Bool, true, false, not, if◌then◌else◌, List, [], ◌∷◌, Option, Some, None, find, reverse, refl, sym, subst, ◌∙◌, ap}
use Rattle.std.proofs.lemmas.List.{reverse-append}
use Rattle.std.proofs.lemmas.List.Folds.{find-append}
use Rattle.std.specs.List.{list_any}
use Rattle.std.specs.Option.{option_or}
use Rattle.std.proofs.lemmas.Option.{none-some}
use Rattle.vt_key.specs.promise.Order.{rank_before, rank_same}
use Rattle.vt_key.specs.inside.Order.{RankBefore}
use Rattle.vt_key.specs.declared.order.Rank.{Rank}
use Rattle.vt_key.proofs.OrderLemmas.{rank-transitive, rank-total, rank_before-true, before-rank_before}
use Rattle.vt_lp.proofs.Ends.{after-differs}
use Rattle.vt_pending.proofs.Holding.{before-differs}
use Rattle.vt_past.specs.declared.event.PastEvent.{PastEvent}
use Rattle.vt_lp.specs.inside.Held.{AllAfter, IsRisingPast}

-- the last that passes, of one more in front
find-back-more : {X : Type 0} (test : X → Bool) (x : X) (xs : List X) → find test (reverse (x ∷ xs)) ≡ option_or (find test (reverse xs)) (if test x then Some x else None)
find-back-more test x xs = ap (find test) (reverse-append (x ∷ []) xs) ∙ find-append test (reverse xs) (x ∷ [])

module _ {P K : Type 0} (r : Rank) where
  -- a past event that isn't after the rank
  abbrev pub is_reached : PastEvent P K → Bool
  is_reached e = not (rank_before r e.letter.event.rank)

  abbrev is_it : PastEvent P K → Bool
  is_it e = rank_same e.letter.event.rank r

  abbrev pub some_is_it : Option (PastEvent P K) → Bool
  some_is_it None = false
  some_is_it (Some e) = is_it e

  -- what is before one that isn't after the rank is before the rank
  earlier : (e d : PastEvent P K) → RankBefore e.letter.event.rank d.letter.event.rank → is_reached d ≡ true → RankBefore e.letter.event.rank r
  earlier e d before reached = elim (rank-total d.letter.event.rank r) [
    | inl less ↦ rank-transitive e.letter.event.rank d.letter.event.rank r before less
    | inr (inl is) ↦ subst (RankBefore e.letter.event.rank) is before
    | inr (inr more) ↦ absurd (let wrong : false ≡ true = sym (ap not (before-rank_before r d.letter.event.rank more)) ∙ reached in cc)
  ]

  one-reached : (e c d : PastEvent P K) (b : Bool) → RankBefore e.letter.event.rank c.letter.event.rank → is_reached c ≡ b → (if b then Some c else None) ≡ Some d → RankBefore e.letter.event.rank r
  one-reached e c d true before reached at = earlier e c before reached
  one-reached e c d false before reached at = absurd (none-some d at)

  -- what is before all that follow is before the rank, where one of them isn't after it
  before-reached : (e d : PastEvent P K) (ds : List (PastEvent P K)) → AllAfter e ds → find is_reached (reverse ds) ≡ Some d → RankBefore e.letter.event.rank r
  before-reached e d [] all at = absurd (none-some d at)
  before-reached e d (c ∷ cs) all at = from (find is_reached (reverse cs)) refl (λ x is. before-reached e x cs all.1 is) where
    from : (o : Option (PastEvent P K)) → find is_reached (reverse cs) ≡ o → ((x : PastEvent P K) → find is_reached (reverse cs) ≡ Some x → RankBefore e.letter.event.rank r)
        → RankBefore e.letter.event.rank r
    from (Some x) is more = more x is
    from None is more =
        one-reached e c d (is_reached c) all.0 refl (sym (ap (λ o. option_or o (if is_reached c then Some c else None)) is) ∙ sym (find-back-more is_reached c cs) ∙ at)

  first-reached : (e : PastEvent P K) → is_it e || false ≡ some_is_it (if is_reached e then Some e else None)
  first-reached e = from (rank_before r e.letter.event.rank) refl where
    or-false : (b : Bool) → b || false ≡ b
    or-false true = refl
    or-false false = refl

    from : (b : Bool) → rank_before r e.letter.event.rank ≡ b → is_it e || false ≡ some_is_it (if not b then Some e else None)
    from true is = ap (λ b. b || false) (after-differs r e.letter.event.rank (rank_before-true r e.letter.event.rank is))
    from false is = or-false (is_it e)

  -- of past events the last that isn't after the rank has it, or none has
  pub has-reached : (es : List (PastEvent P K)) → IsRisingPast es → some_is_it (find is_reached (reverse es)) ≡ list_any is_it es
  has-reached [] rises = refl
  has-reached (e ∷ es) rises = ap some_is_it (find-back-more is_reached e es) ∙ from (find is_reached (reverse es)) refl (has-reached es rises.1) where
    from : (o : Option (PastEvent P K)) → find is_reached (reverse es) ≡ o → some_is_it (find is_reached (reverse es)) ≡ list_any is_it es
        → some_is_it (option_or (find is_reached (reverse es)) (if is_reached e then Some e else None)) ≡ is_it e || list_any is_it es
    from None is others =
        ap (λ o. some_is_it (option_or o (if is_reached e then Some e else None))) is ∙ sym (first-reached e)
        ∙ ap (λ b. is_it e || b) (sym (ap some_is_it is) ∙ others)
    from (Some d) is others =
        ap (λ o. some_is_it (option_or o (if is_reached e then Some e else None))) is ∙ sym (ap some_is_it is) ∙ others
        ∙ ap (λ b. b || list_any is_it es) (sym (before-differs e.letter.event.rank r (before-reached e d es rises.0 is)))
