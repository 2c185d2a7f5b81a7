-- Letters in rising rank: what is asked of all of them, the least one answers.
use Rattle.std.proofs.Common.{◌≡◌, ◌||◌, inl, inr, ◌++◌, Bool, true, false, not, List, [], ◌∷◌, Some, None, slice_get, refl, sym, ◌∙◌, ap, arith}
use Rattle.std.specs.List.{list_any}
use Rattle.std.proofs.lemmas.Bool.{cases_Bool}
use Rattle.vt_key.specs.promise.Times.{Time, TimeAtMost, earlier}
use Rattle.vt_key.specs.promise.Order.{rank_before}
use Rattle.vt_key.specs.inside.Order.{RankBefore}
use Rattle.vt_key.specs.declared.order.Rank.{Rank}
use Rattle.vt_key.specs.declared.letter.Letter.{Letter}
use Rattle.vt_key.proofs.OrderLemmas.{rank-transitive, rank_before-true, before-rank_before}
use Rattle.vt_steps.specs.promise.Letters.{letter_time, least_time}
use Rattle.vt_steps.proofs.letters.RankTimes.{rank-order-time}
use Rattle.vt_key.specs.inside.Queues.{AllAfter, IsRising}

module _ {P : Type 0} where
  -- where all letters are after a rank, none is before what that rank is not before
  none-before : (a r : Rank) (ls : List (Letter P)) → rank_before a r ≡ false → AllAfter a ls → list_any (λ l. rank_before l.event.rank r) ls ≡ false
  none-before a r [] late all = refl
  none-before a r (l ∷ ls) late all = elim (cases_Bool (rank_before l.event.rank r)) [
    | inl is ↦
        absurd (let early = before-rank_before a r (rank-transitive a l.event.rank r all.0 (rank_before-true l.event.rank r is)) in
        let e : true ≡ false = sym early ∙ late in cc)
    | inr is ↦ ap (λ b. b || list_any (λ (x : Letter P). rank_before x.event.rank r) ls) is ∙ none-before a r ls late all.1
  ]

  -- a rank that is before another is before all that are after that one
  all-after : (r a : Rank) (ls : List (Letter P)) → RankBefore r a → AllAfter a ls → list_any (λ l. not (rank_before r l.event.rank)) ls ≡ false
  all-after r a [] before all = refl
  all-after r a (l ∷ ls) before all =
      ap (λ b. not b || list_any (λ (x : Letter P). not (rank_before r x.event.rank)) ls) (before-rank_before r l.event.rank (rank-transitive r a l.event.rank before all.0))
      ∙ all-after r a ls before all.1

  -- some letter is before a rank where the least is
  pub any-before : (r : Rank) (l : Letter P) (ls : List (Letter P)) → IsRising (l ∷ ls) → list_any (λ x. rank_before x.event.rank r) (l ∷ ls) ≡ rank_before l.event.rank r
  any-before r l ls rises = elim (cases_Bool (rank_before l.event.rank r)) [
    | inl is ↦ ap (λ b. b || list_any (λ (x : Letter P). rank_before x.event.rank r) ls) is ∙ sym is
    | inr is ↦ ap (λ b. b || list_any (λ (x : Letter P). rank_before x.event.rank r) ls) is ∙ none-before l.event.rank r ls is rises.0 ∙ sym is
  ]

  -- some letter is not after a rank where the least is not
  pub any-not-after : (r : Rank) (l : Letter P) (ls : List (Letter P)) → IsRising (l ∷ ls) → list_any (λ x. not (rank_before r x.event.rank)) (l ∷ ls) ≡ not (rank_before r l.event.rank)
  any-not-after r l ls rises = elim (cases_Bool (rank_before r l.event.rank)) [
    | inl is ↦
        ap (λ b. not b || list_any (λ (x : Letter P). not (rank_before r x.event.rank)) ls) is ∙ all-after r l.event.rank ls (rank_before-true r l.event.rank is) rises.0
        ∙ sym (ap not is)
    | inr is ↦ ap (λ b. not b || list_any (λ (x : Letter P). not (rank_before r x.event.rank)) ls) is ∙ sym (ap not is)
  ]

  -- the same, with the least letter as a queue tells it
  pub any-before-least : (r : Rank) (l : Letter P) (ls : List (Letter P)) → slice_get ls 0 ≡ Some l → IsRising ls → list_any (λ x. rank_before x.event.rank r) ls ≡ rank_before l.event.rank r
  any-before-least r l [] at rises = absurd (let e : None ≡ Some l = at in cc)
  any-before-least r l (x ∷ xs) at rises = let same : x ≡ l = cc in any-before r x xs rises ∙ ap (λ (y : Letter P). rank_before y.event.rank r) same

  pub any-not-after-least : (r : Rank) (l : Letter P) (ls : List (Letter P)) → slice_get ls 0 ≡ Some l → IsRising ls →
      list_any (λ x. not (rank_before r x.event.rank)) ls ≡ not (rank_before r l.event.rank)
  any-not-after-least r l [] at rises = absurd (let e : None ≡ Some l = at in cc)
  any-not-after-least r l (x ∷ xs) at rises = let same : x ≡ l = cc in any-not-after r x xs rises ∙ ap (λ (y : Letter P). not (rank_before r y.event.rank)) same

  -- no letter, no test passes
  pub any-none : (test : Letter P → Bool) (ls : List (Letter P)) → slice_get ls 0 ≡ None → list_any test ls ≡ false
  any-none test [] at = refl
  any-none test (x ∷ xs) at = absurd (let e : Some x ≡ None = at in cc)

  -- ---- the least time

  -- all after a rank are not earlier
  least-after : (end : Time) (a : Rank) (ls : List (Letter P)) → TimeAtMost a.key.time end → AllAfter a ls → TimeAtMost a.key.time (least_time end ls)
  least-after end a [] soon all = soon
  least-after end a (l ∷ ls) soon all =
      let h = rank-order-time a l.event.rank all.0 in
      let k = least-after end a ls soon all.1 in
      omega arith

  -- the least time is the least letter's
  pub least_time-rising : (end : Time) (l : Letter P) (ls : List (Letter P)) → TimeAtMost (letter_time l) end → IsRising (l ∷ ls) → least_time end (l ∷ ls) ≡ letter_time l
  least_time-rising end l ls soon rises = let h = least-after end l.event.rank ls soon rises.0 in omega arith

  -- the least time is not after the end
  least_time-end : (end : Time) (ls : List (Letter P)) → TimeAtMost (least_time end ls) end
  least_time-end end [] = omega arith
  least_time-end end (l ∷ ls) = let h = least_time-end end ls in omega arith

  -- of two lists, it is the earlier of theirs
  pub least_time-both : (end : Time) (xs ys : List (Letter P)) → least_time end (xs ++ ys) ≡ earlier (least_time end xs) (least_time end ys)
  least_time-both end [] ys = let h = least_time-end end ys in omega arith
  least_time-both end (x ∷ xs) ys = let h = least_time-both end xs ys in omega arith
