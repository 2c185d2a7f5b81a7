-- The least rank and the least time of two queues, from their least letters.
use Rattle.std.proofs.Common.{◌≡◌, ◌++◌, true, false, not, if◌then◌else◌, List, [], ◌∷◌, Option, Some, slice_get, refl, sym, subst, ap, arith}
use Rattle.std.specs.Prelude.{ℕ, All, IfSome, IfNone}
use Rattle.std.proofs.lemmas.List.Elements.{All-head}
use Rattle.vt_key.specs.promise.Times.{Time}
use Rattle.vt_key.specs.promise.Order.{rank_before}
use Rattle.vt_key.specs.declared.order.Rank.{Rank}
use Rattle.vt_key.specs.declared.letter.Letter.{Letter}
use Rattle.vt_key.specs.declared.letter.Sign.{Sign}
use Rattle.vt_steps.specs.promise.Letters.{letter_time, least_time}
use Rattle.vt_steps.proofs.letters.RankTimes.{rank-time, not-after-time}
use Rattle.vt_key.specs.inside.Queues.{IsRising}
use Rattle.vt_lp.specs.inside.Held.{IsOwnLetter}
use Rattle.vt_lp.specs.inside.Guards.{lesser_rank}
use Rattle.vt_lp.proofs.RisingLemmas.{least_time-rising, least_time-both}

module _ {P : Type 0} (p : ℕ) (end : Time) where
  -- the least time of letters of a process is their first one's
  first-time : (sign : Sign) (l : Letter P) (ls : List (Letter P)) → IsRising (l ∷ ls) → All (IsOwnLetter p end sign) (l ∷ ls) → least_time end (l ∷ ls) ≡ letter_time l
  first-time sign l ls rises own = let h = (All-head (IsOwnLetter p end sign) l ls own).soon in least_time-rising end l ls (omega arith) rises

  lesser-first : (t s : Sign) (xs ys : List (Letter P)) → IsRising xs → IsRising ys → All (IsOwnLetter p end s) xs → All (IsOwnLetter p end t) ys →
      IfSome (lesser_rank (slice_get xs 0) (slice_get ys 0)) (λ rank. rank.key.time ≡ least_time end (xs ++ ys))
  lesser-first t s [] [] rises rise own owns = tt
  lesser-first t s (x ∷ xs) [] rises rise own owns =
      let h = first-time s x xs rises own in
      let k = (All-head (IsOwnLetter p end s) x xs own).soon in
      let both = least_time-both end (x ∷ xs) [] in
      omega arith
  lesser-first t s [] (y ∷ ys) rises rise own owns = sym (first-time t y ys rise owns)
  lesser-first t s (x ∷ xs) (y ∷ ys) rises rise own owns =
      let h = first-time s x xs rises own in
      let k = first-time t y ys rise owns in
      let both = least_time-both end (x ∷ xs) (y ∷ ys) in
      elim (rank_before y.event.rank x.event.rank) as (λ b. rank_before y.event.rank x.event.rank ≡ b →
      IfSome (if b then Some y.event.rank else Some x.event.rank) (λ rank. rank.key.time ≡ least_time end ((x ∷ xs) ++ y ∷ ys))) [
        | true ↦ λ is. let order = rank-time y.event.rank x.event.rank is in omega arith
        | false ↦ λ is. let order = not-after-time y.event.rank x.event.rank (ap not is) in omega arith
      ] refl

  -- the lesser of the two least ranks has the least time
  pub lesser-time : (t s : Sign) (xs ys : List (Letter P)) (o : Option Rank) → o ≡ lesser_rank (slice_get xs 0) (slice_get ys 0) → IsRising xs → IsRising ys →
      All (IsOwnLetter p end s) xs → All (IsOwnLetter p end t) ys → IfSome o (λ rank. rank.key.time ≡ least_time end (xs ++ ys))
  lesser-time t s xs ys o is rises rise own owns =
      subst (λ (a : Option Rank). IfSome a (λ rank. rank.key.time ≡ least_time end (xs ++ ys))) (sym is) (lesser-first t s xs ys rises rise own owns)

module _ {P : Type 0} where
  lesser-nothing : (xs ys : List (Letter P)) → IfNone (lesser_rank (slice_get xs 0) (slice_get ys 0)) ((xs ≡ []) × (ys ≡ []))
  lesser-nothing [] [] = (refl, refl)
  lesser-nothing (x ∷ xs) [] = tt
  lesser-nothing [] (y ∷ ys) = tt
  lesser-nothing (x ∷ xs) (y ∷ ys) = elim (rank_before y.event.rank x.event.rank) as (λ b.
      IfNone (if b then Some y.event.rank else Some x.event.rank) ((x ∷ xs ≡ []) × (y ∷ ys ≡ []))) [ true ↦ tt | false ↦ tt ]

  -- there is none where there is no letter
  pub lesser-none : (xs ys : List (Letter P)) (o : Option Rank) → o ≡ lesser_rank (slice_get xs 0) (slice_get ys 0) → IfNone o ((xs ≡ []) × (ys ≡ []))
  lesser-none xs ys o is = subst (λ (a : Option Rank). IfNone a ((xs ≡ []) × (ys ≡ []))) (sym is) (lesser-nothing xs ys)
