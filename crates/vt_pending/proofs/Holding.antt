-- Letters in rising rank: what the first one that isn't before a rank tells of all.
use Rattle.std.proofs.Common.{Bool, true, false, not, ◌||◌, if◌then◌else◌, ◌≡◌, refl, sym, ◌∙◌, ap, subst}
use Rattle.std.specs.Prelude.{List, [], ◌∷◌, Some, filter, find}
use Rattle.vt_key.specs.promise.Order.{rank_before, rank_same}
use Rattle.vt_key.specs.inside.Order.{RankBefore}
use Rattle.vt_key.specs.promise.Queues.{letter_rank, has_rank}
use Rattle.vt_key.specs.inside.Queues.{holds_rank, AllAfter, IsRising}
use Rattle.vt_key.specs.declared.order.Rank.{Rank}
use Rattle.vt_key.specs.declared.letter.Letter.{Letter}
use Rattle.vt_key.proofs.OrderLemmas.{rank-irreflexive, rank_before-true, before-rank_before, rank_same-true}
use Rattle.vt_pending.specs.inside.Letters.{some_has_rank, is_reached}
use Rattle.vt_key.proofs.RisingLemmas.{first-false, second-false}

-- a rank that is before another is not the same
pub before-differs : (a r : Rank) → RankBefore a r → rank_same a r ≡ false
before-differs a r before = elim (rank_same a r) as (λ b. rank_same a r ≡ b → b ≡ false) [
  | true ↦ λ is. absurd (rank-irreflexive a (subst (RankBefore a) (sym (rank_same-true a r is)) before))
  | false ↦ λ is. refl
] refl

module _ {P : Type 0} (r : Rank) where
  -- none that is after one that isn't before the rank has it
  pub none-holds : (a : Rank) (ls : List (Letter P)) → rank_before a r ≡ false → AllAfter a ls → holds_rank r ls ≡ false
  none-holds a [] reached all = refl
  none-holds a (l ∷ ls) reached all = elim (has_rank r l) as (λ b. has_rank r l ≡ b → b || holds_rank r ls ≡ false) [
    | true ↦ λ is.
        let early = before-rank_before a r (subst (RankBefore a) (rank_same-true (letter_rank l) r is) all.0) in
        absurd (let wrong : true ≡ false = sym early ∙ reached in cc)
    | false ↦ λ is. none-holds a ls reached all.1
  ] refl

  -- of letters in rising rank the first that isn't before a rank has it, or none has
  pub holds-first : (ls : List (Letter P)) → IsRising ls → some_has_rank r (find (is_reached r) ls) ≡ holds_rank r ls
  holds-first [] rises = refl
  holds-first (l ∷ ls) rises =
      elim (rank_before (letter_rank l) r) as (λ b. rank_before (letter_rank l) r ≡ b → some_has_rank r (if not b then Some l else find (is_reached r) ls) ≡ has_rank r l || holds_rank r ls) [
        | true ↦ λ is. holds-first ls rises.1 ∙ ap (λ b. b || holds_rank r ls) (sym (before-differs (letter_rank l) r (rank_before-true (letter_rank l) r is)))
        | false ↦ λ is. alone (has_rank r l) (holds_rank r ls) (none-holds (letter_rank l) ls is rises.0)
      ] refl where
        alone : (b c : Bool) → c ≡ false → b ≡ b || c
        alone true c none = refl
        alone false c none = sym none

  -- no letter of a list has it, so none of those that pass a test has
  pub holds-filter : (p : Letter P → Bool) (ls : List (Letter P)) → holds_rank r ls ≡ false → holds_rank r (filter p ls) ≡ false
  holds-filter p [] none = none
  holds-filter p (l ∷ ls) none =
      let more = holds-filter p ls (second-false (has_rank r l) (holds_rank r ls) none) in
      elim (p l) as (λ b. holds_rank r (if b then l ∷ filter p ls else filter p ls) ≡ false) [
        | true ↦ ap (λ b. b || holds_rank r (filter p ls)) (first-false (has_rank r l) (holds_rank r ls) none) ∙ more
        | false ↦ more
      ]
