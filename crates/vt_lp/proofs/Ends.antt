-- No letter after a rank has it.
use Rattle.std.proofs.Common.{◌≡◌, ◌||◌, false, List, [], ◌∷◌, refl, subst, ◌∙◌, ap, inl, inr}
use Rattle.std.proofs.lemmas.Bool.{cases_Bool}
use Rattle.vt_key.specs.promise.Order.{rank_same}
use Rattle.vt_key.specs.inside.Order.{RankBefore}
use Rattle.vt_key.specs.promise.Queues.{letter_rank}
use Rattle.vt_key.specs.inside.Queues.{holds_rank, AllAfter}
use Rattle.vt_key.specs.declared.order.Rank.{Rank}
use Rattle.vt_key.specs.declared.letter.Letter.{Letter}
use Rattle.vt_key.proofs.OrderLemmas.{rank-irreflexive, rank_same-true}

-- a rank that is after another is not the same
pub after-differs : (a b : Rank) → RankBefore a b → rank_same b a ≡ false
after-differs a b before = elim (cases_Bool (rank_same b a)) [
  | inl is ↦ absurd (rank-irreflexive a (subst (RankBefore a) (rank_same-true b a is) before))
  | inr is ↦ is
]

module _ {P : Type 0} where
  -- letters after a rank do not have it
  pub none-after : (r : Rank) (ls : List (Letter P)) → AllAfter r ls → holds_rank r ls ≡ false
  none-after r [] all = refl
  none-after r (l ∷ ls) all = ap (λ b. b || holds_rank r ls) (after-differs r (letter_rank l) all.0) ∙ none-after r ls all.1
