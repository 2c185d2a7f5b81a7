-- Letters whose ranks rise strictly: one is put in its place, and one is taken out.
use Rattle.std.proofs.Common.{Bool, true, false, ◌||◌, if◌then◌else◌, ◌≡◌, refl, sym, ◌∙◌, inl, inr, subst}
use Rattle.std.specs.Prelude.{List, [], ◌∷◌}
use Rattle.std.specs.List.{list_any}
use Rattle.vt_key.specs.promise.Order.{rank_before, rank_same}
use Rattle.vt_key.specs.inside.Order.{RankBefore}
use Rattle.vt_key.specs.promise.Queues.{without_first, letter_rank, has_rank, insert_letter}
use Rattle.vt_key.specs.inside.Queues.{holds_rank, AllAfter, IsRising}
use Rattle.vt_key.specs.declared.order.Rank.{Rank}
use Rattle.vt_key.specs.declared.letter.Letter.{Letter}
use Rattle.vt_key.proofs.ListLemmas.{every-weaker, every-insert_ordered, every-without_first}
use Rattle.vt_key.proofs.OrderLemmas.{rank-transitive, rank-total, rank_before-true, before-rank_before, same-rank_same}

-- neither of two
pub first-false : (b c : Bool) → (b || c) ≡ false → b ≡ false
first-false true c e = e
first-false false c e = refl

pub second-false : (b c : Bool) → (b || c) ≡ false → c ≡ false
second-false true c e = absurd (let h : true ≡ false = e in cc)
second-false false c e = e

-- a rank that is neither before another nor that one is after it
after : (a b : Rank) → rank_before a b ≡ false → rank_same b a ≡ false → RankBefore b a
after a b late other = elim (rank-total a b) [
  | inl h ↦ absurd (let e : true ≡ false = sym (before-rank_before a b h) ∙ late in cc)
  | inr h ↦ elim h [
    | inl e ↦ absurd (let f : true ≡ false = sym (subst (λ (r : Rank). rank_same r a ≡ true) e (same-rank_same a)) ∙ other in cc)
    | inr k ↦ k
  ]
]

module _ {P : Type 0} where
  -- what is after a rank is after each rank before it
  pub AllAfter-before : (a b : Rank) (ls : List (Letter P)) → RankBefore a b → AllAfter b ls → AllAfter a ls
  AllAfter-before a b ls h all = every-weaker _ _ ls (λ l. rank-transitive a b (letter_rank l) h) all

  -- a letter of another rank than all others is put in its place
  pub IsRising-insert : (x : Letter P) (ls : List (Letter P)) → holds_rank (letter_rank x) ls ≡ false → IsRising ls → IsRising (insert_letter x ls)
  IsRising-insert x [] none rises = (tt, tt)
  IsRising-insert x (l ∷ ls) none rises =
      let r : Rank = letter_rank x in let s : Rank = letter_rank l in
      elim (rank_before r s) as (λ b. rank_before r s ≡ b → IsRising (if b then x ∷ l ∷ ls else l ∷ insert_letter x ls)) [
        | true ↦ λ e. let h = rank_before-true r s e in ((h, AllAfter-before r s ls h rises.0), rises)
        | false ↦ λ e.
            let here : rank_same s r ≡ false = first-false (rank_same s r) (list_any (has_rank r) ls) none in
            let there : list_any (has_rank r) ls ≡ false = second-false (rank_same s r) (list_any (has_rank r) ls) none in
            (every-insert_ordered (λ a b. rank_before (letter_rank a) (letter_rank b)) _ x ls (after r s e here) rises.0, IsRising-insert x ls there rises.1)
      ] refl

  -- one letter is taken out
  pub IsRising-without : (test : Letter P → Bool) (ls : List (Letter P)) → IsRising ls → IsRising (without_first test ls)
  IsRising-without test [] rises = tt
  IsRising-without test (l ∷ ls) rises =
      elim (test l) as (λ b. IsRising (if b then ls else l ∷ without_first test ls)) [
        | true ↦ rises.1
        | false ↦ (every-without_first _ test ls rises.0, IsRising-without test ls rises.1)
      ]
