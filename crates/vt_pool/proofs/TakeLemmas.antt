-- A letter that is taken out of its place, and put back.
use Rattle.std.proofs.Common.{◌≡◌, ◌∙◌, ◌||◌, Bool, true, false, List, [], ◌∷◌, refl, ap, subst, inl, inr, if◌then◌else◌, Some, None}
use Rattle.std.specs.List.{find}
use Rattle.std.proofs.lemmas.Bool.{cases_Bool}
use Rattle.vt_key.specs.promise.Order.{rank_before}
use Rattle.vt_key.specs.inside.Order.{RankBefore}
use Rattle.vt_key.specs.promise.Queues.{insert_letter, without_first, letter_rank, has_rank}
use Rattle.vt_key.specs.inside.Queues.{holds_rank, IsRising}
use Rattle.vt_key.specs.declared.order.Rank.{Rank}
use Rattle.vt_key.specs.declared.letter.Letter.{Letter}
use Rattle.vt_key.proofs.ListLemmas.{every-find}
use Rattle.vt_key.proofs.OrderLemmas.{rank-irreflexive, rank-transitive, rank_before-true}
use Rattle.vt_pending.proofs.Filters.{insert-first}
use Rattle.vt_pending.proofs.Holding.{before-differs}
use Rattle.vt_lp.proofs.Ends.{none-after}

module _ {P : Type 0} where
  -- what was taken out, put back
  pub put-back : (rank : Rank) (message : Letter P) (letters : List (Letter P)) → IsRising letters → find (has_rank rank) letters ≡ Some message → insert_letter message (without_first (has_rank rank) letters) ≡ letters
  put-back rank message [] rises found = absurd (let k : None ≡ Some message = found in cc)
  put-back rank message (l ∷ ls) rises found =
      elim (has_rank rank l) as (λ b. (if b then Some l else find (has_rank rank) ls) ≡ Some message → insert_letter message (if b then ls else l ∷ without_first (has_rank rank) ls) ≡ l ∷ ls) [
        | true ↦ λ e.
            let same : l ≡ message = cc in
            subst (λ (x : Letter P). insert_letter x ls ≡ l ∷ ls) same (insert-first l ls rises.0)
        | false ↦ λ e.
            let before : RankBefore (letter_rank l) (letter_rank message) = every-find (λ (x : Letter P). RankBefore (letter_rank l) (letter_rank x)) (has_rank rank) ls message e rises.0 in
            let late : rank_before (letter_rank message) (letter_rank l) ≡ false = elim (cases_Bool (rank_before (letter_rank message) (letter_rank l))) [
              | inl is ↦ absurd (rank-irreflexive (letter_rank l) (rank-transitive (letter_rank l) (letter_rank message) (letter_rank l) before (rank_before-true (letter_rank message) (letter_rank l) is)))
              | inr is ↦ is
            ] in
            ap (λ (b : Bool). if b then message ∷ l ∷ without_first (has_rank rank) ls else l ∷ insert_letter message (without_first (has_rank rank) ls)) late
            ∙ ap (λ (ms : List (Letter P)). l ∷ ms) (put-back rank message ls rises.1 e)
      ] found

  -- its rank is not among those that are left
  pub taken-apart : (rank : Rank) (message : Letter P) (letters : List (Letter P)) → IsRising letters → find (has_rank rank) letters ≡ Some message → holds_rank (letter_rank message) (without_first (has_rank rank) letters) ≡ false
  taken-apart rank message [] rises found = refl
  taken-apart rank message (l ∷ ls) rises found =
      elim (has_rank rank l) as (λ b. (if b then Some l else find (has_rank rank) ls) ≡ Some message → holds_rank (letter_rank message) (if b then ls else l ∷ without_first (has_rank rank) ls) ≡ false) [
        | true ↦ λ e.
            let same : l ≡ message = cc in
            subst (λ (x : Letter P). holds_rank (letter_rank x) ls ≡ false) same (none-after (letter_rank l) ls rises.0)
        | false ↦ λ e.
            let before : RankBefore (letter_rank l) (letter_rank message) = every-find (λ (x : Letter P). RankBefore (letter_rank l) (letter_rank x)) (has_rank rank) ls message e rises.0 in
            ap (λ (b : Bool). b || holds_rank (letter_rank message) (without_first (has_rank rank) ls)) (before-differs (letter_rank l) (letter_rank message) before)
            ∙ taken-apart rank message ls rises.1 e
      ] found
