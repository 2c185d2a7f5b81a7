-- What of a list passes a test, and what of a list in rising rank does after a letter came or went.
use Rattle.std.proofs.Common.{Bool, true, false, if◌then◌else◌, ◌≡◌, refl, sym, ap, ◌∙◌}
use Rattle.std.specs.Prelude.{List, [], ◌∷◌, filter, find, Option, Some, None}
use Rattle.vt_key.specs.promise.Order.{rank_before}
use Rattle.vt_key.specs.inside.Order.{RankBefore}
use Rattle.vt_key.specs.promise.Queues.{without_first, letter_rank, insert_letter}
use Rattle.vt_key.specs.inside.Queues.{AllAfter, IsRising}
use Rattle.vt_key.specs.declared.order.Rank.{Rank}
use Rattle.vt_key.specs.declared.letter.Letter.{Letter}
use Rattle.vt_key.proofs.ListLemmas.{every-filter}
use Rattle.vt_key.proofs.OrderLemmas.{rank_before-true, before-rank_before}
use Rattle.vt_key.proofs.RisingLemmas.{AllAfter-before}

-- ---- of any list

module _ {X : Type 0} where
  -- two tests in either order
  pub filter-swap : (p q : X → Bool) (xs : List X) → filter p (filter q xs) ≡ filter q (filter p xs)
  filter-swap p q [] = refl
  filter-swap p q (x ∷ xs) =
      elim (q x) as (λ b. q x ≡ b → filter p (if b then x ∷ filter q xs else filter q xs) ≡ filter q (if p x then x ∷ filter p xs else filter p xs)) [
        | true ↦ λ e.
            elim (p x) as (λ c. (if c then x ∷ filter p (filter q xs) else filter p (filter q xs)) ≡ filter q (if c then x ∷ filter p xs else filter p xs)) [
              | true ↦ ap (λ l. x ∷ l) (filter-swap p q xs) ∙ sym (ap (λ b. if b then x ∷ filter q (filter p xs) else filter q (filter p xs)) e)
              | false ↦ filter-swap p q xs
            ]
        | false ↦ λ e.
            elim (p x) as (λ c. filter p (filter q xs) ≡ filter q (if c then x ∷ filter p xs else filter p xs)) [
              | true ↦ filter-swap p q xs ∙ sym (ap (λ b. if b then x ∷ filter q (filter p xs) else filter q (filter p xs)) e)
              | false ↦ filter-swap p q xs
            ]
      ] refl

  -- what passes p also passes q: of q's list p takes what it takes of all
  pub filter-within : (p q : X → Bool) → ((x : X) → p x ≡ true → q x ≡ true) → (xs : List X) → filter p (filter q xs) ≡ filter p xs
  filter-within p q also [] = refl
  filter-within p q also (x ∷ xs) =
      elim (q x) as (λ b. q x ≡ b → filter p (if b then x ∷ filter q xs else filter q xs) ≡ (if p x then x ∷ filter p xs else filter p xs)) [
        | true ↦ λ e. ap (λ l. if p x then x ∷ l else l) (filter-within p q also xs)
        | false ↦ λ e.
            elim (p x) as (λ c. p x ≡ c → filter p (filter q xs) ≡ (if c then x ∷ filter p xs else filter p xs)) [
              | true ↦ λ f. absurd (let h : true ≡ false = sym (also x f) ∙ e in cc)
              | false ↦ λ f. filter-within p q also xs
            ] refl
      ] refl

  module _ (test p : X → Bool) where
    -- the first that passes a test, where it passes p too
    pub find-filter : (x : X) (xs : List X) → find test xs ≡ Some x → p x ≡ true → find test (filter p xs) ≡ Some x
    find-filter x [] found own = found
    find-filter x (y ∷ ys) found own =
        elim (test y) as (λ b. test y ≡ b → (if b then Some y else find test ys) ≡ Some x → find test (if p y then y ∷ filter p ys else filter p ys) ≡ Some x) [
          | true ↦ λ e f.
              let passes : p y ≡ true = ap (λ o. passes_some o) f ∙ own in
              ap (λ c. find test (if c then y ∷ filter p ys else filter p ys)) passes ∙ ap (λ b. if b then Some y else find test (filter p ys)) e ∙ f
          | false ↦ λ e f.
              elim (p y) as (λ c. find test (if c then y ∷ filter p ys else filter p ys) ≡ Some x) [
                | true ↦ ap (λ b. if b then Some y else find test (filter p ys)) e ∙ find-filter x ys f own
                | false ↦ find-filter x ys f own
              ]
        ] refl found where
          passes_some : Option X → Bool
          passes_some None = true
          passes_some (Some z) = p z

    -- without it, what passes p is without it
    pub filter-without : (x : X) (xs : List X) → find test xs ≡ Some x → p x ≡ true → filter p (without_first test xs) ≡ without_first test (filter p xs)
    filter-without x [] found own = refl
    filter-without x (y ∷ ys) found own =
        elim (test y) as (λ b. test y ≡ b → (if b then Some y else find test ys) ≡ Some x → filter p (if b then ys else y ∷ without_first test ys) ≡ without_first test (if p y then y ∷ filter p ys else filter p ys)) [
          | true ↦ λ e f.
              let passes : p y ≡ true = ap (λ o. passes_some o) f ∙ own in
              sym (ap (λ c. without_first test (if c then y ∷ filter p ys else filter p ys)) passes ∙ ap (λ b. if b then filter p ys else y ∷ without_first test (filter p ys)) e)
          | false ↦ λ e f.
              elim (p y) as (λ c. (if c then y ∷ filter p (without_first test ys) else filter p (without_first test ys)) ≡ without_first test (if c then y ∷ filter p ys else filter p ys)) [
                | true ↦ ap (λ l. y ∷ l) (filter-without x ys f own) ∙ sym (ap (λ b. if b then filter p ys else y ∷ without_first test (filter p ys)) e)
                | false ↦ filter-without x ys f own
              ]
        ] refl found where
          passes_some : Option X → Bool
          passes_some None = true
          passes_some (Some z) = p z

    -- and where it doesn't pass p, what does stays
    pub filter-without-other : (x : X) (xs : List X) → find test xs ≡ Some x → p x ≡ false → filter p (without_first test xs) ≡ filter p xs
    filter-without-other x [] found own = refl
    filter-without-other x (y ∷ ys) found own =
        elim (test y) as (λ b. (if b then Some y else find test ys) ≡ Some x → filter p (if b then ys else y ∷ without_first test ys) ≡ (if p y then y ∷ filter p ys else filter p ys)) [
          | true ↦ λ f. sym (ap (λ c. if c then y ∷ filter p ys else filter p ys) (ap (λ o. fails_some o) f ∙ own))
          | false ↦ λ f. ap (λ l. if p y then y ∷ l else l) (filter-without-other x ys f own)
        ] found where
          fails_some : Option X → Bool
          fails_some None = false
          fails_some (Some z) = p z

-- ---- of letters in rising rank

module _ {P : Type 0} where
  -- a letter before all others goes to the front
  pub insert-first : (x : Letter P) (ls : List (Letter P)) → AllAfter (letter_rank x) ls → insert_letter x ls ≡ x ∷ ls
  insert-first x [] all = refl
  insert-first x (l ∷ ls) all = ap (λ b. if b then x ∷ l ∷ ls else l ∷ insert_letter x ls) (before-rank_before (letter_rank x) (letter_rank l) all.0)

  -- what passes, after a letter that passes was put where it belongs
  pub filter-insert : (p : Letter P → Bool) (x : Letter P) (ls : List (Letter P)) → p x ≡ true → IsRising ls → filter p (insert_letter x ls) ≡ insert_letter x (filter p ls)
  filter-insert p x [] own rises = ap (λ b. if b then x ∷ [] else []) own
  filter-insert p x (l ∷ ls) own rises =
      let r : Rank = letter_rank x in let s : Rank = letter_rank l in
      elim (rank_before r s) as (λ b. rank_before r s ≡ b → filter p (if b then x ∷ l ∷ ls else l ∷ insert_letter x ls) ≡ insert_letter x (filter p (l ∷ ls))) [
        | true ↦ λ e.
            let h : RankBefore r s = rank_before-true r s e in
            ap (λ b. if b then x ∷ filter p (l ∷ ls) else filter p (l ∷ ls)) own ∙ sym (insert-first x (filter p (l ∷ ls)) (every-filter _ p (l ∷ ls) (h, AllAfter-before r s ls h rises.0)))
        | false ↦ λ e.
            elim (p l) as (λ c. (if c then l ∷ filter p (insert_letter x ls) else filter p (insert_letter x ls)) ≡ insert_letter x (if c then l ∷ filter p ls else filter p ls)) [
              | true ↦ ap (λ ms. l ∷ ms) (filter-insert p x ls own rises.1) ∙ sym (ap (λ b. if b then x ∷ l ∷ filter p ls else l ∷ insert_letter x (filter p ls)) e)
              | false ↦ filter-insert p x ls own rises.1
            ]
      ] refl

  -- and after one that doesn't
  pub filter-insert-other : (p : Letter P → Bool) (x : Letter P) (ls : List (Letter P)) → p x ≡ false → filter p (insert_letter x ls) ≡ filter p ls
  filter-insert-other p x [] other = ap (λ b. if b then x ∷ [] else []) other
  filter-insert-other p x (l ∷ ls) other =
      elim (rank_before (letter_rank x) (letter_rank l)) as (λ b. filter p (if b then x ∷ l ∷ ls else l ∷ insert_letter x ls) ≡ filter p (l ∷ ls)) [
        | true ↦ ap (λ b. if b then x ∷ filter p (l ∷ ls) else filter p (l ∷ ls)) other
        | false ↦ ap (λ ms. if p l then l ∷ ms else ms) (filter-insert-other p x ls other)
      ]
