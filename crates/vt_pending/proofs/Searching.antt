-- The first letter of all that passes a test is the least of those that the lists have, and no list has it from the first one on that
-- begins behind what is found.
use Rattle.std.proofs.Common.{Bool, true, false, not, if◌then◌else◌, ◌≡◌, refl, sym, ap, ◌∙◌, inl, inr, subst}
use Rattle.std.specs.Prelude.{ℕ, List, [], ◌∷◌, filter, find, slice_get, Option, Some, None}
use Rattle.vt_key.specs.promise.Order.{rank_before}
use Rattle.vt_key.specs.inside.Order.{RankBefore}
use Rattle.vt_key.specs.promise.Queues.{letter_rank}
use Rattle.vt_key.specs.inside.Queues.{AllAfter, IsRising}
use Rattle.vt_key.specs.declared.order.Rank.{Rank}
use Rattle.vt_key.specs.declared.letter.Letter.{Letter}
use Rattle.vt_key.proofs.ListLemmas.{every-filter, rising-filter}
use Rattle.vt_key.proofs.OrderLemmas.{rank-total, rank-transitive, rank_before-true, before-rank_before}
use Rattle.vt_pending.specs.inside.Buckets.{in_bucket, not_in_bucket, both_before, lesser, least_from, AreLists}
use Rattle.vt_pending.proofs.Placing.{not-back}
use Rattle.vt_key.proofs.RisingLemmas.{AllAfter-before}
use Rattle.vt_pending.proofs.Lists.{own, in-own}

-- a rank that isn't before a second one isn't before a third one that isn't after the second
not-before : (a b c : Rank) → rank_before c b ≡ false → rank_before b a ≡ false → rank_before c a ≡ false
not-before a b c late later = elim (rank_before c a) as (λ t. rank_before c a ≡ t → t ≡ false) [
  | true ↦ λ e. elim (rank-total a b) [
    | inl h ↦ sym (before-rank_before c b (rank-transitive c a b (rank_before-true c a e) h)) ∙ late
    | inr h ↦ elim h [
      | inl same ↦ sym (subst (λ (n : Rank). rank_before c n ≡ true) same e) ∙ late
      | inr k ↦ sym (before-rank_before b a k) ∙ later
    ]
  ]
  | false ↦ λ e. refl
] refl

module _ {P : Type 0} where
  lesser-none : (o : Option (Letter P)) → lesser o None ≡ o
  lesser-none None = refl
  lesser-none (Some x) = refl

  -- of three in either order
  lesser-both : (o p q : Option (Letter P)) → lesser (lesser o p) q ≡ lesser o (lesser p q)
  lesser-both None p q = refl
  lesser-both (Some x) None q = refl
  lesser-both (Some x) (Some y) None = lesser-none (lesser (Some x) (Some y))
  lesser-both (Some x) (Some y) (Some z) =
      let a : Rank = letter_rank x in let b : Rank = letter_rank y in let c : Rank = letter_rank z in
      elim (rank_before b a) as (λ t. rank_before b a ≡ t → lesser (if t then Some y else Some x) (Some z) ≡ lesser (Some x) (if rank_before c b then Some z else Some y)) [
        | true ↦ λ e.
            elim (rank_before c b) as (λ u. rank_before c b ≡ u → (if u then Some z else Some y) ≡ lesser (Some x) (if u then Some z else Some y)) [
              | true ↦ λ f. sym (ap (λ v. if v then Some z else Some x) (before-rank_before c a (rank-transitive c b a (rank_before-true c b f) (rank_before-true b a e))))
              | false ↦ λ f. sym (ap (λ v. if v then Some y else Some x) e)
            ] refl
        | false ↦ λ e.
            elim (rank_before c b) as (λ u. rank_before c b ≡ u → (if rank_before c a then Some z else Some x) ≡ lesser (Some x) (if u then Some z else Some y)) [
              | true ↦ λ f. refl
              | false ↦ λ f. ap (λ v. if v then Some z else Some x) (not-before a b c f e) ∙ sym (ap (λ v. if v then Some y else Some x) e)
            ] refl
      ] refl

module _ {P : Type 0} (test : Letter P → Bool) where
  -- a letter before all others is the lesser one of it and what is found among them
  abbrev IsLess : Letter P → Option (Letter P) → Type 0
  IsLess x None = Unit {0}
  IsLess x (Some y) = RankBefore (letter_rank x) (letter_rank y)

  found-after : (x : Letter P) (ls : List (Letter P)) → AllAfter (letter_rank x) ls → IsLess x (find test ls)
  found-after x [] all = tt
  found-after x (l ∷ ls) all = elim (test l) as (λ b. IsLess x (if b then Some l else find test ls)) [ true ↦ all.0 | false ↦ found-after x ls all.1 ]

  lesser-first : (x : Letter P) (o : Option (Letter P)) → IsLess x o → lesser (Some x) o ≡ Some x
  lesser-first x None less = refl
  lesser-first x (Some y) less = ap (λ b. if b then Some y else Some x) (not-back (letter_rank x) (letter_rank y) less)

  lesser-second : (x : Letter P) (o : Option (Letter P)) → IsLess x o → lesser o (Some x) ≡ Some x
  lesser-second x None less = refl
  lesser-second x (Some y) less = ap (λ b. if b then Some x else Some y) (before-rank_before (letter_rank x) (letter_rank y) less)

  find-parts : (b : ℕ) (ls : List (Letter P)) → IsRising ls → lesser (find test (filter (in_bucket b) ls)) (find test (filter (not_in_bucket b) ls)) ≡ find test ls
  find-parts b [] rises = refl
  find-parts b (x ∷ xs) rises =
      let ours : List (Letter P) = filter (in_bucket b) xs in let others : List (Letter P) = filter (not_in_bucket b) xs in
      elim (in_bucket b x) as (λ c. lesser (find test (if c then x ∷ ours else ours)) (find test (if not c then x ∷ others else others)) ≡ (if test x then Some x else find test xs)) [
        | true ↦
            elim (test x) as (λ t. lesser (if t then Some x else find test ours) (find test others) ≡ (if t then Some x else find test xs)) [
              | true ↦ lesser-first x (find test others) (found-after x others (every-filter _ (not_in_bucket b) xs rises.0))
              | false ↦ find-parts b xs rises.1
            ]
        | false ↦
            elim (test x) as (λ t. lesser (find test ours) (if t then Some x else find test others) ≡ (if t then Some x else find test xs)) [
              | true ↦ lesser-second x (find test ours) (found-after x ours (every-filter _ (in_bucket b) xs rises.0))
              | false ↦ find-parts b xs rises.1
            ]
      ]

  -- what is before the first letter of all is the lesser one of it and of what is found among them
  found-before : (o : Option (Letter P)) (x : Letter P) (xs : List (Letter P)) → both_before o (Some x) ≡ true → IsRising (x ∷ xs) → lesser o (find test (x ∷ xs)) ≡ o
  found-before None x xs before rises = absurd (let h : false ≡ true = before in cc)
  found-before (Some z) x xs before rises =
      let h : RankBefore (letter_rank z) (letter_rank x) = rank_before-true (letter_rank z) (letter_rank x) before in
      lesser-first z (find test (x ∷ xs)) (found-after z (x ∷ xs) (h, AllAfter-before (letter_rank z) (letter_rank x) xs h rises.0))

  pub listed-find : (o : Option (Letter P)) (lists : List (List (Letter P))) (letters : List (Letter P)) → IsRising letters → AreLists lists letters → least_from test o lists ≡ lesser o (find test letters)
  listed-find o [] [] rises listed = sym (lesser-none o)
  listed-find o [] (x ∷ xs) rises listed = absurd listed
  listed-find o (list ∷ lists) [] rises listed = absurd listed
  listed-find o (list ∷ lists) (x ∷ xs) rises listed =
      let others : List (Letter P) = filter (not_in_bucket (own x)) xs in
      let first : list ≡ filter (in_bucket (own x)) (x ∷ xs) = listed.0 ∙ sym (ap (λ c. if c then x ∷ filter (in_bucket (own x)) xs else filter (in_bucket (own x)) xs) (in-own x)) in
      let rest : others ≡ filter (not_in_bucket (own x)) (x ∷ xs) = sym (ap (λ c. if not c then x ∷ others else others) (in-own x)) in
      let all : lesser (find test list) (find test others) ≡ find test (x ∷ xs) = (λ i. lesser (find test (first i)) (find test (rest i))) ∙ find-parts (own x) (x ∷ xs) rises in
      let on : least_from test (lesser o (find test list)) lists ≡ lesser o (find test (x ∷ xs)) =
      listed-find (lesser o (find test list)) lists others (rising-filter _ (not_in_bucket (own x)) xs rises.1) listed.1
      ∙ lesser-both o (find test list) (find test others) ∙ ap (lesser o) all in
      ap (λ l. if both_before o (slice_get l 0) then o else least_from test (lesser o (find test list)) lists) listed.0
      ∙ elim (both_before o (Some x)) as (λ t. both_before o (Some x) ≡ t → (if t then o else least_from test (lesser o (find test list)) lists) ≡ lesser o (find test (x ∷ xs))) [
        | true ↦ λ e. sym (found-before o x xs e rises)
        | false ↦ λ e. on
      ] refl
