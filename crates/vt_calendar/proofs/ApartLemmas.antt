-- Letters of different ranks in the order of their ranks, when one comes and when one is taken out.
use Rattle.std.proofs.Common.{◌≡◌, ℕ, suc, ◌+◌, ◌<◌, ◌≤◌, inl, inr, Bool, true, false, ◌||◌, if◌then◌else◌, List, [], ◌∷◌, length, slice_index_or, find, Some, None, refl, sym, subst, ap, ◌∙◌, arith}
use Rattle.std.specs.List.{Contains}
use Rattle.std.specs.List.Sorted.{IsPermutation}
use Rattle.std.proofs.lemmas.List.Sums.{sum_by-cons}
use Rattle.std.proofs.lemmas.List.Sorted.{Contains-permutation, IsPermutation-refl, IsPermutation-sym, IsPermutation-trans, IsPermutation-cons, IsPermutation-middle, sum_by-IsPermutation}
use Rattle.std.proofs.lemmas.Option.{slice_get-get_or}
use Rattle.std.proofs.lemmas.Bool.{cases_Bool}
use Rattle.vt_key.specs.promise.Order.{rank_before, rank_same}
use Rattle.vt_key.specs.inside.Order.{RankBefore}
use Rattle.vt_key.specs.promise.Lists.{Among}
use Rattle.vt_key.specs.promise.Queues.{letter_rank, has_rank, insert_letter, without_first}
use Rattle.vt_key.specs.inside.Queues.{holds_rank, IsRising, AllAfter}
use Rattle.vt_key.specs.declared.order.Rank.{Rank}
use Rattle.vt_key.specs.declared.letter.Letter.{Letter}
use Rattle.vt_key.proofs.ListLemmas.{get-among, every-among}
use Rattle.vt_key.proofs.OrderLemmas.{rank-irreflexive, rank-transitive, rank-total, before-rank_before, rank_same-true, same-rank_same}
use Rattle.vt_key.proofs.RisingLemmas.{IsRising-insert, first-false, second-false}
use Rattle.vt_calendar.specs.inside.Kept.{in_order, count_rank, AreApart, would_lead}
use Rattle.vt_calendar.proofs.OrderLemmas.{insert-leads, permuted-insert}

among-contains : {X : Type 0} (d : X) (es : List X) → Among d es → Contains es d
among-contains d [] m = absurd m
among-contains d (e ∷ es) (inl at) = (0, (let z : 0 < length (e ∷ es) = omega arith in z), sym at)
among-contains d (e ∷ es) (inr m) = let r = among-contains d es m in let k : ℕ = r.0 in let less : k < length es = r.1 in (suc k, (let z : suc k < length (e ∷ es) = omega (arith, less) in z), r.2)

-- what stands in a list stands in each order of it
pub among-permuted : {X : Type 0} (xs ys : List X) → IsPermutation xs ys → (d : X) → Among d xs → Among d ys
among-permuted xs ys h d m =
    let r = Contains-permutation xs ys d h (among-contains d xs m) in
    subst (λ x. Among x ys) r.2 (get-among ys r.0 (slice_index_or ys r.0 d) (slice_get-get_or ys r.0 d r.1))

module _ {P : Type 0} where
  abbrev one_held : Rank → Letter P → ℕ
  one_held k e = if has_rank k e then 1 else 0

  held-one : (k : Rank) (e : Letter P) → letter_rank e ≡ k → one_held k e ≡ 1
  held-one k e same = ap (λ (b : Bool). if b then 1 else 0) (ap (λ (l : Rank). rank_same l k) same ∙ same-rank_same k)

  some-held : (k : Rank) (d : Letter P) (es : List (Letter P)) → Among d es → letter_rank d ≡ k → 1 ≤ count_rank k es
  some-held k d [] m same = absurd m
  some-held k d (e ∷ es) (inl at) same =
      let one : one_held k e ≡ 1 = held-one k e (ap letter_rank (sym at) ∙ same) in
      let both : count_rank k (e ∷ es) ≡ one_held k e + count_rank k es = sum_by-cons (one_held k) e es in omega (arith, one, both)
  some-held k d (e ∷ es) (inr m) same =
      let more : 1 ≤ count_rank k es = some-held k d es m same in
      let both : count_rank k (e ∷ es) ≡ one_held k e + count_rank k es = sum_by-cons (one_held k) e es in omega (arith, more, both)

  -- a rank that no letter has isn't held, and the other way round
  none-holds : (k : Rank) (es : List (Letter P)) → count_rank k es ≡ 0 → holds_rank k es ≡ false
  none-holds k [] none = refl
  none-holds k (e ∷ es) none =
      let both : count_rank k (e ∷ es) ≡ one_held k e + count_rank k es = sum_by-cons (one_held k) e es in
      elim (cases_Bool (has_rank k e)) [
        | inl y ↦ let one : one_held k e ≡ 1 = ap (λ (b : Bool). if b then 1 else 0) y in absurd (omega (arith, none, both, one))
        | inr y ↦ let rest : count_rank k es ≡ 0 = omega (arith, none, both) in ap (λ b. b || holds_rank k es) y ∙ none-holds k es rest
      ]

  holds-none : (k : Rank) (es : List (Letter P)) → holds_rank k es ≡ false → count_rank k es ≡ 0
  holds-none k [] none = refl
  holds-none k (e ∷ es) none =
      let both : count_rank k (e ∷ es) ≡ one_held k e + count_rank k es = sum_by-cons (one_held k) e es in
      elim (cases_Bool (has_rank k e)) [
        | inl y ↦ absurd (let z : true ≡ false = sym (ap (λ b. b || holds_rank k es) y) ∙ none in cc)
        | inr y ↦
            let one : one_held k e ≡ 0 = ap (λ (b : Bool). if b then 1 else 0) y in
            let rest : count_rank k es ≡ 0 = holds-none k es (sym (ap (λ b. b || holds_rank k es) y) ∙ none) in omega (arith, both, one, rest)
      ]

  -- letters in order are the same letters
  pub permuted-order : (xs : List (Letter P)) → IsPermutation xs (in_order xs)
  permuted-order [] = IsPermutation-refl []
  permuted-order (x ∷ xs) = IsPermutation-trans (x ∷ xs) (x ∷ in_order xs) (insert_letter x (in_order xs)) (IsPermutation-cons x xs (in_order xs) (permuted-order xs)) (permuted-insert x (in_order xs))

  pub apart-permuted : (xs ys : List (Letter P)) → IsPermutation xs ys → AreApart xs → AreApart ys
  apart-permuted xs ys h apart k = let same : count_rank k ys ≡ count_rank k xs = sum_by-IsPermutation (one_held k) xs ys h in let a : count_rank k xs ≤ 1 = apart k in omega (arith, same, a)

  apart-rest : (x : Letter P) (xs : List (Letter P)) → AreApart (x ∷ xs) → AreApart xs
  apart-rest x xs apart k = let few : count_rank k (x ∷ xs) ≤ 1 = apart k in let sum : count_rank k (x ∷ xs) ≡ one_held k x + count_rank k xs = sum_by-cons (one_held k) x xs in omega (arith, few, sum)

  apart-first : (x : Letter P) (xs : List (Letter P)) → AreApart (x ∷ xs) → count_rank (letter_rank x) xs ≡ 0
  apart-first x xs apart =
      let few : count_rank (letter_rank x) (x ∷ xs) ≤ 1 = apart (letter_rank x) in
      let sum : count_rank (letter_rank x) (x ∷ xs) ≡ one_held (letter_rank x) x + count_rank (letter_rank x) xs = sum_by-cons (one_held (letter_rank x)) x xs in
      let one : one_held (letter_rank x) x ≡ 1 = held-one (letter_rank x) x refl in omega (arith, few, sum, one)

  same-count : (k : Rank) (xs : List (Letter P)) → count_rank k (in_order xs) ≡ count_rank k xs
  same-count k xs = sum_by-IsPermutation (one_held k) xs (in_order xs) (permuted-order xs)

  -- letters of different ranks rise in order
  pub rising-order : (xs : List (Letter P)) → AreApart xs → IsRising (in_order xs)
  rising-order [] apart = tt
  rising-order (x ∷ xs) apart =
      IsRising-insert x (in_order xs) (none-holds (letter_rank x) (in_order xs) (same-count (letter_rank x) xs ∙ apart-first x xs apart)) (rising-order xs (apart-rest x xs apart))

  after-among : (r : Rank) (xs : List (Letter P)) (y : Letter P) → AllAfter r xs → Among y xs → RankBefore r (letter_rank y)
  after-among r xs y all m = every-among (λ (l : Letter P). RankBefore r (letter_rank l)) xs y all m

  -- rising letters that are the same ones are one list
  pub rising-same : (xs ys : List (Letter P)) → IsRising xs → IsRising ys → ((e : Letter P) → Among e xs → Among e ys) → ((e : Letter P) → Among e ys → Among e xs) → xs ≡ ys
  rising-same [] [] r s f g = refl
  rising-same [] (y ∷ ys) r s f g = absurd (g y (inl refl))
  rising-same (x ∷ xs) [] r s f g = absurd (f x (inl refl))
  rising-same (x ∷ xs) (y ∷ ys) r s f g =
      let same : x ≡ y =
      elim (f x (inl refl)) [
        | inl e ↦ e
        | inr h ↦ elim (g y (inl refl)) [
          | inl e ↦ sym e
          | inr k ↦
              absurd (rank-irreflexive (letter_rank y) (rank-transitive (letter_rank y) (letter_rank x) (letter_rank y) (after-among (letter_rank y) ys x s.0 h) (after-among (letter_rank x) xs y r.0 k)))
        ]
      ] in
      let forth : (e : Letter P) → Among e xs → Among e ys =
      λ e h. elim (f e (inr h)) [
        | inr k ↦ k
        | inl at ↦
            absurd (rank-irreflexive (letter_rank x) (subst (λ (d : Letter P). RankBefore (letter_rank x) (letter_rank d)) (at ∙ sym same) (after-among (letter_rank x) xs e r.0 h)))
      ] in
      let back : (e : Letter P) → Among e ys → Among e xs =
      λ e h. elim (g e (inr h)) [
        | inr k ↦ k
        | inl at ↦
            absurd (rank-irreflexive (letter_rank y) (subst (λ (d : Letter P). RankBefore (letter_rank y) (letter_rank d)) (at ∙ same) (after-among (letter_rank y) ys e s.0 h)))
      ] in
      λ i. same i ∷ rising-same xs ys r.1 s.1 forth back i

  -- the same letters in another order are the same in order
  pub same-order : (xs ys : List (Letter P)) → IsPermutation xs ys → AreApart xs → in_order xs ≡ in_order ys
  same-order xs ys h apart =
      let across = IsPermutation-trans (in_order xs) xs (in_order ys) (IsPermutation-sym xs (in_order xs) (permuted-order xs)) (IsPermutation-trans xs ys (in_order ys) h (permuted-order ys)) in
      rising-same (in_order xs) (in_order ys) (rising-order xs apart) (rising-order ys (apart-permuted xs ys h apart))
      (among-permuted (in_order xs) (in_order ys) across)
      (among-permuted (in_order ys) (in_order xs) (IsPermutation-sym (in_order xs) (in_order ys) across))

  -- one more letter, of another rank
  pub pushed : (x : Letter P) (xs ys : List (Letter P)) → AreApart xs → IsPermutation (x ∷ xs) ys → holds_rank (letter_rank x) (in_order xs) ≡ false → AreApart ys × (in_order ys ≡ insert_letter x (in_order xs))
  pushed x xs ys apart h new =
      let none : count_rank (letter_rank x) xs ≡ 0 = sym (same-count (letter_rank x) xs) ∙ holds-none (letter_rank x) (in_order xs) new in
      let both : AreApart (x ∷ xs) = λ k.
      let sum : count_rank k (x ∷ xs) ≡ one_held k x + count_rank k xs = sum_by-cons (one_held k) x xs in
      let few : count_rank k xs ≤ 1 = apart k in
      elim (cases_Bool (has_rank k x)) [
        | inl y ↦
            let one : one_held k x ≡ 1 = ap (λ (b : Bool). if b then 1 else 0) y in
            let zero : count_rank k xs ≡ 0 = ap (λ r. count_rank r xs) (sym (rank_same-true (letter_rank x) k y)) ∙ none in omega (arith, sum, one, zero)
        | inr y ↦ let one : one_held k x ≡ 0 = ap (λ (b : Bool). if b then 1 else 0) y in omega (arith, sum, one, few)
      ] in
      (apart-permuted (x ∷ xs) ys h both, sym (same-order (x ∷ xs) ys h both))

  leads-all : (x : Letter P) (zs : List (Letter P)) → ((z : Letter P) → Among z zs → RankBefore (letter_rank z) (letter_rank x) → ⊥) → count_rank (letter_rank x) zs ≡ 0 → would_lead x zs ≡ true
  leads-all x [] least none = refl
  leads-all x (z ∷ zs) least none = elim (rank-total (letter_rank x) (letter_rank z)) [
    | inl before ↦ before-rank_before (letter_rank x) (letter_rank z) before
    | inr rest ↦ elim rest [
      | inl same ↦
          let one : 1 ≤ count_rank (letter_rank x) (z ∷ zs) = some-held (letter_rank x) z (z ∷ zs) (inl refl) (sym same) in absurd (omega (arith, one, none))
      | inr after ↦ absurd (least z (inl refl) after)
    ]
  ]

  -- the least letter is the first, and the others come behind it
  pub least-first : (x : Letter P) (xs ys : List (Letter P)) → AreApart xs → IsPermutation xs (x ∷ ys) → ((y : Letter P) → Among y ys → RankBefore (letter_rank y) (letter_rank x) → ⊥)
      → AreApart ys × (in_order xs ≡ x ∷ in_order ys)
  least-first x xs ys apart h least =
      let both = apart-permuted xs (x ∷ ys) h apart in
      let leads = leads-all x (in_order ys) (λ z m. least z (among-permuted (in_order ys) ys (IsPermutation-sym ys (in_order ys) (permuted-order ys)) z m)) (same-count (letter_rank x) ys ∙ apart-first x ys both) in
      (apart-rest x ys both, same-order xs (x ∷ ys) h apart ∙ insert-leads x (in_order ys) leads)

  -- the same letters, kept in another order
  pub reordered : (xs ys : List (Letter P)) → AreApart xs → IsPermutation xs ys → AreApart ys × (in_order ys ≡ in_order xs)
  reordered xs ys apart h = (apart-permuted xs ys h apart, sym (same-order xs ys h apart))

  -- ---- the letter of a rank is taken out

  -- letters of other ranks
  pub absent : (k : Rank) (xs : List (Letter P)) → ((e : Letter P) → Among e xs → letter_rank e ≡ k → ⊥) → count_rank k xs ≡ 0
  absent k [] none = refl
  absent k (x ∷ xs) none =
      let both : count_rank k (x ∷ xs) ≡ one_held k x + count_rank k xs = sum_by-cons (one_held k) x xs in
      let rest : count_rank k xs ≡ 0 = absent k xs (λ e m. none e (inr m)) in
      elim (cases_Bool (has_rank k x)) [
        | inl y ↦ absurd (none x (inl refl) (rank_same-true (letter_rank x) k y))
        | inr y ↦ let one : one_held k x ≡ 0 = ap (λ (b : Bool). if b then 1 else 0) y in omega (arith, both, rest, one)
      ]

  find-inserted : (k : Rank) (x : Letter P) (zs : List (Letter P)) → has_rank k x ≡ true → holds_rank k zs ≡ false → find (has_rank k) (insert_letter x zs) ≡ Some x
  find-inserted k x [] own none = ap (λ (b : Bool). if b then Some x else None) own
  find-inserted k x (z ∷ zs) own none =
      elim (rank_before (letter_rank x) (letter_rank z)) as (λ b. find (has_rank k) (if b then x ∷ z ∷ zs else z ∷ insert_letter x zs) ≡ Some x) [
        | true ↦ ap (λ b. if b then Some x else find (has_rank k) (z ∷ zs)) own
        | false ↦
            ap (λ b. if b then Some z else find (has_rank k) (insert_letter x zs)) (first-false (has_rank k z) (holds_rank k zs) none)
            ∙ find-inserted k x zs own (second-false (has_rank k z) (holds_rank k zs) none)
      ]

  without-inserted : (k : Rank) (x : Letter P) (zs : List (Letter P)) → has_rank k x ≡ true → holds_rank k zs ≡ false → without_first (has_rank k) (insert_letter x zs) ≡ zs
  without-inserted k x [] own none = ap (λ (b : Bool). if b then [] else x ∷ []) own
  without-inserted k x (z ∷ zs) own none =
      elim (rank_before (letter_rank x) (letter_rank z)) as (λ b. without_first (has_rank k) (if b then x ∷ z ∷ zs else z ∷ insert_letter x zs) ≡ z ∷ zs) [
        | true ↦ ap (λ b. if b then z ∷ zs else x ∷ without_first (has_rank k) (z ∷ zs)) own
        | false ↦
            ap (λ b. if b then insert_letter x zs else z ∷ without_first (has_rank k) (insert_letter x zs)) (first-false (has_rank k z) (holds_rank k zs) none)
            ∙ ap (λ l. z ∷ l) (without-inserted k x zs own (second-false (has_rank k z) (holds_rank k zs) none))
      ]

  -- one letter less, the one of a rank
  pub one-out : (k : Rank) (x : Letter P) (xs ys : List (Letter P)) → AreApart xs → IsPermutation xs (x ∷ ys) → has_rank k x ≡ true
      → AreApart ys × (Some x ≡ find (has_rank k) (in_order xs)) × (in_order ys ≡ without_first (has_rank k) (in_order xs))
  one-out k x xs ys apart h own =
      let both = apart-permuted xs (x ∷ ys) h apart in
      let other : count_rank k ys ≡ 0 = subst (λ (r : Rank). count_rank r ys ≡ 0) (rank_same-true (letter_rank x) k own) (apart-first x ys both) in
      let none : holds_rank k (in_order ys) ≡ false = none-holds k (in_order ys) (same-count k ys ∙ other) in
      let is : in_order xs ≡ insert_letter x (in_order ys) = same-order xs (x ∷ ys) h apart in (
        apart-rest x ys both,
        sym (ap (find (has_rank k)) is ∙ find-inserted k x (in_order ys) own none),
        sym (ap (without_first (has_rank k)) is ∙ without-inserted k x (in_order ys) own none),
      )

  find-none : (k : Rank) (zs : List (Letter P)) → holds_rank k zs ≡ false → find (has_rank k) zs ≡ None
  find-none k [] none = refl
  find-none k (z ∷ zs) none =
      ap (λ b. if b then Some z else find (has_rank k) zs) (first-false (has_rank k z) (holds_rank k zs) none) ∙ find-none k zs (second-false (has_rank k z) (holds_rank k zs) none)

  without-none : (k : Rank) (zs : List (Letter P)) → holds_rank k zs ≡ false → without_first (has_rank k) zs ≡ zs
  without-none k [] none = refl
  without-none k (z ∷ zs) none =
      ap (λ b. if b then zs else z ∷ without_first (has_rank k) zs) (first-false (has_rank k z) (holds_rank k zs) none)
      ∙ ap (λ l. z ∷ l) (without-none k zs (second-false (has_rank k z) (holds_rank k zs) none))

  -- or no letter less, where none has that rank
  pub none-out : (k : Rank) (xs : List (Letter P)) → count_rank k xs ≡ 0 → (None ≡ find (has_rank k) (in_order xs)) × (in_order xs ≡ without_first (has_rank k) (in_order xs))
  none-out k xs other =
      let none : holds_rank k (in_order xs) ≡ false = none-holds k (in_order xs) (same-count k xs ∙ other) in
      (sym (find-none k (in_order xs) none), sym (without-none k (in_order xs) none))

-- ---- the first that passes a test

module _ {X : Type 0} (test : X → Bool) where
  -- what was found and the others are the same items
  pub found-out : (x : X) (xs : List X) → find test xs ≡ Some x → IsPermutation xs (x ∷ without_first test xs)
  found-out x [] found = let never : None ≡ Some x = found in absurd (cc)
  found-out x (y ∷ ys) found = elim (test y) as (λ b. (if b then Some y else find test ys) ≡ Some x → IsPermutation (y ∷ ys) (x ∷ (if b then ys else y ∷ without_first test ys))) [
    | true ↦ λ e. let same : y ≡ x = cc in subst (λ (z : X). IsPermutation (y ∷ ys) (z ∷ ys)) same (IsPermutation-refl (y ∷ ys))
    | false ↦ λ e.
        let rest : List X = without_first test ys in
        IsPermutation-trans (y ∷ ys) (y ∷ x ∷ rest) (x ∷ y ∷ rest) (IsPermutation-cons y ys (x ∷ rest) (found-out x ys e)) (IsPermutation-middle (y ∷ []) x rest)
  ] found

  -- where nothing was found, all are left, and none passes
  pub not-found : (xs : List X) → find test xs ≡ None → without_first test xs ≡ xs
  not-found [] found = refl
  not-found (y ∷ ys) found = elim (test y) as (λ b. (if b then Some y else find test ys) ≡ None → (if b then ys else y ∷ without_first test ys) ≡ y ∷ ys) [
    | true ↦ λ e. let never : Some y ≡ None = e in absurd (cc)
    | false ↦ λ e. ap (λ l. y ∷ l) (not-found ys e)
  ] found

  pub none-passes : (xs : List X) → find test xs ≡ None → (x : X) → Among x xs → test x ≡ true → ⊥
  none-passes [] found x m own = absurd m
  none-passes (y ∷ ys) found x m own = elim (test y) as (λ b. test y ≡ b → (if b then Some y else find test ys) ≡ None → ⊥) [
    | true ↦ λ is e. let never : Some y ≡ None = e in absurd (cc)
    | false ↦ λ is e. elim m [
      | inl at ↦ let both : false ≡ true = sym is ∙ ap test (sym at) ∙ own in absurd (cc)
      | inr n ↦ none-passes ys e x n own
    ]
  ] refl found
