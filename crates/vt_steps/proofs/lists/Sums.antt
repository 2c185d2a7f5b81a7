-- Sums over lists: after one edit, of parts, and what a sum that is not 0 tells.
use Rattle.std.proofs.Common.{◌≡◌, ℕ, zero, suc, ◌+◌, ◌-◌, ◌≤◌, ◌<◌, ◌⊎◌, inl, inr, Bool, true, false, not, cond, List, [], ◌∷◌, map, length, take, refl, ◌∙◌, ap, arith, zero-add, add-zero, Some, None, slice_get, slice_set}
use Rattle.std.specs.List.{sum_by, find, filter, last_or, range_with_len, remove}
use Rattle.std.proofs.lemmas.Bool.{cases_lt}
use Rattle.std.proofs.lemmas.List.Sums.{sum_by-cons, sum_by-append}
use Rattle.vt_key.specs.promise.Order.{rank_before}
use Rattle.vt_key.specs.promise.Queues.{insert_letter, without_first}
use Rattle.vt_key.specs.declared.letter.Letter.{Letter}
use Rattle.vt_key.specs.promise.Lists.{Among}
use Rattle.vt_key.proofs.ListLemmas.{before_last, get-among}

-- ---- after one edit

-- an element gives way to another
pub sum_by-put : {X : Type 0} (f : X → ℕ) (xs : List X) (i : ℕ) (x y : X) → slice_get xs i ≡ Some x → sum_by f (slice_set xs i y) + f x ≡ sum_by f xs + f y
sum_by-put f [] i x y e = absurd (let h : None ≡ Some x = e in cc)
sum_by-put f (z ∷ zs) zero x y e =
    let same : z ≡ x = cc in
    let a = sum_by-cons f z zs in
    let b = sum_by-cons f y zs in
    let c = ap f same in
    omega arith
sum_by-put f (z ∷ zs) (suc i) x y e =
    let ih = sum_by-put f zs i x y e in
    let a = sum_by-cons f z zs in
    let b = sum_by-cons f z (slice_set zs i y) in
    omega arith

-- the element at an index is removed
pub sum_by-remove : {X : Type 0} (f : X → ℕ) (xs : List X) (i : ℕ) (x : X) → slice_get xs i ≡ Some x → sum_by f (remove xs i) + f x ≡ sum_by f xs
sum_by-remove f [] i x e = absurd (let h : None ≡ Some x = e in cc)
sum_by-remove f (y ∷ ys) zero x e =
    let same : y ≡ x = cc in
    let a = sum_by-cons f y ys in
    let c = ap f same in
    omega arith
sum_by-remove f (y ∷ ys) (suc i) x e =
    let ih = sum_by-remove f ys i x e in
    let a = sum_by-cons f y ys in
    let b = sum_by-cons f y (remove ys i) in
    omega arith

-- the first element that passes is left out
pub sum_by-without_first : {X : Type 0} (f : X → ℕ) (test : X → Bool) (xs : List X) (x : X) → find test xs ≡ Some x → sum_by f (without_first test xs) + f x ≡ sum_by f xs
sum_by-without_first f test [] x e = absurd (let h : None ≡ Some x = e in cc)
sum_by-without_first f test (y ∷ ys) x e =
    elim (test y) as (λ b. cond b (Some y) (find test ys) ≡ Some x → sum_by f (cond b ys (y ∷ without_first test ys)) + f x ≡ sum_by f (y ∷ ys)) [
      | true ↦ λ h. (let same : y ≡ x = cc in let a = sum_by-cons f y ys in let c = ap f same in omega arith)
      | false ↦ λ h. (let ih = sum_by-without_first f test ys x h in let a = sum_by-cons f y ys in let b = sum_by-cons f y (without_first test ys) in omega arith)
    ] e

-- a letter is put in order
pub sum_by-insert_ordered : {P : Type 0} (f : Letter P → ℕ) (x : Letter P) (xs : List (Letter P)) → sum_by f (insert_letter x xs) ≡ f x + sum_by f xs
sum_by-insert_ordered f x [] = sum_by-cons f x []
sum_by-insert_ordered f x (y ∷ ys) =
    elim (rank_before x.event.rank y.event.rank) as (λ b. sum_by f (cond b (x ∷ y ∷ ys) (y ∷ insert_letter x ys)) ≡ f x + sum_by f (y ∷ ys)) [
      | true ↦ sum_by-cons f x (y ∷ ys)
      | false ↦ (let ih = sum_by-insert_ordered f x ys in let a = sum_by-cons f y ys in let b = sum_by-cons f y (insert_letter x ys) in omega arith)
    ]

-- the last element is dropped
pub sum_by-before_last : {X : Type 0} (f : X → ℕ) (xs : List X) (x : X) → last_or None xs ≡ Some x → sum_by f (take (length xs - 1) xs) + f x ≡ sum_by f xs
sum_by-before_last f xs x e =
    let a = ap (sum_by f) (before_last xs x e) in
    let b = sum_by-append f (take (length xs - 1) xs) (x ∷ []) in
    let c = sum_by-cons f x [] in
    omega arith

-- ---- parts of a list

-- those that pass and those that do not
pub sum_by-filters : {X : Type 0} (f : X → ℕ) (test : X → Bool) (xs : List X) → sum_by f (filter test xs) + sum_by f (filter (λ x. not (test x)) xs) ≡ sum_by f xs
sum_by-filters f test [] = refl
sum_by-filters f test (y ∷ ys) =
    elim (test y) as (λ b. sum_by f (cond b (y ∷ filter test ys) (filter test ys)) + sum_by f (cond (not b) (y ∷ filter (λ x. not (test x)) ys) (filter (λ x. not (test x)) ys)) ≡ sum_by f (y ∷ ys)) [
      | true ↦ (let ih = sum_by-filters f test ys in let a = sum_by-cons f y ys in let b = sum_by-cons f y (filter test ys) in omega arith)
      | false ↦ (let ih = sum_by-filters f test ys in let a = sum_by-cons f y ys in let b = sum_by-cons f y (filter (λ x. not (test x)) ys) in omega arith)
    ]

-- one element alone
pub sum_by-single : {X : Type 0} (f : X → ℕ) (x : X) → sum_by f (x ∷ []) ≡ f x
sum_by-single f x = sum_by-cons f x [] ∙ add-zero (f x)

-- ---- other weights

-- the images of a list
pub sum_by-map : {X Y : Type 0} (f : Y → ℕ) (h : X → Y) (xs : List X) → sum_by f (map h xs) ≡ sum_by (λ x. f (h x)) xs
sum_by-map f h [] = refl
sum_by-map f h (x ∷ xs) =
    let ih = sum_by-map f h xs in
    let a = sum_by-cons f (h x) (map h xs) in
    let b = sum_by-cons (λ y. f (h y)) x xs in
    omega arith

-- two weights that agree
pub sum_by-same : {X : Type 0} (f g : X → ℕ) → ((x : X) → f x ≡ g x) → (xs : List X) → sum_by f xs ≡ sum_by g xs
sum_by-same f g same [] = refl
sum_by-same f g same (x ∷ xs) =
    let a = sum_by-cons f x xs in
    let b = sum_by-cons g x xs in
    let c = same x in
    let ih = sum_by-same f g same xs in
    omega arith

-- no weight at all
pub sum_by-zero : {X : Type 0} (xs : List X) → sum_by (λ x. 0) xs ≡ 0
sum_by-zero [] = refl
sum_by-zero (x ∷ xs) = sum_by-cons (λ y. 0) x xs ∙ (zero-add (sum_by (λ y. 0) xs) ∙ sum_by-zero xs)

-- a sum of nothings
pub sum_by-nothings : {X : Type 0} (h : X → ℕ) (xs : List X) → ((i : ℕ) (x : X) → slice_get xs i ≡ Some x → h x ≡ 0) → sum_by h xs ≡ 0
sum_by-nothings h [] none = refl
sum_by-nothings h (x ∷ xs) none =
    let a = none zero x refl in
    let ih = sum_by-nothings h xs (λ i y e. none (suc i) y e) in
    let b = sum_by-cons h x xs in
    omega arith

-- ---- one part and the sum

-- each part is at most the sum
pub sum-at : {X : Type 0} (f : X → ℕ) (xs : List X) (i : ℕ) (x : X) → slice_get xs i ≡ Some x → f x ≤ sum_by f xs
sum-at f [] i x e = absurd (let g : None ≡ Some x = e in cc)
sum-at f (y ∷ xs) zero x e =
    let same : y ≡ x = cc in
    let m = ap f same in
    let b = sum_by-cons f y xs in
    omega arith
sum-at f (y ∷ xs) (suc i) x e =
    let ih = sum-at f xs i x e in
    let b = sum_by-cons f y xs in
    omega arith

-- the same by an element
pub sum-among : {X : Type 0} (f : X → ℕ) (xs : List X) (x : X) → Among x xs → f x ≤ sum_by f xs
sum-among f [] x m = elim m [ ]
sum-among f (y ∷ ys) x m =
    let a = sum_by-cons f y ys in
    elim m [ inl e ↦ (let s : f x ≡ f y = ap f e in omega arith) | inr n ↦ (let ih = sum-among f ys x n in omega arith) ]

-- a sum that is not 0 has a part that is not, at an index
pub some-at : {X : Type 0} (f : X → ℕ) (xs : List X) → 1 ≤ sum_by f xs → (i : ℕ) × (x : X) × (slice_get xs i ≡ Some x) × (1 ≤ f x)
some-at f [] h = elim (let z : sum_by f [] ≡ 0 = refl in let none : ⊥ = omega arith in none) [ ]
some-at {X} f (x ∷ xs) h =
    elim (f x) as (λ n. f x ≡ n → (i : ℕ) × (y : X) × (slice_get (x ∷ xs) i ≡ Some y) × (1 ≤ f y)) [
      | zero ↦ λ e. (let a = sum_by-cons f x xs in let r = some-at f xs (omega arith) in (suc r.0, r.1, r.2, r.3))
      | suc n ↦ λ e. (zero, x, refl, let le : 1 ≤ f x = omega arith in le)
    ] refl

-- the same by an element
pub some-among : {X : Type 0} (f : X → ℕ) (xs : List X) → 1 ≤ sum_by f xs → (x : X) × Among x xs × (1 ≤ f x)
some-among f xs h = let r = some-at f xs h in (r.1, get-among xs r.0 r.1 r.2, r.3)

-- of two numbers whose sum is not 0 one is not
pub some-either : (a b : ℕ) → 1 ≤ a + b → (1 ≤ a) ⊎ (1 ≤ b)
some-either zero b h = inr (omega arith)
some-either (suc a) b h = inl (omega arith)

-- ---- ranges of numbers

-- one number alone of a range counts, and once
pub record OnlyAt (h : ℕ → ℕ) (v a n : ℕ) : Type 0 where
  pub at_most : sum_by h (range_with_len a n) ≤ 1
  pub within : 0 < sum_by h (range_with_len a n) → (a ≤ v) × (v < a + n) × (0 < h v)

-- where only v counts, and once
pub only-at : (h : ℕ → ℕ) (v a n : ℕ) → ((w : ℕ) → h w ≤ 1) → ((w : ℕ) → 0 < h w → w ≡ v) → OnlyAt h v a n
only-at h v a zero small only = record { at_most = omega arith; within = λ more. absurd (omega arith) }
only-at h v a (suc n) small only =
    let ih = only-at h v (a + 1) n small only in
    let ih_most = ih.at_most in
    let split = sum_by-cons h a (range_with_len (a + 1) n) in
    let rest = sum_by h (range_with_len (a + 1) n) in
    let here = small a in
    elim (cases_lt 0 (h a)) [
      | inl some ↦
          (let is = only a some in
          let same = ap h is in
          let alone : rest ≡ 0 = elim (cases_lt 0 rest) [ inl more ↦ absurd (let k = ih.within more in omega arith) | inr none ↦ omega arith ] in
          record { at_most = omega arith; within = λ more. (omega arith, omega arith, omega arith) })
      | inr none ↦
          record { at_most = omega arith; within = λ more. (let k = ih.within (omega arith) in (omega arith, omega arith, k.2)) }
    ]
