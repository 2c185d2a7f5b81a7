-- Lists by index: what stands where after a write, in a list of images, in a list of one value many times.
use Rattle.std.proofs.Common.{◌≡◌, ℕ, zero, suc, ◌+◌, ◌<◌, List, [], ◌∷◌, map, length, replicate, refl, sym, ◌∙◌, ap, subst, arith, inl, inr, Some, None, slice_get, slice_set, add-zero}
use Rattle.std.specs.List.{range_with_len}
use Rattle.std.proofs.lemmas.Bool.Decides.{eqb_tells}

-- the index of a write has what was written
pub get-put_same : {X : Type 0} (xs : List X) (i : ℕ) (x y : X) → slice_get xs i ≡ Some x → slice_get (slice_set xs i y) i ≡ Some y
get-put_same [] i x y e = absurd (let h : None ≡ Some x = e in cc)
get-put_same (z ∷ zs) zero x y e = refl
get-put_same (z ∷ zs) (suc i) x y e = get-put_same zs i x y e

-- the others have what they had
pub get-put_other : {X : Type 0} (xs : List X) (i j : ℕ) (y : X) → (j ≡ i → ⊥) → slice_get (slice_set xs i y) j ≡ slice_get xs j
get-put_other [] i j y apart = refl
get-put_other (z ∷ zs) zero zero y apart = absurd (apart refl)
get-put_other (z ∷ zs) zero (suc j) y apart = refl
get-put_other (z ∷ zs) (suc i) zero y apart = refl
get-put_other (z ∷ zs) (suc i) (suc j) y apart = get-put_other zs i j y (λ e. apart (ap suc e))

-- what holds at each other index, and of what was written at this one, holds at each
pub all-written : {X : Type 0} (Q : ℕ → X → Type 0) (xs : List X) (i : ℕ) (x y : X) → slice_get xs i ≡ Some x → Q i y → ((j : ℕ) (z : X) → (j ≡ i → ⊥) → slice_get xs j ≡ Some z → Q j z) →
    (j : ℕ) (z : X) → slice_get (slice_set xs i y) j ≡ Some z → Q j z
all-written Q xs i x y is here others j z at =
    elim (eqb_tells j i) [
      | inl e ↦
          (let there : slice_get (slice_set xs i y) i ≡ Some z = ap (λ k. slice_get (slice_set xs i y) k) (sym e.1) ∙ at in
          let put : slice_get (slice_set xs i y) i ≡ Some y = get-put_same xs i x y is in
          let same : y ≡ z = cc in
          subst (λ k. Q k z) (sym e.1) (subst (λ u. Q i u) same here))
      | inr e ↦ others j z e.1 (sym (get-put_other xs i j y e.1) ∙ at)
    ]

-- what holds at each index holds at each after a write of what has it there
pub all-put : {X : Type 0} (Q : ℕ → X → Type 0) (xs : List X) (i : ℕ) (x y : X) → slice_get xs i ≡ Some x → ((j : ℕ) (z : X) → slice_get xs j ≡ Some z → Q j z) → (Q i x → Q i y) →
    (j : ℕ) (z : X) → slice_get (slice_set xs i y) j ≡ Some z → Q j z
all-put Q xs i x y is all kept = all-written Q xs i x y is (kept (all i x is)) (λ j z apart at. all j z at)

-- and what holds at each index after a write held at each before it
pub all-unput : {X : Type 0} (Q : ℕ → X → Type 0) (xs : List X) (i : ℕ) (x y : X) → slice_get xs i ≡ Some x → ((j : ℕ) (z : X) → slice_get (slice_set xs i y) j ≡ Some z → Q j z) → (Q i y → Q i x) →
    (j : ℕ) (z : X) → slice_get xs j ≡ Some z → Q j z
all-unput Q xs i x y is all kept j z at =
    elim (eqb_tells j i) [
      | inl e ↦
          (let there : slice_get xs i ≡ Some z = ap (λ k. slice_get xs k) (sym e.1) ∙ at in
          let same : x ≡ z = cc in
          let q : Q i z = subst (λ u. Q i u) same (kept (all i y (get-put_same xs i x y is))) in
          subst (λ k. Q k z) (sym e.1) q)
      | inr e ↦ all j z (get-put_other xs i j y e.1 ∙ at)
    ]

-- there is an element at each index within
pub get-within : {X : Type 0} (xs : List X) (i : ℕ) → i < length xs → (x : X) × (slice_get xs i ≡ Some x)
get-within [] i h = absurd (omega arith)
get-within (x ∷ xs) zero h = (x, refl)
get-within (x ∷ xs) (suc i) h = get-within xs i (omega arith)

-- what stands at an index among the images is the image of what stands there
pub get-map : {X Y : Type 0} (f : X → Y) (xs : List X) (i : ℕ) (y : Y) → slice_get (map f xs) i ≡ Some y → (x : X) × (slice_get xs i ≡ Some x) × (y ≡ f x)
get-map f [] i y e = absurd (let k : None ≡ Some y = e in cc)
get-map f (x ∷ xs) zero y e = (x, refl, let k : Some (f x) ≡ Some y = e in cc)
get-map f (x ∷ xs) (suc i) y e = get-map f xs i y e

-- what stands at an index among the images of a range of numbers
pub get-map_range : {X : Type 0} (f : ℕ → X) (a n i : ℕ) → i < n → slice_get (map f (range_with_len a n)) i ≡ Some (f (a + i))
get-map_range f a zero i h = absurd (omega arith)
get-map_range f a (suc n) zero h = ap (λ k. Some (f k)) (sym (add-zero a))
get-map_range f a (suc n) (suc i) h =
    let same : (a + 1) + i ≡ a + suc i = omega arith in
    get-map_range f (a + 1) n i (omega arith) ∙ ap (λ k. Some (f k)) same

-- what stands at an index of a range of numbers from 0 on is the index
pub get-range : (a n i x : ℕ) → slice_get (range_with_len a n) i ≡ Some x → (x ≡ a + i) × (i < n)
get-range a zero i x e = absurd (let h : None ≡ Some x = e in cc)
get-range a (suc n) zero x e = let h : Some a ≡ Some x = e in let same : a ≡ x = cc in (omega arith, omega arith)
get-range a (suc n) (suc i) x e = let r = get-range (a + 1) n i x e in let same = r.0 in let less = r.1 in (omega arith, omega arith)

-- what stands at an index in a list of one value many times is that value
pub get-replicate : {X : Type 0} (n i : ℕ) (x y : X) → slice_get (replicate n x) i ≡ Some y → y ≡ x
get-replicate zero i x y e = absurd (let h : None ≡ Some y = e in cc)
get-replicate (suc n) zero x y e = let h : Some x ≡ Some y = e in cc
get-replicate (suc n) (suc i) x y e = get-replicate n i x y e
