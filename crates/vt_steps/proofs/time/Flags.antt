-- Sums over the workers whose flag is set, flags, and what stands at an index after a write.
use Rattle.std.proofs.Common.{◌≡◌, ◌⊎◌, inl, inr, ℕ, zero, suc, ◌+◌, ◌≤◌, Bool, true, false, cond, List, [], ◌∷◌, length, replicate, refl, sym, ◌∙◌, ap, arith, Option, Some, None, slice_get, slice_set}
use Rattle.std.specs.List.{sum_by}
use Rattle.std.proofs.lemmas.Bool.{and_parts}
use Rattle.std.proofs.lemmas.Bool.Decides.{eqb_tells, nat_tests}
use Rattle.std.proofs.lemmas.List.Sums.{sum_by-cons}
use Rattle.vt_key.specs.promise.Times.{Time, TimeAtMost, time_at_most}
use Rattle.vt_steps.specs.promise.World.{Board}
use Rattle.vt_steps.specs.promise.BoardSteps.{all_set, is_clear, may_report}
use Rattle.vt_steps.proofs.lists.Indices.{get-put_same, get-put_other}

-- ---- sums over those whose flag is set

-- the sum over the indices whose flag is set
pub flagged_sum : {X : Type 0} → (X → ℕ) → List Bool → List X → ℕ
flagged_sum h [] xs = 0
flagged_sum h (b ∷ bs) [] = 0
flagged_sum h (b ∷ bs) (x ∷ xs) = cond b (h x) 0 + flagged_sum h bs xs

-- one gives way to another
pub flagged_sum-put : {X : Type 0} (h : X → ℕ) (bs : List Bool) (xs : List X) (i : ℕ) (b : Bool) (x y : X) → slice_get bs i ≡ Some b → slice_get xs i ≡ Some x →
    flagged_sum h bs (slice_set xs i y) + cond b (h x) 0 ≡ flagged_sum h bs xs + cond b (h y) 0
unfolding flagged_sum
flagged_sum-put h [] xs i b x y f e = absurd (let g : None ≡ Some b = f in cc)
flagged_sum-put h (c ∷ bs) [] i b x y f e = absurd (let g : None ≡ Some x = e in cc)
flagged_sum-put h (c ∷ bs) (z ∷ xs) zero b x y f e =
    let same : z ≡ x = cc in
    let flag : c ≡ b = cc in
    let m = ap (λ u. cond b (h u) 0) same in
    let n = ap (λ u. cond u (h z) 0) flag in
    let o = ap (λ u. cond u (h y) 0) flag in
    omega arith
flagged_sum-put h (c ∷ bs) (z ∷ xs) (suc i) b x y f e = let ih = flagged_sum-put h bs xs i b x y f e in omega arith

-- one gives way to another of the same weight
pub flagged_sum-put_same : {X : Type 0} (h : X → ℕ) (bs : List Bool) (xs : List X) (i : ℕ) (x y : X) → slice_get xs i ≡ Some x → h y ≡ h x →
    flagged_sum h bs (slice_set xs i y) ≡ flagged_sum h bs xs
unfolding flagged_sum
flagged_sum-put_same h [] xs i x y e same = refl
flagged_sum-put_same h (c ∷ bs) [] i x y e same = refl
flagged_sum-put_same h (c ∷ bs) (z ∷ xs) zero x y e same =
    let is : z ≡ x = cc in
    let n = ap (λ u. cond c u 0) (same ∙ sym (ap h is)) in
    omega arith
flagged_sum-put_same h (c ∷ bs) (z ∷ xs) (suc i) x y e same = let ih = flagged_sum-put_same h bs xs i x y e same in omega arith

-- one gives way to another of no lesser weight
pub flagged_sum-grows : {X : Type 0} (h : X → ℕ) (bs : List Bool) (xs : List X) (i : ℕ) (x y : X) → slice_get xs i ≡ Some x → h x ≤ h y →
    flagged_sum h bs xs ≤ flagged_sum h bs (slice_set xs i y)
unfolding flagged_sum
flagged_sum-grows h [] xs i x y e more = omega arith
flagged_sum-grows h (c ∷ bs) [] i x y e more = omega arith
flagged_sum-grows h (true ∷ bs) (z ∷ xs) zero x y e more =
    let is : z ≡ x = cc in
    let m = ap h is in
    omega arith
flagged_sum-grows h (false ∷ bs) (z ∷ xs) zero x y e more = omega arith
flagged_sum-grows h (c ∷ bs) (z ∷ xs) (suc i) x y e more = let ih = flagged_sum-grows h bs xs i x y e more in omega arith

-- one flag more is set
pub flagged_sum-set : {X : Type 0} (h : X → ℕ) (bs : List Bool) (xs : List X) (i : ℕ) (x : X) → slice_get bs i ≡ Some false → slice_get xs i ≡ Some x →
    flagged_sum h (slice_set bs i true) xs ≡ flagged_sum h bs xs + h x
unfolding flagged_sum
flagged_sum-set h [] xs i x f e = absurd (let g : None ≡ Some false = f in cc)
flagged_sum-set h (c ∷ bs) [] i x f e = absurd (let g : None ≡ Some x = e in cc)
flagged_sum-set h (c ∷ bs) (z ∷ xs) zero x f e =
    let same : z ≡ x = cc in
    let flag : c ≡ false = cc in
    let m = ap h same in
    let n = ap (λ u. cond u (h z) 0) flag in
    omega arith
flagged_sum-set h (c ∷ bs) (z ∷ xs) (suc i) x f e = let ih = flagged_sum-set h bs xs i x f e in omega arith

-- where all flags are set it is the whole sum
pub flagged_sum-all : {X : Type 0} (h : X → ℕ) (bs : List Bool) (xs : List X) → all_set bs ≡ true → length bs ≡ length xs → flagged_sum h bs xs ≡ sum_by h xs
unfolding flagged_sum
flagged_sum-all h [] [] all size = refl
flagged_sum-all h [] (x ∷ xs) all size = absurd (omega arith)
flagged_sum-all h (b ∷ bs) [] all size = absurd (omega arith)
flagged_sum-all h (true ∷ bs) (x ∷ xs) all size =
    let ih = flagged_sum-all h bs xs all (omega arith) in
    let a = sum_by-cons h x xs in
    omega arith
flagged_sum-all h (false ∷ bs) (x ∷ xs) all size = absurd (let g : false ≡ true = all in cc)

-- where none is set it is 0
pub flagged_sum-none : {X : Type 0} (h : X → ℕ) (n : ℕ) (xs : List X) → flagged_sum h (replicate n false) xs ≡ 0
unfolding flagged_sum
flagged_sum-none h zero xs = refl
flagged_sum-none h (suc n) [] = refl
flagged_sum-none h (suc n) (x ∷ xs) = let ih = flagged_sum-none h n xs in omega arith

-- it is no less than each part whose flag is set
pub flagged_sum-at : {X : Type 0} (h : X → ℕ) (bs : List Bool) (xs : List X) (i : ℕ) (x : X) → slice_get bs i ≡ Some true → slice_get xs i ≡ Some x → h x ≤ flagged_sum h bs xs
unfolding flagged_sum
flagged_sum-at h [] xs i x f e = absurd (let g : None ≡ Some true = f in cc)
flagged_sum-at h (c ∷ bs) [] i x f e = absurd (let g : None ≡ Some x = e in cc)
flagged_sum-at h (c ∷ bs) (z ∷ xs) zero x f e =
    let same : z ≡ x = cc in
    let flag : c ≡ true = cc in
    let m = ap h same in
    let n = ap (λ u. cond u (h z) 0) flag in
    omega arith
flagged_sum-at h (c ∷ bs) (z ∷ xs) (suc i) x f e = let ih = flagged_sum-at h bs xs i x f e in omega arith

-- ---- flags

-- where none is set, none is
pub none-set : (n i : ℕ) → slice_get (replicate n false) i ≡ Some true → ⊥
none-set zero i e = let h : None ≡ Some true = e in cc
none-set (suc n) zero e = let h : Some false ≡ Some true = e in cc
none-set (suc n) (suc i) e = none-set n i e

-- where all are set, each is
pub set-at : (bs : List Bool) (i : ℕ) (b : Bool) → all_set bs ≡ true → slice_get bs i ≡ Some b → b ≡ true
set-at [] i b all e = absurd (let h : None ≡ Some b = e in cc)
set-at (true ∷ bs) zero b all e = let h : Some true ≡ Some b = e in cc
set-at (true ∷ bs) (suc i) b all e = set-at bs i b all e
set-at (false ∷ bs) i b all e = absurd (let h : false ≡ true = all in cc)

-- a clear flag is there and not set
pub clear-is : (o : Option Bool) → is_clear o ≡ true → o ≡ Some false
clear-is None e = absurd (let h : false ≡ true = e in cc)
clear-is (Some true) e = absurd (let h : false ≡ true = e in cc)
clear-is (Some false) e = refl

-- a board that takes a report has an open pass to which all have cut, and the report is its worker's first one, and not late
pub may-tells : (w : ℕ) (value : Time) (board : Board) → may_report w value board ≡ true
    → (board.is_open ≡ true) × (all_set board.has_cut ≡ true) × (slice_get board.has_reported w ≡ Some false) × TimeAtMost board.announced value
may-tells w value board may =
    let a = and_parts board.is_open _ may in
    let b = and_parts (all_set board.has_cut) _ a.1 in
    let c = and_parts (is_clear (slice_get board.has_reported w)) _ b.1 in
    let late : time_at_most board.announced value ≡ true = c.1 in
    (a.0, b.0, clear-is (slice_get board.has_reported w) c.0, grind (arith, nat_tests))

-- ---- an element after a write

-- what stands at an index after a write was written there, or stood there before
pub put-cases : {X : Type 0} (xs : List X) (i j : ℕ) (x y z : X) → slice_get xs i ≡ Some x → slice_get (slice_set xs i y) j ≡ Some z →
    ((j ≡ i) × (z ≡ y)) ⊎ ((j ≡ i → ⊥) × (slice_get xs j ≡ Some z))
put-cases xs i j x y z is at =
    elim (eqb_tells j i) [
      | inl e ↦
          (let there : slice_get (slice_set xs i y) i ≡ Some z = ap (λ k. slice_get (slice_set xs i y) k) (sym e.1) ∙ at in
          let here : slice_get (slice_set xs i y) i ≡ Some y = get-put_same xs i x y is in
          inl (e.1, let same : z ≡ y = cc in same))
      | inr e ↦ inr (e.1, sym (get-put_other xs i j y e.1) ∙ at)
    ]
