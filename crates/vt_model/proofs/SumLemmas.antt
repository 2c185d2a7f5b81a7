-- Sums over the processes of a run.
use Rattle.std.proofs.Common.{◌≡◌, ℕ, zero, suc, ◌+◌, ◌<◌, ◌≤◌, inl, inr, List, [], ◌∷◌, false, nat_eq, sum_by, refl, subst, ap, arith}
use Rattle.std.proofs.lemmas.Bool.{eqb-true, eqb-false, cases_Bool}
use Rattle.std.proofs.lemmas.List.Sums.{sum_by-cons, sum_by-append}
use Rattle.std.specs.List.{range_with_len}
use Rattle.vt_model.proofs.RunLemmas.{range-next}

is_not : (a b : ℕ) → (a ≡ b → ⊥) → nat_eq a b ≡ false
is_not a b differ = search (arith)

-- a sum of two
pub sum_by-both : (f g : ℕ → ℕ) (ps : List ℕ) → sum_by (λ p. f p + g p) ps ≡ sum_by f ps + sum_by g ps
sum_by-both f g [] = refl
sum_by-both f g (p ∷ ps) = omega (arith, sum_by-both f g ps, sum_by-cons (λ (q : ℕ). f q + g q) p ps, sum_by-cons f p ps, sum_by-cons g p ps)

-- with one process more
pub sum-next : (f : ℕ → ℕ) (n : ℕ) → sum_by f (range_with_len 0 (suc n)) ≡ sum_by f (range_with_len 0 n) + f n
sum-next f n = omega (arith, ap (sum_by f) (range-next n), sum_by-append f (range_with_len 0 n) (n ∷ []), sum_by-cons f n [])

-- of two sums that are the same everywhere
pub sum_same : (f g : ℕ → ℕ) (n : ℕ) → ((p : ℕ) → p < n → f p ≡ g p) → sum_by f (range_with_len 0 n) ≡ sum_by g (range_with_len 0 n)
sum_same f g zero same = refl
sum_same f g (suc n) same =
    let here : f n ≡ g n = same n (omega arith) in
    omega (arith, sum-next f n, sum-next g n, here, sum_same f g n (λ p less. same p (omega arith)))

-- of two sums that differ at one place
pub sum_one : (f g : ℕ → ℕ) (n d x y : ℕ) → d < n → ((p : ℕ) → nat_eq d p ≡ false → f p ≡ g p) → f d + x ≡ g d + y → sum_by f (range_with_len 0 n) + x ≡ sum_by g (range_with_len 0 n) + y
sum_one f g zero d x y less same here = absurd (omega arith)
sum_one f g (suc n) d x y less same here =
    elim (cases_Bool (nat_eq d n)) [
      | inl y' ↦
          let at : d ≡ n = eqb-true d n y' in
          let before = sum_same f g n (λ p below. same p (is_not d p (λ (is : d ≡ p). let below' : p < n = below in omega arith))) in
          let there : f n + x ≡ g n + y = subst (λ (k : ℕ). f k + x ≡ g k + y) at here in
          omega (arith, sum-next f n, sum-next g n, before, there)
      | inr n' ↦
          let other = eqb-false d n n' in let below : d < n = omega arith in
          omega (arith, sum-next f n, sum-next g n, same n n', sum_one f g n d x y below same here)
    ]

-- a part is at most the sum
pub part-le : (f : ℕ → ℕ) (n d : ℕ) → d < n → f d ≤ sum_by f (range_with_len 0 n)
part-le f zero d less = absurd (omega arith)
part-le f (suc n) d less =
    elim (cases_Bool (nat_eq d n)) [
      | inl y' ↦ let at : f d ≡ f n = ap f (eqb-true d n y') in omega (arith, sum-next f n, at)
      | inr n' ↦
          let other = eqb-false d n n' in
          let below : d < n = omega arith in
          omega (arith, sum-next f n, part-le f n d below)
    ]
