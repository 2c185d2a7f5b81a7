-- What is at hand of a list whose items may be gone: after a push, a pop and a removal; and the one item that passes a test.
use Rattle.std.proofs.Common.{◌≡◌, ℕ, zero, suc, ◌+◌, ◌≤◌, ◌<◌, Bool, true, false, not, ◌&&◌, ◌||◌, cond, eqb, ltb, List, [], ◌∷◌, ◌++◌, length, Option, Some, None, slice_get, slice_set, refl, sym, ◌∙◌, ap, subst, arith, append_assoc}
use Rattle.std.proofs.lemmas.Bool.Decides.{nat_tests}
use Rattle.std.specs.List.{filter, list_any, sum_by, AllByRecursion}
use Rattle.std.specs.Ordering.{is_lt, nat_cmp}
use Rattle.std.proofs.lemmas.List.Elements.{filter-append}
use Rattle.std.proofs.lemmas.List.Sums.{sum_by-append, sum_by-cons}
use Rattle.vt_key.proofs.ListLemmas.{every-weaker, every-append, every-right, every-all}
use Rattle.vt_logs.specs.inside.Sheets.{present_from, NonePasses, PassesAlone}

-- ---- the one that passes a test

module _ {X : Type 0} where
  pub none-filter : (test : X → Bool) (xs : List X) → NonePasses test xs → filter (λ x. not (test x)) xs ≡ xs
  none-filter test [] h = refl
  none-filter test (x ∷ xs) h = rw h.0 (ap (λ ys. x ∷ ys) (none-filter test xs h.1))

  pub alone-filter : (test : X → Bool) (x : X) (xs : List X) (a : PassesAlone test x xs) → filter (λ y. not (test y)) xs ≡ a.front ++ a.back
  alone-filter test x xs a =
      ap (filter (λ y. not (test y))) a.is
      ∙ filter-append (λ y. not (test y)) a.front (x ∷ a.back)
      ∙ (rw a.passes (let f = none-filter test a.front a.none_before in let b = none-filter test a.back a.none_after in cc))

  pub alone-sum : (test : X → Bool) (f : X → ℕ) (x : X) (xs : List X) → PassesAlone test x xs → sum_by f (filter (λ y. not (test y)) xs) + f x ≡ sum_by f xs
  alone-sum test f x xs a =
      let e : sum_by f (filter (λ y. not (test y)) xs) ≡ sum_by f (a.front ++ a.back) = ap (sum_by f) (alone-filter test x xs a) in
      let g : sum_by f xs ≡ sum_by f (a.front ++ x ∷ a.back) = ap (sum_by f) a.is in
      omega (arith, e, g, sum_by-append f a.front a.back, sum_by-append f a.front (x ∷ a.back), sum_by-cons f x a.back)

  -- between others of which none does
  pub alone-between : (test : X → Bool) (x : X) (xs ys zs : List X) → NonePasses test xs → PassesAlone test x ys → NonePasses test zs → PassesAlone test x (xs ++ ys ++ zs)
  alone-between test x xs ys zs h a k = record {
    front = xs ++ a.front;
    back = a.back ++ zs;
    is = ap (λ vs. xs ++ vs ++ zs) a.is ∙ simp append_assoc;
    passes = a.passes;
    none_before = every-append _ xs a.front h a.none_before;
    none_after = every-append _ a.back zs a.none_after k;
  }

-- ---- what is at hand

module _ {X : Type 0} where
  pub present-push : (i : ℕ) (os : List (Option X)) (x : X) → present_from i (os ++ Some x ∷ []) ≡ present_from i os ++ (i + length os, x) ∷ []
  present-push i [] x = let e : i ≡ i + 0 = omega arith in ap (λ n. (n, x) ∷ []) e
  present-push i (None ∷ os) x =
      let e : suc i + length os ≡ i + suc (length os) = omega arith in
      present-push (suc i) os x ∙ ap (λ n. present_from (suc i) os ++ (n, x) ∷ []) e
  present-push i (Some y ∷ os) x =
      let e : suc i + length os ≡ i + suc (length os) = omega arith in
      ap (λ r. (i, y) ∷ r) (present-push (suc i) os x ∙ ap (λ n. present_from (suc i) os ++ (n, x) ∷ []) e)

  pub present-pop : (i : ℕ) (os : List (Option X)) → present_from i (os ++ None ∷ []) ≡ present_from i os
  present-pop i [] = refl
  present-pop i (None ∷ os) = present-pop (suc i) os
  present-pop i (Some y ∷ os) = ap (λ r. (i, y) ∷ r) (present-pop (suc i) os)

  -- no index is below the first one
  pub present-low : (i n : ℕ) (os : List (Option X)) → n < i → AllByRecursion (λ y. eqb y.0 n ≡ false) (present_from i os)
  present-low i n [] h = tt
  present-low i n (None ∷ os) h = present-low (suc i) n os (omega arith)
  present-low i n (Some y ∷ os) h = (differs i n h, present-low (suc i) n os (omega arith))
    where
      differs : (a b : ℕ) → b < a → eqb a b ≡ false
      differs a b h = grind (arith, nat_tests)

  -- the one at an index, where it isn't gone
  pub present-alone : (i k n : ℕ) (os : List (Option X)) (x : X) → n ≡ i + k → slice_get os k ≡ Some (Some x) → PassesAlone (λ y. eqb y.0 n) (n, x) (present_from i os)
  present-alone i k n [] x e g = absurd (let h : None ≡ Some (Some x) = g in cc)
  present-alone i zero n (None ∷ os) x e g = absurd (let h : Some None ≡ Some (Some x) = g in cc)
  present-alone i zero n (Some y ∷ os) x e g =
      let same : y ≡ x = cc in
      let at : i ≡ n = omega arith in
      record {
        front = [];
        back = present_from (suc i) os;
        is = λ j. (at j, same j) ∷ present_from (suc i) os;
        passes = itself n;
        none_before = tt;
        none_after = present-low (suc i) n os (omega arith);
      }
    where
      itself : (a : ℕ) → eqb a a ≡ true
      itself a = grind (arith, nat_tests)
  present-alone i (suc k) n (None ∷ os) x e g = present-alone (suc i) k n os x (omega arith) g
  present-alone i (suc k) n (Some y ∷ os) x e g =
      let a = present-alone (suc i) k n os x (omega arith) g in
      record {
        front = (i, y) ∷ a.front;
        back = a.back;
        is = ap (λ r. (i, y) ∷ r) a.is;
        passes = a.passes;
        none_before = (differs i n (omega arith), a.none_before);
        none_after = a.none_after;
      }
    where
      differs : (a b : ℕ) → a < b → eqb a b ≡ false
      differs a b h = grind (arith, nat_tests)

  -- and none where it is
  pub present-none : (i k n : ℕ) (os : List (Option X)) → n ≡ i + k → ((x : X) → slice_get os k ≡ Some (Some x) → ⊥) → AllByRecursion (λ y. eqb y.0 n ≡ false) (present_from i os)
  present-none i k n [] e g = tt
  present-none i zero n (None ∷ os) e g = present-low (suc i) n os (omega arith)
  present-none i zero n (Some y ∷ os) e g = absurd (g y refl)
  present-none i (suc k) n (None ∷ os) e g = present-none (suc i) k n os (omega arith) g
  present-none i (suc k) n (Some y ∷ os) e g = (differs i n (omega arith), present-none (suc i) k n os (omega arith) g)
    where
      differs : (a b : ℕ) → a < b → eqb a b ≡ false
      differs a b h = grind (arith, nat_tests)

  -- one is removed
  pub present-removed : (i k n : ℕ) (os : List (Option X)) (x : X) → n ≡ i + k → slice_get os k ≡ Some (Some x) → present_from i (slice_set os k None) ≡ filter (λ y. not (eqb y.0 n)) (present_from i os)
  present-removed i k n [] x e g = absurd (let h : None ≡ Some (Some x) = g in cc)
  present-removed i zero n (None ∷ os) x e g = absurd (let h : Some None ≡ Some (Some x) = g in cc)
  present-removed i zero n (Some y ∷ os) x e g =
      let at : eqb i n ≡ true = same i n (omega arith) in
      let rest = none-filter (λ (y : ℕ × X). eqb y.0 n) (present_from (suc i) os) (present-low (suc i) n os (omega arith)) in
      rw at (sym rest)
    where
      same : (a b : ℕ) → a ≡ b → eqb a b ≡ true
      same a b h = grind (arith, nat_tests)
  present-removed i (suc k) n (None ∷ os) x e g = present-removed (suc i) k n os x (omega arith) g
  present-removed i (suc k) n (Some y ∷ os) x e g =
      let at : eqb i n ≡ false = differs i n (omega arith) in
      rw at (ap (λ r. (i, y) ∷ r) (present-removed (suc i) k n os x (omega arith) g))
    where
      differs : (a b : ℕ) → a < b → eqb a b ≡ false
      differs a b h = grind (arith, nat_tests)

-- writing what is there changes nothing
pub set-same : {X : Type 0} (xs : List X) (k : ℕ) (x : X) → slice_get xs k ≡ Some x → slice_set xs k x ≡ xs
set-same [] k x e = refl
set-same (y ∷ ys) zero x e = let same : y ≡ x = cc in ap (λ z. z ∷ ys) (sym same)
set-same (y ∷ ys) (suc k) x e = ap (λ zs. y ∷ zs) (set-same ys k x e)

-- a number that isn't below another is past it
pub not-within : (a b n : ℕ) → a ≡ b → (n < a → ⊥) → b ≤ n
not-within a b n e h = omega (arith, e, h)

-- what holds of the one that passes a test holds of each that does
module _ {X : Type 0} (test : X → Bool) (Q : X → Type 0) where
  pub none-all : (xs : List X) → NonePasses test xs → AllByRecursion (λ x. test x ≡ true → Q x) xs
  none-all [] h = tt
  none-all (x ∷ xs) h = ((λ e. absurd (let k : true ≡ false = sym e ∙ h.0 in cc)), none-all xs h.1)

  pub alone-all : (x : X) (xs : List X) → PassesAlone test x xs → Q x → AllByRecursion (λ y. test y ≡ true → Q y) xs
  alone-all x xs a q =
      subst (AllByRecursion (λ y. test y ≡ true → Q y)) (sym a.is)
      (every-append _ a.front (x ∷ a.back) (none-all a.front a.none_before) ((λ e. q), none-all a.back a.none_after))

-- one that passes a test isn't none
pub alone-none : {X : Type 0} (test : X → Bool) (x : X) (xs : List X) → PassesAlone test x xs → NonePasses test xs → ⊥
alone-none test x xs a h =
    let k : test x ≡ false = (every-right _ a.front (x ∷ a.back) (subst (NonePasses test) a.is h)).0 in
    let e : true ≡ false = sym a.passes ∙ k in
    cc

-- if it passes another test, some do
pub any-behind : {X : Type 0} (test : X → Bool) (xs : List X) (x : X) (ys : List X) → test x ≡ true → list_any test (xs ++ x ∷ ys) ≡ true
any-behind test [] x ys e = rw e
any-behind test (z ∷ zs) x ys e = ap (λ b. test z || b) (any-behind test zs x ys e) ∙ last (test z)
  where
    last : (b : Bool) → (b || true) ≡ true
    last true = refl
    last false = refl

pub any-append : {X : Type 0} (test : X → Bool) (xs ys : List X) → list_any test (xs ++ ys) ≡ (list_any test xs || list_any test ys)
any-append test [] ys = refl
any-append test (x ∷ xs) ys = ap (λ b. test x || b) (any-append test xs ys) ∙ sym (group (test x) (list_any test xs) (list_any test ys))
  where
    group : (a b c : Bool) → ((a || b) || c) ≡ (a || (b || c))
    group true b c = refl
    group false b c = refl

-- ---- what a filter keeps

module _ {X : Type 0} where
  pub filter-both : (p q r : X → Bool) (xs : List X) → ((x : X) → r x ≡ (p x && q x)) → filter q (filter p xs) ≡ filter r xs
  filter-both p q r [] h = refl
  filter-both p q r (x ∷ xs) h =
      elim (p x) as (λ a. r x ≡ (a && q x) → filter q (cond a (x ∷ filter p xs) (filter p xs)) ≡ cond (r x) (x ∷ filter r xs) (filter r xs)) [
        | true ↦ λ e. rw e (ap (λ ys. cond (q x) (x ∷ ys) ys) (filter-both p q r xs h))
        | false ↦ λ e. rw e (filter-both p q r xs h)
      ] (h x)

  pub filter-same : (p q : X → Bool) (xs : List X) → AllByRecursion (λ x. p x ≡ q x) xs → filter p xs ≡ filter q xs
  filter-same p q [] h = refl
  filter-same p q (x ∷ xs) h = rw h.0 (ap (λ ys. cond (q x) (x ∷ ys) ys) (filter-same p q xs h.1))

  pub filter-all : (p : X → Bool) (xs : List X) → AllByRecursion (λ x. p x ≡ true) xs → filter p xs ≡ xs
  filter-all p [] h = refl
  filter-all p (x ∷ xs) h = rw h.0 (ap (λ ys. x ∷ ys) (filter-all p xs h.1))

  pub filter-none : (p : X → Bool) (xs : List X) → AllByRecursion (λ x. p x ≡ false) xs → filter p xs ≡ []
  filter-none p [] h = refl
  filter-none p (x ∷ xs) h = rw h.0 (filter-none p xs h.1)

-- what is left when those with an index below a bound had to pass a test
module _ {X : Type 0} (keeps : ℕ × X → Bool) where
  abbrev pub stays_below : ℕ → ℕ × X → Bool
  stays_below i x = not (ltb x.0 i) || keeps x

  one_more : (n i : ℕ) (k : Bool) → (not (ltb n (i + 1)) || k) ≡ ((not (ltb n i) || k) && (not (eqb n i) || k))
  one_more n i true = or_true (not (ltb n (i + 1))) ∙ sym (both (not (ltb n i)) (not (eqb n i)))
    where
      or_true : (a : Bool) → (a || true) ≡ true
      or_true true = refl
      or_true false = refl

      both : (a b : Bool) → ((a || true) && (b || true)) ≡ true
      both true true = refl
      both true false = refl
      both false true = refl
      both false false = refl
  one_more n i false = or_false (not (ltb n (i + 1))) ∙ apart n i ∙ sym (both (not (ltb n i)) (not (eqb n i)))
    where
      or_false : (a : Bool) → (a || false) ≡ a
      or_false true = refl
      or_false false = refl

      both : (a b : Bool) → ((a || false) && (b || false)) ≡ (a && b)
      both true true = refl
      both true false = refl
      both false true = refl
      both false false = refl

      apart : (n i : ℕ) → not (ltb n (i + 1)) ≡ (not (ltb n i) && not (eqb n i))
      apart n i = grind (arith, nat_tests)

  pub stays-none : (xs : List (ℕ × X)) → xs ≡ filter (stays_below 0) xs
  stays-none xs = sym (filter-all (stays_below 0) xs (every-all _ xs (λ x m. none x.0 (keeps x))))
    where
      none : (n : ℕ) (k : Bool) → (not (ltb n 0) || k) ≡ true
      none n k = ap (λ b. not b || k) (let e : ltb n 0 ≡ false = grind (arith, nat_tests) in e)

  pub stays-all : (n : ℕ) (xs : List (ℕ × X)) → AllByRecursion (λ x. x.0 < n) xs → filter (stays_below n) xs ≡ filter keeps xs
  stays-all n xs h = filter-same (stays_below n) keeps xs (every-weaker _ _ xs (λ x l. same x.0 (keeps x) l) h)
    where
      same : (m : ℕ) (k : Bool) → m < n → (not (ltb m n) || k) ≡ k
      same m k l = ap (λ b. not b || k) (let e : ltb m n ≡ true = grind (arith, nat_tests) in e)

  pub stays-more : (b : Bool) (i : ℕ) (xs : List (ℕ × X))
      → AllByRecursion (λ x. eqb x.0 i ≡ true → keeps x ≡ not b) (filter (stays_below i) xs)
      → cond b (filter (λ x. not (eqb x.0 i)) (filter (stays_below i) xs)) (filter (stays_below i) xs) ≡ filter (stays_below (i + 1)) xs
  stays-more b i xs h = step b h ∙ filter-both (stays_below i) (λ x. not (eqb x.0 i) || keeps x) (stays_below (i + 1)) xs (λ x. one_more x.0 i (keeps x))
    where
      gone : (a k : Bool) → (a ≡ true → k ≡ false) → not a ≡ (not a || k)
      gone true k h = sym (h refl)
      gone false k h = refl

      kept : (a k : Bool) → (a ≡ true → k ≡ true) → (not a || k) ≡ true
      kept true k h = h refl
      kept false k h = refl

      step : (b : Bool) → AllByRecursion (λ x. eqb x.0 i ≡ true → keeps x ≡ not b) (filter (stays_below i) xs)
          → cond b (filter (λ x. not (eqb x.0 i)) (filter (stays_below i) xs)) (filter (stays_below i) xs) ≡ filter (λ x. not (eqb x.0 i) || keeps x) (filter (stays_below i) xs)
      step true h = filter-same _ _ (filter (stays_below i) xs) (every-weaker _ _ (filter (stays_below i) xs) (λ x k. gone (eqb x.0 i) (keeps x) k) h)
      step false h = sym (filter-all _ (filter (stays_below i) xs) (every-weaker _ _ (filter (stays_below i) xs) (λ x k. kept (eqb x.0 i) (keeps x) k) h))

-- each index is within the list
pub present-high : {X : Type 0} (i n : ℕ) (os : List (Option X)) → i + length os ≤ n → AllByRecursion (λ y. y.0 < n) (present_from i os)
present-high i n [] h = tt
present-high i n (None ∷ os) h = present-high (suc i) n os (omega arith)
present-high i n (Some y ∷ os) h = (omega arith, present-high (suc i) n os (omega arith))

-- a test by the order of numbers
pub lt-is : (r : Bool) (a b : ℕ) → r ≡ is_lt (nat_cmp a b) → ltb a b ≡ r
lt-is r a b e = grind (arith, nat_tests)
