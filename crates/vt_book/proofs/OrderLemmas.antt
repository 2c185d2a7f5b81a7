-- The order of rows, and rows in rising order.
use Rattle.std.proofs.Common.{◌≡◌, ℕ, ◌+◌, true, false, List, [], ◌∷◌, get_or, refl, sym, ap, subst, ◌∙◌, arith, All}
use Rattle.std.specs.Cmp.{IsStrictWeakOrder}
use Rattle.std.specs.List.Sorted.{IsPermutation, IsSortedBy}
use Rattle.std.specs.Ordering.{is_lt, ordering_reverse}
use Rattle.std.specs.declared.cmp.Ordering.{Ordering}
use Rattle.std.specs.declared.cmp.Ordering.TheVariants.{Less, Equal, Greater}
use Rattle.std.proofs.lemmas.Grind.{get_or_tail}
use Rattle.std.proofs.lemmas.List.Elements.{recursion_from_All}
use Rattle.std.proofs.lemmas.List.Sorted.{ranks_by, sorted_far, sum_by-IsPermutation}
use Rattle.vt_key.proofs.ListLemmas.{every-weaker}
use Rattle.vt_model.specs.declared.rows.Row.{Row}
use Rattle.vt_steps.specs.promise.Rows.{row_before}
use Rattle.vt_steps.specs.inside.Rows.{NoneBefore, AreSameRows}
use Rattle.vt_book.specs.inside.Runs.{AreRising, row_total}
use Rattle.vt_book.proofs.RowCmp.{compared, is_lt-compared}

-- ---- the order of rows, for sorts

pub rises-weak : IsStrictWeakOrder (λ (x y : Row). is_lt (compared x y))
rises-weak = ranks_by row_total (λ (x : Row). x)

-- two rows, neither of which is before the other, compare as equal
pub compared-equal : (a b : Row) → row_before a b ≡ false → row_before b a ≡ false → compared a b ≡ Equal
compared-equal a b h k = elim (compared b a) as (λ o. compared b a ≡ o → compared a b ≡ Equal) [
  | Less ↦ λ e. absurd (let no : true ≡ false = sym (ap is_lt e) ∙ is_lt-compared b a ∙ k in cc)
  | Equal ↦ λ e. row_total.antisymm a b ∙ ap ordering_reverse e
  | Greater ↦ λ e. absurd (let no : true ≡ false = sym (ap is_lt (row_total.antisymm a b ∙ ap ordering_reverse e)) ∙ is_lt-compared a b ∙ h in cc)
] refl

pub compared-less : (a b : Row) → row_before a b ≡ true → compared a b ≡ Less
compared-less a b h = of (compared a b) (is_lt-compared a b ∙ h)
  where
    of : (o : Ordering) → is_lt o ≡ true → o ≡ Less
    of Less e = refl
    of Equal e = absurd (let no : false ≡ true = e in cc)
    of Greater e = absurd (let no : false ≡ true = e in cc)

pub compared-greater : (a b : Row) → row_before b a ≡ true → compared a b ≡ Greater
compared-greater a b h = row_total.antisymm a b ∙ ap ordering_reverse (compared-less b a h)

-- what is not before a row is not before one that isn't after that row
chain : (x y z : Row) → row_before x y ≡ false → row_before y z ≡ false → row_before x z ≡ false
chain x y z h k = sym (is_lt-compared x z) ∙ rises-weak.chain x y z (is_lt-compared x y ∙ h) (is_lt-compared y z ∙ k)

-- so where none is before a row, none is before one that isn't after it
pub none-chain : (row other : Row) (rows : List Row) → row_before other row ≡ false → NoneBefore other rows → NoneBefore row rows
none-chain row other rows h = every-weaker (λ r. row_before r other ≡ false) (λ r. row_before r row ≡ false) rows (λ r n. chain r other row n h)

-- ---- rising rows

-- by index and by recursion
pub sorted-rising : (xs : List Row) → IsSortedBy (λ x y. is_lt (compared x y)) xs → AreRising xs
sorted-rising [] h = tt
sorted-rising (x ∷ xs) h =
    let behind : (n : ℕ) (d : Row) → get_or (x ∷ xs) (n + 1) d ≡ get_or xs n d = λ n d. get_or_tail x xs (n + 1) d (omega arith) ∙ ap (λ m. get_or xs m d) (omega arith) in
    let far : All (λ (r : Row). row_before r x ≡ false) xs =
    λ k d within. subst (λ (r : Row). row_before r x ≡ false) (behind k d)
    (sym (is_lt-compared (get_or (x ∷ xs) (k + 1) d) x) ∙ sorted_far (λ (a b : Row). is_lt (compared a b)) rises-weak (x ∷ xs) h 0 (k + 1) d (omega arith) (omega arith)) in (
      recursion_from_All (λ (r : Row). row_before r x ≡ false) xs far,
      sorted-rising xs (λ k d low high. (λ t. is_lt (compared (sym (behind (k + 1) d) t) (sym (behind k d) t))) ∙ h (k + 1) d (omega arith) (omega arith)),
    )

-- ---- the same rows

-- rows in another order are the same rows
pub same-permuted : (xs ys : List Row) → IsPermutation xs ys → AreSameRows xs ys
same-permuted xs ys h f = sym (sum_by-IsPermutation f xs ys h)
