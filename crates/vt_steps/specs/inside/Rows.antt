-- Lists with the same rows.
use Rattle.std.specs.Prelude.{◌≡◌, false, List, ℕ}
use Rattle.std.specs.List.{sum_by, AllByRecursion}
use Rattle.vt_model.specs.declared.rows.Row.{Row}
use Rattle.vt_steps.specs.promise.Rows.{row_before}

-- two lists have the same rows, each as often: they have the same sums, whatever each row weighs
abbrev pub AreSameRows : List Row → List Row → Type 0
AreSameRows xs ys = (f : Row → ℕ) → sum_by f xs ≡ sum_by f ys

-- none of these rows is before a row
abbrev pub NoneBefore : Row → List Row → Type 0
NoneBefore row = AllByRecursion (λ r. row_before r row ≡ false)
