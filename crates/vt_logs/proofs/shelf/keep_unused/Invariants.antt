use Rattle.std.proofs.Common.{ℕ, ◌+◌, ◌<◌, ◌≤◌, eqb, length, take}
use Rattle.std.specs.List.{filter, count_by, AllByRecursion}
use Rattle.vt_logs.specs.inside.Shelves.{is_unused}
use Rattle.vt_logs.proofs.shelf.keep_unused.Given as goal

abbrev pub invariant-loop-number : goal.invariant-loop-number
invariant-loop-number g l =
    (AllByRecursion (λ n. n < length l.sheets) l.spare.items)
    × ((n : ℕ) → count_by (λ m. eqb m n) l.spare.items ≤ count_by (λ m. eqb m n) l.initial.spare.items + count_by (λ m. eqb m n) (filter (is_unused l.sheets) (take l.number-index l.numbers)))
