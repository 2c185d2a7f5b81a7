use Rattle.std.proofs.Common.{◌≡◌, ℕ, ◌≤◌, ◌++◌, List, Some, slice_get, length}
use Rattle.std.specs.List.Sorted.{IsPermutation}
use Rattle.vt_key.specs.declared.letter.Letter.{Letter}
use Rattle.vt_calendar.specs.inside.Slots.{items_in}
use Rattle.vt_calendar.proofs.slots.Slots.take_before.Given as goal

abbrev pub invariant-loop-slot : goal.invariant-loop-slot
invariant-loop-slot g l =
    IsPermutation (l.fn.letters ++ items_in l.fn.self) (l.letters ++ items_in l.self)
    × ((i : ℕ) (list : List (Letter _)) → slice_get l.self i ≡ Some list → l.fn.bound ≤ i → slice_get l.fn.self i ≡ Some list)

abbrev pub decreases-loop-slot : goal.decreases-loop-slot
decreases-loop-slot g l = length (items_in l.self)
