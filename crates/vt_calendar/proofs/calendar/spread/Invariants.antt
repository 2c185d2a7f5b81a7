use Rattle.std.proofs.Common.{◌++◌, length}
use Rattle.std.specs.List.Sorted.{IsPermutation}
use Rattle.vt_calendar.specs.inside.Slots.{items_in}
use Rattle.vt_calendar.specs.inside.Kept.{AreFrom, AreReached, ArePlaced}
use Rattle.vt_calendar.proofs.calendar.spread.Given as goal

abbrev pub invariant-loop-letter : goal.invariant-loop-letter
invariant-loop-letter g l =
    IsPermutation (l.fn.letters ++ items_in l.fn.slots) (l.letters ++ (l.buckets ++ items_in l.slots))
    × (ArePlaced l.fn.now l.fn.slots → ArePlaced l.fn.now l.slots) × AreFrom l.fn.now l.letters × AreReached l.fn.now l.buckets

abbrev pub decreases-loop-letter : goal.decreases-loop-letter
decreases-loop-letter g l = length l.letters
