use Rattle.std.proofs.Common.{◌≡◌, false, take}
use Rattle.std.specs.List.{list_any}
use Rattle.vt_calendar.specs.inside.Slots.{items_in}
use Rattle.vt_calendar.proofs.slots.Slots.any.Given as goal

abbrev pub invariant-loop-list : goal.invariant-loop-list
invariant-loop-list g l = list_any (g.T.Predicate.passes l.fn.test) (items_in (take l.list-index l.list-items)) ≡ false
