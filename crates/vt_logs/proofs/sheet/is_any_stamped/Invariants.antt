use Rattle.std.proofs.Common.{◌≡◌, false, take}
use Rattle.std.specs.List.{list_any}
use Rattle.vt_logs.specs.inside.Sheets.{has_slot_stamp}
use Rattle.vt_logs.proofs.sheet.is_any_stamped.Given as goal

abbrev pub invariant-loop-slot : goal.invariant-loop-slot
invariant-loop-slot g l = list_any (has_slot_stamp l.stamp) (take l.slot-index l.slots) ≡ false
