use Rattle.std.proofs.Common.{◌≡◌, ◌++◌, take}
use Rattle.std.specs.List.{flat_map}
use Rattle.vt_logs.specs.inside.Sheets.{slot_rows}
use Rattle.vt_logs.proofs.sheet.append_rows_in.Given as goal

abbrev pub invariant-loop-slot : goal.invariant-loop-slot
invariant-loop-slot g l = l.rows.items ≡ l.fn.rows.items ++ flat_map (slot_rows l.floor l.records) (take l.slot-index l.slots)
