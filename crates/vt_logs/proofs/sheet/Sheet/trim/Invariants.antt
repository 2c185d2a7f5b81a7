use Rattle.std.proofs.Common.{◌≡◌, false, length}
use Rattle.vt_logs.specs.inside.Sheets.{IsSheet, live_in}
use Rattle.vt_logs.proofs.sheet.Sheet.trim.Given as goal

abbrev pub invariant-loop-slot : goal.invariant-loop-slot
invariant-loop-slot g l =
    let i = l.self-inside in
    (IsSheet i.slots.items i.sends.items i.records.items i.earliest i.latest i.needs) × (live_in i.sends.items i.records.items i.slots.items ≡ l.fn.self.live) × (i.has_room ≡ false)

abbrev pub decreases-loop-slot : goal.decreases-loop-slot
decreases-loop-slot g l = length l.self-inside.slots.items
