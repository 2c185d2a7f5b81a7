use Rattle.std.proofs.Common.{refl, sym, ◌∙◌}
use Rattle.vt_logs.specs.inside.Sheets.{has_slot_stamp}
use Rattle.vt_logs.proofs.SheetLemmas.{any-found, any-more, any-total}
use Rattle.vt_logs.proofs.sheet.is_any_stamped.Goals as goal

pub loop-slot-init : goal.loop-slot-init
loop-slot-init g c = refl

pub returns-then-is_stamped : goal.returns-then-is_stamped
returns-then-is_stamped g c =
    any-found (has_slot_stamp c.args.stamp.now) c.args.slots.now c.loop-slot.slot-index c.slot-item.result c.loop-slot-test.true c.slot-item.is (sym c.is_stamped.ensures ∙ c.if-is_stamped.true)

pub loop-slot-preserved : goal.loop-slot-preserved
loop-slot-preserved g c =
    any-more (has_slot_stamp c.args.stamp.now) c.args.slots.now c.loop-slot.slot-index c.slot-item.result c.loop-slot-test.true c.slot-item.is c.loop-slot.invariant
    (sym c.is_stamped.ensures ∙ c.if-is_stamped.false)

pub returns : goal.returns
returns g c = any-total (has_slot_stamp c.args.stamp.now) c.args.slots.now c.loop-slot.slot-index c.loop-slot-test.false c.loop-slot.invariant
