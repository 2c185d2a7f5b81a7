use Rattle.std.proofs.Common.{◌≤◌, ◌+◌, length, sym, append-nil}
use Rattle.vt_model.specs.declared.limits.TheConstants.{MAX_RECORDS}
use Rattle.vt_logs.specs.declared.slot.Slot.{Slot}
use Rattle.vt_logs.specs.inside.Sheets.{slot_rows}
use Rattle.vt_logs.proofs.SheetLemmas.{every-item, flat-more, flat-total}
use Rattle.vt_logs.proofs.sheet.append_rows_in.Goals as goal

pub loop-slot-init : goal.loop-slot-init
loop-slot-init g c = sym (append-nil c.args.rows.now.items)

pub append_rows_at-requires-clause-within : goal.append_rows_at-requires-clause-within
append_rows_at-requires-clause-within g c =
    every-item (λ (s : Slot _ _). s.first_record + s.record_count ≤ length c.args.records.now) c.args.slots.now c.loop-slot.slot-index c.slot-item.result c.loop-slot-test.true c.slot-item.is c.requires.within

pub append_rows_at-requires-clause-few : goal.append_rows_at-requires-clause-few
append_rows_at-requires-clause-few g c =
    every-item (λ (s : Slot _ _). s.record_count ≤ MAX_RECORDS) c.args.slots.now c.loop-slot.slot-index c.slot-item.result c.loop-slot-test.true c.slot-item.is c.requires.few

pub loop-slot-preserved : goal.loop-slot-preserved
loop-slot-preserved g c =
    flat-more (slot_rows c.args.floor c.args.records.now) c.args.slots.now c.loop-slot.slot-index c.slot-item.result c.args.rows.now.items c.loop-slot.rows.items c.append_rows_at.new.rows.items
    c.loop-slot-test.true c.slot-item.is c.loop-slot.invariant c.in-Ok.ensures.rows

pub returns-clause-rows : goal.returns-clause-rows
returns-clause-rows g c =
    flat-total (slot_rows c.args.floor c.args.records.now) c.args.slots.now c.loop-slot.slot-index c.args.rows.now.items c.loop-slot.rows.items c.loop-slot-test.false c.loop-slot.invariant
