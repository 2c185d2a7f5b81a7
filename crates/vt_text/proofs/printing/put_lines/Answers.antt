use Rattle.vt_text.proofs.TextLemmas.{on_err}
use Rattle.vt_text.proofs.LineLemmas.{record_put, records_stop}
use Rattle.vt_text.proofs.printing.put_lines.Goals as goal

pub returns-in_err-make_room-clause-err : goal.returns-in_err-make_room-clause-err
returns-in_err-make_room-clause-err g c =
    let a = c.args in
    let e = c.in_err-make_room.ensures in
    on_err c.from_residual.result (records_stop a.version a.text.now a.records.now c.loop-item.item-index _ _ _ _ _ e.kept c.loop-item.invariant e.err)

pub loop-item-preserved : goal.loop-item-preserved
loop-item-preserved g c =
    rw c.push_record.ensures.text
    (record_put c.args.version c.args.text.now c.args.records.now c.loop-item.item-index _ _ _ _ _ _ c.loop-item-test.true c.loop-item.invariant c.in_ok-make_room.ensures.ok)
