use Rattle.vt_text.proofs.TextLemmas.{on_err}
use Rattle.vt_tasks.proofs.FinalLemmas.{final_put, finals_stop}
use Rattle.vt_tasks.proofs.printed.put_finals.Goals as goal

pub returns-in_err-make_room-clause-err : goal.returns-in_err-make_room-clause-err
returns-in_err-make_room-clause-err g c =
    let a = c.args in
    on_err c.from_residual.result (finals_stop a.finals.now c.loop-lp.lp a.text.now _ _ _ _ c.loop-lp.invariant c.in_err-make_room.ensures.err)

pub loop-lp-preserved : goal.loop-lp-preserved
loop-lp-preserved g c =
    rw c.push_final.ensures
    (final_put c.args.finals.now c.loop-lp.lp c.args.text.now _ _ _ _ c.loop-lp.invariant _ _ c.loop-lp-test.true c.in_ok-make_room.ensures.ok)
