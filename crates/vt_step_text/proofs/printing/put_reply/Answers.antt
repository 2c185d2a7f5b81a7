use Rattle.vt_text.proofs.TextLemmas.{held_stops, on_err}
use Rattle.vt_step_text.specs.promise.Replies.{reply_text}
use Rattle.vt_step_text.proofs.printing.put_reply.Goals as goal

pub returns-in_err-make_room-clause-err : goal.returns-in_err-make_room-clause-err
returns-in_err-make_room-clause-err g c =
    let a = c.args in
    let e = c.in_err-make_room.ensures in
    on_err c.from_residual.result (held_stops _ _ a.text.now _ (reply_text a.line a.answer.now) e.kept e.err)
