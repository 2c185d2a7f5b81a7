use Rattle.std.proofs.lemmas.Result.{on_ok_weaker, on_err_weaker}
use Rattle.vt_text.specs.promise.Records.{records_text}
use Rattle.vt_step_text.specs.promise.Replies.{shown_text, state_text}
use Rattle.vt_key.proofs.ResultLemmas.{on_refused}
use Rattle.vt_text.proofs.TextLemmas.{on_err, held_stops}
use Rattle.vt_step_text.proofs.PrintLemmas.{both_put, second_stops}
use Rattle.std.proofs.Common.{length}
use Rattle.vt_step_text.proofs.printing.put_state.Goals as goal

pub returns-clause-ok : goal.returns-clause-ok
returns-clause-ok g c =
    let a = c.args in
    let shown = shown_text a.announced a.floor a.least (length a.records.now) in
    on_ok_weaker c.put_records.result (λ h. both_put _ _ _ c.make_room.new.self _ a.text.now shown (records_text a.version a.records.now) c.in_ok-make_room.ensures.ok (rw c.push_shown.ensures.text at h)) c.put_records.ensures.ok

pub returns-clause-err : goal.returns-clause-err
returns-clause-err g c =
    let a = c.args in
    let shown = shown_text a.announced a.floor a.least (length a.records.now) in
    on_err_weaker c.put_records.result (λ h. second_stops _ _ _ c.make_room.new.self _ a.text.now shown (records_text a.version a.records.now) c.in_ok-make_room.ensures.ok (rw c.push_shown.ensures.text at h)) c.put_records.ensures.err

pub returns-in_err-make_room-clause-ok : goal.returns-in_err-make_room-clause-ok
returns-in_err-make_room-clause-ok g c = on_refused _ _ c.from_residual.result c.from_residual.ensures.1

pub returns-in_err-make_room-clause-err : goal.returns-in_err-make_room-clause-err
returns-in_err-make_room-clause-err g c =
    let a = c.args in
    let e = c.in_err-make_room.ensures in
    on_err c.from_residual.result (held_stops _ _ a.text.now _ (state_text a.version a.announced a.floor a.least a.records.now) e.kept e.err)
