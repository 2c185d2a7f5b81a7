use Rattle.std.proofs.lemmas.Result.{on_ok_weaker, on_err_weaker}
use Rattle.vt_text.specs.promise.Records.{first_line, record_lines}
use Rattle.vt_text.proofs.TextLemmas.{first_stops, on_err, then_put, then_stops}
use Rattle.vt_text.proofs.printing.put_records.Goals as goal

pub returns-in_err-put_bytes-clause-err : goal.returns-in_err-put_bytes-clause-err
returns-in_err-put_bytes-clause-err g c =
    on_err c.from_residual.result (first_stops _ _ c.put_bytes.new.self c.args.text.now (first_line c.args.version) (record_lines c.args.version c.args.records.now) (rw c.first_line.ensures at c.in_err-put_bytes.ensures.err))

pub returns-clause-ok : goal.returns-clause-ok
returns-clause-ok g c =
    on_ok_weaker c.put_lines.result (then_put _ _ _ _ _ c.args.text.now (first_line c.args.version) (record_lines c.args.version c.args.records.now) (rw c.first_line.ensures at c.in_ok-put_bytes.ensures.ok)) c.put_lines.ensures.ok

pub returns-clause-err : goal.returns-clause-err
returns-clause-err g c =
    on_err_weaker c.put_lines.result (then_stops _ _ _ _ _ c.args.text.now (first_line c.args.version) (record_lines c.args.version c.args.records.now) (rw c.first_line.ensures at c.in_ok-put_bytes.ensures.ok)) c.put_lines.ensures.err
