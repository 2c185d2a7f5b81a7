use Rattle.std.proofs.lemmas.Result.{on_err_weaker}
use Rattle.vt_text.proofs.TextLemmas.{begun, flush_fails, on_err}
use Rattle.vt_text.proofs.printing.print_records.Goals as goal

pub returns-in_err-put_records-clause-err : goal.returns-in_err-put_records-clause-err
returns-in_err-put_records-clause-err g c = on_err c.from_residual.result (begun _ _ _ _ (rw c.new-text.ensures at c.in_err-put_records.ensures.err))

pub returns-clause-err : goal.returns-clause-err
returns-clause-err g c = on_err_weaker c.flush.result (flush_fails _ _ _ _ _ (rw c.new-text.ensures at c.in_ok-put_records.ensures.ok)) c.flush.ensures.err
