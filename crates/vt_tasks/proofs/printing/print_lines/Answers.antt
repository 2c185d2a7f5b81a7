use Rattle.std.proofs.lemmas.Result.{on_err_weaker}
use Rattle.vt_text.proofs.TextLemmas.{begun, flush_fails, on_err}
use Rattle.vt_tasks.proofs.printing.print_lines.Goals as goal

pub returns-in_err-put_lines-clause-err : goal.returns-in_err-put_lines-clause-err
returns-in_err-put_lines-clause-err g c = on_err c.from_residual.result (begun _ _ _ _ (rw c.new-text.ensures at c.in_err-put_lines.ensures.err))

pub returns-clause-err : goal.returns-clause-err
returns-clause-err g c = on_err_weaker c.flush.result (flush_fails _ _ _ _ _ (rw c.new-text.ensures at c.in_ok-put_lines.ensures.ok)) c.flush.ensures.err
