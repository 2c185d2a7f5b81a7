use Rattle.std.proofs.lemmas.Result.{on_err_weaker}
use Rattle.vt_text.proofs.TextLemmas.{begun, flush_fails, on_err}
use Rattle.vt_tasks.proofs.PrintLemmas.{result-first, result-lines, result-finals, result-held}
use Rattle.vt_tasks.proofs.printed.print_result.Goals as goal

pub returns-in_err-put_bytes-clause-err : goal.returns-in_err-put_bytes-clause-err
returns-in_err-put_bytes-clause-err g c =
    let a = c.args in
    on_err c.from_residual.result (result-first a.shown a.records.now a.finals.now c.new-text.ensures c.first_of.ensures (begun _ _ _ _ c.in_err-put_bytes.ensures.err))

pub returns-in_err-put_shown-clause-err : goal.returns-in_err-put_shown-clause-err
returns-in_err-put_shown-clause-err g c =
    let a = c.args in
    on_err c.from_residual-in_err-put_shown.result (result-lines a.shown a.records.now a.finals.now c.new-text.ensures c.first_of.ensures c.in_ok-put_bytes.ensures.ok (begun _ _ _ _ c.in_err-put_shown.ensures.err))

pub returns-in_err-put_finals-clause-err : goal.returns-in_err-put_finals-clause-err
returns-in_err-put_finals-clause-err g c =
    let a = c.args in
    on_err c.from_residual-in_err-put_finals.result (result-finals a.shown a.records.now a.finals.now c.new-text.ensures c.first_of.ensures c.in_ok-put_bytes.ensures.ok c.in_ok-put_shown.ensures.ok c.in_err-put_finals.ensures.err)

pub returns-clause-err : goal.returns-clause-err
returns-clause-err g c =
    let a = c.args in
    on_err_weaker c.flush.result (flush_fails _ _ _ _ _ (result-held a.shown a.records.now a.finals.now c.new-text.ensures c.first_of.ensures c.in_ok-put_bytes.ensures.ok c.in_ok-put_shown.ensures.ok c.in_ok-put_finals.ensures.ok)) c.flush.ensures.err
