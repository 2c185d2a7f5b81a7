use Rattle.std.proofs.Common.{refl, ap}
use Rattle.std.proofs.lemmas.Result.{err_from_is_err_and}
use Rattle.vt_kernel.specs.inside.Held.{HeldWorker}
use Rattle.vt_cells.proofs.BookSteps.{commit-done, commit-refused}
use Rattle.vt_cells.proofs.committing.commit.Goals as goal

pub returns-in_err-hand_in-clause-step : goal.returns-in_err-hand_in-clause-step
returns-in_err-hand_in-clause-step g c H =
    let p = err_from_is_err_and c.from_residual.result c.from_residual.ensures.1 in
    rw (p.1, p.2) (commit-refused H c.args.kernel.now.config c.in_err-hand_in.field-0.0 (c.in_err-hand_in.ensures.step H) refl)

pub returns-clause-step : goal.returns-clause-step
returns-clause-step g c H =
    let others = c.fossil.ensures.others in
    commit-done H c.args.kernel.now.config (c.in_ok-hand_in.ensures.step H) (ap (λ (k : HeldWorker _ _ _). k.worker) others) (ap (λ (k : HeldWorker _ _ _). k.config) others) (c.fossil.ensures.stands H)
