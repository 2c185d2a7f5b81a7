use Rattle.std.proofs.Common.{◌∙◌, ap, sym, refl, is_ok}
use Rattle.vt_board.specs.inside.BoardOfRun.{BoardOfRun}
use Rattle.vt_kernel.specs.inside.Held.{HeldWorker}
use Rattle.vt_cells.proofs.BoardSteps.{report-done, report-refused}
use Rattle.vt_cells.proofs.cutting.report.Goals as goal

pub returns-in-Ok-clause-step : goal.returns-in-Ok-clause-step
returns-in-Ok-clause-step g c H =
    let r = c.requires in
    report-done H c.args.w c.args.kernel.now c.set_floor.new.self c.args.board.now.board c.report.new.self.board r.end r.sent r.got r.least
    (sym c.report.ensures.lawful ∙ ap is_ok c.in-Ok.is) (ap (λ (b : BoardOfRun). b.board) c.in-Ok.ensures.reported) c.in-Ok.ensures.answer c.announced.ensures.announced
    (ap (λ (k : HeldWorker _ _ _). k.worker) c.set_floor.ensures.set) (ap (λ (k : HeldWorker _ _ _). k.config) c.set_floor.ensures.set) (c.set_floor.ensures.stands H)

pub returns-in-Err-clause-step : goal.returns-in-Err-clause-step
returns-in-Err-clause-step g c H =
    let r = c.requires in
    report-refused H c.args.w c.args.kernel.now c.args.kernel.now c.args.board.now.board c.report.new.self.board r.end r.sent r.got r.least c.in-Err.fault
    (sym c.report.ensures.lawful ∙ ap is_ok c.in-Err.is) c.in-Err.ensures.refused refl (ap (λ (b : BoardOfRun). b.board) c.in-Err.ensures.kept)
