use Rattle.std.proofs.Common.{ap, refl}
use Rattle.vt_board.specs.inside.BoardOfRun.{BoardOfRun}
use Rattle.vt_kernel.specs.inside.Held.{HeldWorker}
use Rattle.vt_cells.proofs.BoardSteps.{cut-done, cut-refused}
use Rattle.vt_cells.proofs.cutting.cut.Goals as goal

pub returns-in-Ok-clause-step : goal.returns-in-Ok-clause-step
returns-in-Ok-clause-step g c H =
    cut-done H c.args.w c.args.kernel.now c.turn.new.self c.args.board.now.board c.cut.new.self.board c.requires.end c.in-Ok.ensures.cut c.in-Ok.ensures.announced
    (ap (λ (k : HeldWorker _ _ _). k.worker) c.turn.ensures.turned) (ap (λ (k : HeldWorker _ _ _). k.config) c.turn.ensures.turned) (c.turn.ensures.stands H)

pub returns-in-Err-clause-step : goal.returns-in-Err-clause-step
returns-in-Err-clause-step g c H =
    cut-refused H c.args.w c.args.kernel.now c.args.kernel.now c.args.board.now.board c.cut.new.self.board c.requires.end c.in-Err.fault c.in-Err.ensures.refused refl
    (ap (λ (b : BoardOfRun). b.board) c.in-Err.ensures.kept)
