use Rattle.std.proofs.Common.{rules, ◌≡◌, ◌∙◌, ap, sym, refl, arith, Some}
use Rattle.vt_key.specs.declared.fault.Fault.TheVariants.{NotLawful}
use Rattle.vt_steps.specs.declared.step.Step.TheVariants.{Report}
use Rattle.vt_model.specs.declared.settings.Config.{Config}
use Rattle.vt_model.specs.promise.Settings.{end_of}
use Rattle.vt_kernel.specs.inside.Held.{HeldWorker}
use Rattle.vt_board.specs.inside.Calls.{reply_of}
use Rattle.vt_cells.specs.inside.Calls.{answer_as}
use Rattle.vt_world.proofs.StepLemmas.{step-left}
use Rattle.vt_world.proofs.Indices.{worker-there}
use Rattle.vt_world.proofs.CellLemmas.{board-put, cell-answers, cell-inside}
use Rattle.vt_world.proofs.WorldSteps.{who, of-nobody}
use Rattle.vt_world.proofs.in_memory.InMemory.report.Goals.{in-Ok, in-Err}
use Rattle.vt_world.proofs.in_memory.InMemory.report.Goals as goal

pub returns-then-w-self : goal.returns-then-w-self
returns-then-w-self g c = step-left g.M.Model.handlers c.self.view_is (Report c.args.w) NotLawful (of-nobody c.self.invariant c.if-w-self.true (Report c.args.w) refl tt)

pub report-requires-after_bounds : goal.report-requires-after_bounds
report-requires-after_bounds g c κs within =
    let is = who c.self.invariant (worker-there c.self.invariant c.if-w-self.false c.index_mut-kernel.ensures.value ∙ ap (λ (k : HeldWorker _ _ _). Some k) (sym c.report_values-values.ensures.same)) in
    let values = c.report_values-values.ensures in
    (omega arith, (values.sent, (values.got, (values.least, c.self.invariant.same_board_end ∙ ap (λ (f : Config). end_of f) (sym is.1)))))

pub invariant_of-self : goal.invariant_of-self
invariant_of-self g c =
    let at = worker-there c.self.invariant c.if-w-self.false c.index_mut-kernel.ensures.value ∙ ap (λ (k : HeldWorker _ _ _). Some k) (sym c.report_values-values.ensures.same) in
    cell-inside g.M.Model.handlers c.self.invariant (λ u. Report c.args.w) refl refl (board-put c.self.invariant at c.report.new.kernel c.report.new.board.board) (c.report.ensures.step (g.M.Model.handlers c.self.inside.model.now)) c.report.ensures.end refl

pub returns : goal.returns
returns g c =
    let m = c.self.inside.model.now in
    let at = worker-there c.self.invariant c.if-w-self.false c.index_mut-kernel.ensures.value ∙ ap (λ (k : HeldWorker _ _ _). Some k) (sym c.report_values-values.ensures.same) in
    let is : answer_as reply_of c.report.result ≡ c.match-report.result = (elim c.match-report.branch [
      | in-Ok a ↦ ap (answer_as reply_of) a.in-Ok.is ∙ (search rules)
      | in-Err a ↦ ap (answer_as reply_of) a.in-Err.is ∙ (search rules)
    ]) in
    cell-answers g.M.Model.handlers c.self.invariant (λ u. Report c.args.w) refl refl (board-put c.self.invariant at c.report.new.kernel c.report.new.board.board) (c.report.ensures.step (g.M.Model.handlers m)) c.self.view_is is
