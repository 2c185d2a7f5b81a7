use Rattle.std.proofs.Common.{rules, ◌∙◌, ap, sym, refl, arith}
use Rattle.vt_key.specs.declared.fault.Fault.TheVariants.{NotLawful}
use Rattle.vt_steps.specs.declared.step.Step.TheVariants.{Cut}
use Rattle.vt_model.specs.declared.settings.Config.{Config}
use Rattle.vt_model.specs.promise.Settings.{end_of}
use Rattle.vt_world.proofs.StepLemmas.{step-handed, step-left}
use Rattle.vt_world.proofs.Indices.{worker-there}
use Rattle.vt_world.proofs.CellLemmas.{board-put, cell-step, cell-inside}
use Rattle.vt_world.proofs.WorldSteps.{who, of-nobody}
use Rattle.vt_world.proofs.in_memory.InMemory.cut.Goals as goal

pub returns-then-w-self : goal.returns-then-w-self
returns-then-w-self g c = step-left g.M.Model.handlers c.self.view_is (Cut c.args.w) NotLawful (of-nobody c.self.invariant c.if-w-self.true (Cut c.args.w) refl tt)

pub cut-requires-clause-end : goal.cut-requires-clause-end
cut-requires-clause-end g c κs within =
    let is = who c.self.invariant (worker-there c.self.invariant c.if-w-self.false c.index_mut.ensures.value) in
    (omega arith, c.self.invariant.same_board_end ∙ ap (λ (f : Config). end_of f) (sym is.1))

pub invariant_of-self : goal.invariant_of-self
invariant_of-self g c =
    cell-inside g.M.Model.handlers c.self.invariant (λ u. Cut c.args.w) refl refl (board-put c.self.invariant (worker-there c.self.invariant c.if-w-self.false c.index_mut.ensures.value) c.cut.new.kernel c.cut.new.board.board) (c.cut.ensures.step (g.M.Model.handlers c.self.inside.model.now)) c.cut.ensures.end refl

pub returns-in_err-cut : goal.returns-in_err-cut
returns-in_err-cut g c =
    step-handed g.M.Model.handlers _ (search rules)
    (cell-step g.M.Model.handlers c.self.invariant (λ u. Cut c.args.w) refl refl (board-put c.self.invariant (worker-there c.self.invariant c.if-w-self.false c.index_mut.ensures.value) c.cut.new.kernel c.cut.new.board.board) (c.in_err-cut.ensures.step (g.M.Model.handlers c.self.inside.model.now)) c.self.view_is)

pub invariant_of-self-2 : goal.invariant_of-self-2
invariant_of-self-2 g c =
    cell-inside g.M.Model.handlers c.self.invariant (λ u. Cut c.args.w) refl refl (board-put c.self.invariant (worker-there c.self.invariant c.if-w-self.false c.index_mut.ensures.value) c.cut.new.kernel c.cut.new.board.board) (c.cut.ensures.step (g.M.Model.handlers c.self.inside.model.now)) c.cut.ensures.end refl

pub returns : goal.returns
returns g c =
    cell-step g.M.Model.handlers c.self.invariant (λ u. Cut c.args.w) refl refl (board-put c.self.invariant (worker-there c.self.invariant c.if-w-self.false c.index_mut.ensures.value) c.cut.new.kernel c.cut.new.board.board) (c.in_ok-cut.ensures.step (g.M.Model.handlers c.self.inside.model.now)) c.self.view_is
