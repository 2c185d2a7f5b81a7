use Rattle.std.proofs.Common.{rules, refl}
use Rattle.vt_key.specs.declared.fault.Fault.TheVariants.{NotLawful}
use Rattle.vt_steps.specs.declared.step.Step.TheVariants.{Accept}
use Rattle.vt_kernel.specs.inside.Guards.{IsDone}
use Rattle.vt_world.proofs.StepLemmas.{step-refused, step-left}
use Rattle.vt_world.proofs.Indices.{worker-there, put-back}
use Rattle.vt_world.proofs.LocalLemmas.{accept-why, does-quietly, inside-local, inside-kept, at-index}
use Rattle.vt_world.proofs.WorldSteps.{of-nobody}
use Rattle.vt_world.proofs.in_memory.InMemory.accept.Goals as goal

pub returns-then-w-self : goal.returns-then-w-self
returns-then-w-self g c = step-left g.M.Model.handlers c.self.view_is (Accept c.args.w c.args.i) NotLawful (of-nobody c.self.invariant c.if-w-self.true (Accept c.args.w c.args.i) refl tt)

pub invariant_of-self : goal.invariant_of-self
invariant_of-self g c =
    let at = worker-there c.self.invariant c.if-w-self.false c.index_mut.ensures.value in
    inside-kept c.self.invariant _ at c.in_err-accept.ensures.kept

pub returns-in_err-accept : goal.returns-in_err-accept
returns-in_err-accept g c =
    let H = g.M.Model.handlers c.self.inside.model.now in
    let at = worker-there c.self.invariant c.if-w-self.false c.index_mut.ensures.value in
    step-refused g.M.Model.handlers c.self.view_is _ (Accept c.args.w c.args.i) c.in_err-accept.field-0.0 _ (search rules) (put-back c.self.invariant _ at c.in_err-accept.ensures.kept refl)
    (accept-why c.self.invariant _ at c.args.i c.in_err-accept.field-0.0 (c.in_err-accept.ensures.refused H))

pub invariant_of-self-2 : goal.invariant_of-self-2
invariant_of-self-2 g c =
    let H = g.M.Model.handlers c.self.inside.model.now in
    let at = worker-there c.self.invariant c.if-w-self.false c.index_mut.ensures.value in
    inside-local c.self.invariant _ at (Accept c.args.w c.args.i) refl c.accept.new.self c.accept.ensures.same (at-index c.self.invariant _ at (λ v. Accept v c.args.i) (IsDone H c.accept.new.self) (c.in_ok-accept.ensures.done H))

pub returns : goal.returns
returns g c =
    let H = g.M.Model.handlers c.self.inside.model.now in
    let at = worker-there c.self.invariant c.if-w-self.false c.index_mut.ensures.value in
    does-quietly g.M.Model.handlers c.self.view_is c.self.invariant _ at (Accept c.args.w c.args.i) refl c.accept.new.self c.accept.ensures.same
    (at-index c.self.invariant _ at (λ v. Accept v c.args.i) (IsDone H c.accept.new.self) (c.in_ok-accept.ensures.done H)) (λ part rounds over. over)
