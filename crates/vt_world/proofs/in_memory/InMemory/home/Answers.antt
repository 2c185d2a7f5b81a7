use Rattle.std.proofs.Common.{rules, refl, ◌≡◌, None}
use Rattle.vt_key.specs.declared.fault.Fault.TheVariants.{NotLawful}
use Rattle.vt_steps.specs.declared.step.Step.TheVariants.{Home}
use Rattle.vt_kernel.specs.inside.Guards.{IsDone}
use Rattle.vt_world.proofs.StepLemmas.{step-left}
use Rattle.vt_world.proofs.Indices.{worker-there}
use Rattle.vt_world.proofs.LocalLemmas.{does-quietly, refuses-locally, inside-local, inside-kept, at-index}
use Rattle.vt_world.proofs.WorldSteps.{of-nobody}
use Rattle.vt_world.proofs.in_memory.InMemory.home.Goals as goal

pub returns-then-w-self : goal.returns-then-w-self
returns-then-w-self g c = step-left g.M.Model.handlers c.self.view_is (Home c.args.w) NotLawful (of-nobody c.self.invariant c.if-w-self.true (Home c.args.w) refl tt)

pub invariant_of-self : goal.invariant_of-self
invariant_of-self g c =
    let at = worker-there c.self.invariant c.if-w-self.false c.index_mut.ensures.value in
    inside-kept c.self.invariant _ at c.in_err-home.ensures.kept.1

pub returns-in_err-home : goal.returns-in_err-home
returns-in_err-home g c =
    let H = g.M.Model.handlers c.self.inside.model.now in
    let at = worker-there c.self.invariant c.if-w-self.false c.index_mut.ensures.value in
    let why = c.in_err-home.ensures in
    refuses-locally g.M.Model.handlers c.self.view_is c.self.invariant _ at (Home c.args.w) refl c.home.new.self c.in_err-home.field-0.0 _ (search rules) why.kept
    (at-index c.self.invariant _ at Home (λ after. after ≡ None) (why.refused H))

pub invariant_of-self-2 : goal.invariant_of-self-2
invariant_of-self-2 g c =
    let H = g.M.Model.handlers c.self.inside.model.now in
    let at = worker-there c.self.invariant c.if-w-self.false c.index_mut.ensures.value in
    inside-local c.self.invariant _ at (Home c.args.w) refl c.home.new.self c.home.ensures.same (at-index c.self.invariant _ at Home (IsDone H c.home.new.self) (c.in_ok-home.ensures.done H))

pub returns : goal.returns
returns g c =
    let H = g.M.Model.handlers c.self.inside.model.now in
    let at = worker-there c.self.invariant c.if-w-self.false c.index_mut.ensures.value in
    does-quietly g.M.Model.handlers c.self.view_is c.self.invariant _ at (Home c.args.w) refl c.home.new.self c.home.ensures.same
    (at-index c.self.invariant _ at Home (IsDone H c.home.new.self) (c.in_ok-home.ensures.done H)) (λ part rounds over. over)
