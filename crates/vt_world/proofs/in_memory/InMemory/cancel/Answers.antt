use Rattle.std.proofs.Common.{rules, sym}
use Rattle.vt_steps.specs.declared.step.Step.TheVariants.{Cancel}
use Rattle.vt_world.proofs.Indices.{worker-there}
use Rattle.vt_world.proofs.LocalLemmas.{does-quietly, refuses-locally, inside-local, inside-kept}
use Rattle.vt_world.proofs.in_memory.InMemory.cancel.Goals as goal

pub invariant_of-self : goal.invariant_of-self
invariant_of-self g c =
    let at = worker-there c.self.invariant c.owner-owner.ensures.known c.index_mut.ensures.value in
    inside-kept c.self.invariant _ at c.in_err-cancel.ensures.kept.1

pub returns-in_err-cancel : goal.returns-in_err-cancel
returns-in_err-cancel g c =
    let at = worker-there c.self.invariant c.owner-owner.ensures.known c.index_mut.ensures.value in
    let why = c.in_err-cancel.ensures in
    refuses-locally g.M.Model.handlers c.self.view_is c.self.invariant _ at (Cancel c.args.lp c.args.stamp) (sym c.owner-owner.ensures.value) c.cancel.new.self c.in_err-cancel.field-0.0 _ (search rules) why.kept (why.refused (g.M.Model.handlers c.self.inside.model.now))

pub invariant_of-self-2 : goal.invariant_of-self-2
invariant_of-self-2 g c =
    let at = worker-there c.self.invariant c.owner-owner.ensures.known c.index_mut.ensures.value in
    inside-local c.self.invariant _ at (Cancel c.args.lp c.args.stamp) (sym c.owner-owner.ensures.value) c.cancel.new.self c.cancel.ensures.same (c.in_ok-cancel.ensures.done (g.M.Model.handlers c.self.inside.model.now))

pub returns : goal.returns
returns g c =
    let at = worker-there c.self.invariant c.owner-owner.ensures.known c.index_mut.ensures.value in
    does-quietly g.M.Model.handlers c.self.view_is c.self.invariant _ at (Cancel c.args.lp c.args.stamp) (sym c.owner-owner.ensures.value) c.cancel.new.self c.cancel.ensures.same (c.in_ok-cancel.ensures.done (g.M.Model.handlers c.self.inside.model.now)) (λ part rounds over. over)
