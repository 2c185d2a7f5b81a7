use Rattle.std.proofs.Common.{rules, sym}
use Rattle.vt_steps.specs.declared.step.Step.TheVariants.{Undo}
use Rattle.vt_world.proofs.Indices.{worker-there}
use Rattle.vt_world.proofs.LocalLemmas.{does-quietly, refuses-locally, inside-local, inside-kept}
use Rattle.vt_world.proofs.in_memory.InMemory.undo.Goals as goal

pub invariant_of-self : goal.invariant_of-self
invariant_of-self g c =
    let at = worker-there c.self.invariant c.owner-owner.ensures.known c.index_mut.ensures.value in
    inside-kept c.self.invariant _ at c.in_err-undo.ensures.kept.1

pub returns-in_err-undo : goal.returns-in_err-undo
returns-in_err-undo g c =
    let at = worker-there c.self.invariant c.owner-owner.ensures.known c.index_mut.ensures.value in
    let why = c.in_err-undo.ensures in
    refuses-locally g.M.Model.handlers c.self.view_is c.self.invariant _ at (Undo c.args.lp) (sym c.owner-owner.ensures.value) c.undo.new.self c.in_err-undo.field-0.0 _ (search rules) why.kept why.refused

pub invariant_of-self-2 : goal.invariant_of-self-2
invariant_of-self-2 g c =
    let at = worker-there c.self.invariant c.owner-owner.ensures.known c.index_mut.ensures.value in
    inside-local c.self.invariant _ at (Undo c.args.lp) (sym c.owner-owner.ensures.value) c.undo.new.self c.undo.ensures.same c.in_ok-undo.ensures.done

pub returns : goal.returns
returns g c =
    let at = worker-there c.self.invariant c.owner-owner.ensures.known c.index_mut.ensures.value in
    does-quietly g.M.Model.handlers c.self.view_is c.self.invariant _ at (Undo c.args.lp) (sym c.owner-owner.ensures.value) c.undo.new.self c.undo.ensures.same c.in_ok-undo.ensures.done (λ part rounds over. over)
