use Rattle.std.proofs.Common.{rules, ◌≡◌, sym, refl}
use Rattle.std.proofs.Math.Logic.{∥∥₁_elim}
use Rattle.std.proofs.Props.{props}
use base.Stored.{Coded-set}
use Rattle.vt_steps.specs.declared.step.Step.TheVariants.{Execute}
use Rattle.vt_world.proofs.StepLemmas.{step-refused}
use Rattle.vt_world.proofs.Indices.{worker-there, put-back}
use Rattle.vt_world.proofs.LocalLemmas.{execute-why, does-locally, inside-local, inside-kept, some-part}
use Rattle.vt_world.proofs.LimitLemmas.{execute-within}
use Rattle.vt_world.proofs.in_memory.InMemory.execute.Goals as goal

pub invariant_of-self : goal.invariant_of-self
invariant_of-self g c =
    let at = worker-there c.self.invariant c.owner-owner.ensures.known c.index_mut.ensures.value in
    let kept : c.execute.new.self ≡ c.index_mut.result.now =
    ∥∥₁_elim (some-part c.self.invariant _ at) (Prim.hlevel (props, Coded-set g.row.M-State.coded, Coded-set g.row.M-Payload.coded, Coded-set g.row.M-Kept.coded)) (λ f. c.in_err-execute.ensures.unchanged f.0 f.1) in
    inside-kept c.self.invariant _ at kept

pub returns-in_err-execute : goal.returns-in_err-execute
returns-in_err-execute g c =
    let at = worker-there c.self.invariant c.owner-owner.ensures.known c.index_mut.ensures.value in
    let kept : c.execute.new.self ≡ c.index_mut.result.now =
    ∥∥₁_elim (some-part c.self.invariant _ at) (Prim.hlevel (props, Coded-set g.row.M-State.coded, Coded-set g.row.M-Payload.coded, Coded-set g.row.M-Kept.coded)) (λ f. c.in_err-execute.ensures.unchanged f.0 f.1) in
    step-refused g.M.Model.handlers c.self.view_is _ (Execute c.args.lp) c.in_err-execute.field-0.0 _ (search rules) (put-back c.self.invariant _ at kept refl)
    (execute-why c.self.invariant _ at c.args.lp (sym c.owner-owner.ensures.value) c.in_err-execute.field-0.0 c.in_err-execute.ensures.refused)

pub invariant_of-self-2 : goal.invariant_of-self-2
invariant_of-self-2 g c =
    let at = worker-there c.self.invariant c.owner-owner.ensures.known c.index_mut.ensures.value in
    inside-local c.self.invariant _ at (Execute c.args.lp) (sym c.owner-owner.ensures.value) c.execute.new.self c.execute.ensures.same c.in_ok-execute.ensures.done

pub returns : goal.returns
returns g c =
    let new = c.execute.new.self in
    let same = c.execute.ensures.same in
    let own = sym c.owner-owner.ensures.value in
    let at = worker-there c.self.invariant c.owner-owner.ensures.known c.index_mut.ensures.value in
    does-locally g.M.Model.handlers c.self.view_is c.self.invariant _ at (Execute c.args.lp) own new same c.in_ok-execute.ensures.done
    (execute-within c.self.invariant _ at new same c.self.inside.inboxes.items c.args.lp own c.in_ok-execute.ensures.counted)
