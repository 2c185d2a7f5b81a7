use Rattle.std.proofs.Common.{refl, subst, IfOk}
use Rattle.vt_key.specs.promise.Times.{Time, TimeAtMost}
use Rattle.vt_model.proofs.LawLemmas.{lawful_of}
use Rattle.vt_model.specs.promise.Settings.{end_of}
use Rattle.vt_model.specs.promise.Simulation.{simulation_of}
use Rattle.vt_steps.specs.promise.World.{least}
use Rattle.vt_world.specs.promise.Calls.{RunWorld}
use Rattle.vt_world.specs.promise.Answers.{IsReachedWorld, IsPastIn, EndsSequential}
use Rattle.vt_world.proofs.PastLemmas.{ok-both, past-sequential}
use Rattle.vt_world.proofs.world.World.past.Goals as goal

pub returns-clause-past : goal.returns-clause-past
returns-clause-past g c =
    subst (λ (v : RunWorld _ _). IfOk c.past.result (λ es. IsPastIn (simulation_of (g.M.Model.handlers v.model) v.config) v.world c.args.lp es.items)) c.self.view_is (c.past.ensures.past _ c.self.invariant)

pub returns-clause-reached : goal.returns-clause-reached
returns-clause-reached g c =
    subst (λ (v : RunWorld _ _). IsReachedWorld (simulation_of (g.M.Model.handlers v.model) v.config) v.world) c.self.view_is
    ∣ (c.self.inside.serial, c.self.inside.steps.items, refl) ∣₁

pub returns-clause-sequential : goal.returns-clause-sequential
returns-clause-sequential g c =
    let i = c.self.inside in
    let m = i.memory in
    let lawful = lawful_of (g.M.Model.handlers m.model) m.config (g.met.M.Model.start_within m.model) (g.met.M.Model.forward_within m.model) in
    subst (λ (v : RunWorld _ _). (t : Time) → TimeAtMost t (least (end_of v.config) v.world) → IfOk c.past.result (λ es. EndsSequential (simulation_of (g.M.Model.handlers v.model) v.config) c.args.lp t es.items)) c.self.view_is
    (λ t quiet. ok-both c.past.result (λ es is known. past-sequential (simulation_of (g.M.Model.handlers m.model) m.config) lawful i.serial i.steps.items c.args.lp es.items is known t quiet) (c.past.ensures.past _ c.self.invariant) c.past.ensures.known)
