use Rattle.std.proofs.Common.{IfOk, IfErr, subst}
use Rattle.vt_model.specs.promise.Simulation.{simulation_of}
use Rattle.vt_steps.specs.declared.step.Step.TheVariants.{Accept}
use Rattle.vt_steps.specs.promise.World.{Part}
use Rattle.vt_steps.specs.inside.Cells.{local_step}
use Rattle.vt_kernel.specs.inside.Held.{StandsFor}
use Rattle.vt_kernel.specs.inside.Guards.{IsDone, IsAcceptRefusal}
use Rattle.vt_places.specs.inside.AtWork.{AtWork}
use Rattle.vt_places.proofs.WorkLemmas.{stepped-at-work}
use Rattle.vt_places.proofs.worker.Worker.accept.Goals as goal

pub invariant_of-self : goal.invariant_of-self
invariant_of-self g c = stepped-at-work c.self.invariant (Accept c.self.inside.kernel.worker c.args.i) c.accept.result c.accept.ensures.same (c.accept.ensures.done (g.M.Model.handlers c.self.inside.model.now)) (λ _ _. c.accept.ensures.kept)

pub returns-clause-done : goal.returns-clause-done
returns-clause-done g c =
    subst (λ (v : AtWork _ _ _ _). (part : Part _) → StandsFor (g.M.Model.handlers v.model) v.kernel part → IfOk c.accept.result (λ _. IsDone (g.M.Model.handlers v.model) c.accept.new.self
    (local_step (simulation_of (g.M.Model.handlers v.model) v.kernel.config) v.kernel.worker (Accept v.kernel.worker c.args.i) part))) c.self.view_is
    (c.accept.ensures.done (g.M.Model.handlers c.self.inside.model.now))

pub returns-clause-refused : goal.returns-clause-refused
returns-clause-refused g c =
    subst (λ (v : AtWork _ _ _ _). (part : Part _) → StandsFor (g.M.Model.handlers v.model) v.kernel part → IfErr c.accept.result (λ fault. IsAcceptRefusal
    (local_step (simulation_of (g.M.Model.handlers v.model) v.kernel.config) v.kernel.worker (Accept v.kernel.worker c.args.i) part) fault)) c.self.view_is
    (c.accept.ensures.refused (g.M.Model.handlers c.self.inside.model.now))
