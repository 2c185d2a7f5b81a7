use Rattle.vt_steps.specs.declared.step.Step.TheVariants.{Home}
use Rattle.vt_places.proofs.WorkLemmas.{lawful-at-work}
use Rattle.vt_places.proofs.worker.Worker.home.Goals as goal

pub invariant_of-self : goal.invariant_of-self
invariant_of-self g c = lawful-at-work c.self.invariant (Home c.self.inside.kernel.worker) c.home.result c.home.ensures.same (c.home.ensures.done (g.M.Model.handlers c.self.inside.model.now)) c.home.ensures.kept
