use Rattle.vt_steps.specs.declared.step.Step.TheVariants.{Cancel}
use Rattle.vt_places.proofs.WorkLemmas.{lawful-at-work}
use Rattle.vt_places.proofs.worker.Worker.cancel.Goals as goal

pub invariant_of-self : goal.invariant_of-self
invariant_of-self g c = lawful-at-work c.self.invariant (Cancel c.args.lp c.args.stamp) c.cancel.result c.cancel.ensures.same (c.cancel.ensures.done (g.M.Model.handlers c.self.inside.model.now)) c.cancel.ensures.kept
