use Rattle.vt_steps.specs.declared.step.Step.TheVariants.{Undo}
use Rattle.vt_places.proofs.WorkLemmas.{lawful-at-work}
use Rattle.vt_places.proofs.worker.Worker.undo.Goals as goal

pub invariant_of-self : goal.invariant_of-self
invariant_of-self g c = lawful-at-work c.self.invariant (Undo c.args.lp) c.undo.result c.undo.ensures.same c.undo.ensures.done c.undo.ensures.kept
