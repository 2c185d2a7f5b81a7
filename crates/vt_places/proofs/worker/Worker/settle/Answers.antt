use Rattle.vt_places.proofs.WorkLemmas.{settled-at-work}
use Rattle.vt_places.proofs.worker.Worker.settle.Goals as goal

pub invariant_of-self : goal.invariant_of-self
invariant_of-self g c = settled-at-work c.self.invariant c.settle.ensures.same c.args.lp c.settle.result c.settle.ensures.settles
