use Rattle.std.proofs.Common.{arith, rules}
use Rattle.vt_places.proofs.WorkLemmas.{kernel-ready, called-at-work}
use Rattle.vt_places.proofs.worker.Worker.post.Goals as goal

pub invariant_of-self : goal.invariant_of-self
invariant_of-self g c = called-at-work c.self.invariant c.post.ensures.same.0 c.post.ensures.ready

pub post-requires-after_bounds : goal.post-requires-after_bounds
post-requires-after_bounds g c κs within = (omega arith, (search rules, kernel-ready c.self.invariant))
