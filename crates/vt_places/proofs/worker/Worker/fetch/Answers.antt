use Rattle.std.proofs.Common.{arith, rules}
use Rattle.vt_places.proofs.WorkLemmas.{kernel-ready, called-at-work}
use Rattle.vt_places.proofs.worker.Worker.fetch.Goals as goal

pub invariant_of-self : goal.invariant_of-self
invariant_of-self g c = called-at-work c.self.invariant c.fetch.ensures.same.0 c.fetch.ensures.ready

pub fetch-requires-after_bounds : goal.fetch-requires-after_bounds
fetch-requires-after_bounds g c κs within = (omega arith, (search rules, kernel-ready c.self.invariant))
