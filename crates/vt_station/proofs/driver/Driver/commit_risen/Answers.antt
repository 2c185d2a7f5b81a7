use Rattle.std.proofs.Common.{arith, rules}
use Rattle.vt_places.proofs.WorkLemmas.{kernel-ready, called-at-work}
use Rattle.vt_station.proofs.driver.Driver.commit_risen.Goals as goal

pub commit-answer-requires-after_bounds : goal.commit-answer-requires-after_bounds
commit-answer-requires-after_bounds g c κs within = (omega arith, (search rules, kernel-ready c.self.invariant))

pub invariant_of-self : goal.invariant_of-self
invariant_of-self g c = called-at-work c.self.invariant c.commit-answer.ensures.same.0 c.commit-answer.ensures.ready
