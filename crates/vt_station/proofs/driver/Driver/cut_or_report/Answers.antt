use Rattle.std.proofs.Common.{arith, rules}
use Rattle.vt_places.proofs.WorkLemmas.{kernel-ready, called-at-work}
use Rattle.vt_station.proofs.driver.Driver.cut_or_report.Goals as goal

pub cut-requires-after_bounds : goal.cut-requires-after_bounds
cut-requires-after_bounds g c κs within = (omega arith, (search rules, kernel-ready c.self.invariant))

pub invariant_of-self : goal.invariant_of-self
invariant_of-self g c = called-at-work c.self.invariant c.cut.ensures.same.0 c.cut.ensures.ready
