use Rattle.std.proofs.Common.{arith, rules}
use Rattle.vt_places.proofs.WorkLemmas.{kernel-ready, read-at-work}
use Rattle.vt_station.proofs.driver.Driver.finals.Goals as goal

pub finals-requires-after_bounds : goal.finals-requires-after_bounds
finals-requires-after_bounds g c κs within = (omega arith, (search rules, (search rules, kernel-ready c.self.invariant)))

pub invariant_of-self : goal.invariant_of-self
invariant_of-self g c = read-at-work c.self.invariant c.finals.ensures.same.0 c.finals.ensures.unchanged
