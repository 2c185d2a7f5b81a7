use Rattle.vt_places.proofs.WorkLemmas.{closed-at-work}
use Rattle.vt_station.proofs.driver.Driver.close.Goals as goal

pub invariant_of-self : goal.invariant_of-self
invariant_of-self g c = closed-at-work c.self.invariant c.close.result c.close.ensures.same.0 c.close.ensures.done
