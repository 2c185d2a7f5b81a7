use Rattle.vt_places.proofs.WorkLemmas.{led-at-work}
use Rattle.vt_station.proofs.driver.Driver.accept_all.Goals as goal

pub invariant_of-self : goal.invariant_of-self
invariant_of-self g c = led-at-work c.self.invariant c.accept_all-answer.ensures.leads
