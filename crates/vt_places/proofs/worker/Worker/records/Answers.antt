use Rattle.vt_model.specs.promise.Simulation.{simulation_of}
use Rattle.vt_places.specs.inside.Calls.{AreRecordsShown}
use Rattle.vt_places.proofs.ReachLemmas.{reaches-shown}
use Rattle.vt_places.proofs.WorkLemmas.{stays-at-work}
use Rattle.vt_places.proofs.worker.Worker.records.Goals as goal

pub invariant_of-self : goal.invariant_of-self
invariant_of-self g c =
    let i = c.self.inside in
    let after = c.records in
    stays-at-work c.self.invariant after.ensures.same.0
    (reaches-shown (g.M.Model.handlers i.model.now) i.station.now.table.shared.key.config i.place.seat.me.0 after.new.place.seat.me.0 i.kernel c.self.invariant.reaches (λ floor v. AreRecordsShown (simulation_of (g.M.Model.handlers i.station.now.table.shared.key.model.value) i.station.now.table.shared.key.config) i.place.seat.me.0 floor v.items) after.result after.ensures.done)
