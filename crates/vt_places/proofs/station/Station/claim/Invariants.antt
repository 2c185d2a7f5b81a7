use Rattle.vt_model.specs.promise.Simulation.{simulation_of}
use Rattle.vt_places.proofs.Keeps.{Claimed}
use Rattle.vt_places.proofs.station.Station.claim.Given as goal

abbrev pub ghosts-swap : goal.ghosts-swap
ghosts-swap g a =
    let key = a.self.now.table.shared.key in
    record { after = λ n m. Claimed (simulation_of (g.M.Model.handlers key.model.value) key.config) key.config a.seat.now.me a.cell n m }
