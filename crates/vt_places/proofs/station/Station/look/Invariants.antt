use Rattle.vt_model.specs.promise.Simulation.{simulation_of}
use Rattle.vt_places.proofs.Keeps.{Read}
use Rattle.vt_places.proofs.station.Station.look.Given as goal

abbrev pub ghosts-load : goal.ghosts-load
ghosts-load g a =
    let key = a.self.now.table.shared.key in
    record { after = λ n m. Read (simulation_of (g.M.Model.handlers key.model.value) key.config) key.config a.seat.now.me m }
