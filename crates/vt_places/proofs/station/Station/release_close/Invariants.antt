use Rattle.std.proofs.Common.{◌≡◌, []}
use Rattle.vt_model.specs.promise.Simulation.{simulation_of}
use Rattle.vt_places.specs.inside.Calls.{Closes}
use Rattle.vt_places.proofs.station.Station.release_close.Given as goal

abbrev pub ghosts-store : goal.ghosts-store
ghosts-store g a =
    let key = a.self.now.table.shared.key in
    record { after = λ n m. (m.1 ≡ []) × Closes (simulation_of (g.M.Model.handlers key.model.value) key.config) a.seat.now.me.0 a._told.now m.0 }
