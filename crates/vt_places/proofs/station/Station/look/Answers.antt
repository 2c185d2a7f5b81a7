use Rattle.vt_model.specs.promise.Simulation.{simulation_of}
use Rattle.vt_places.specs.inside.Slots.{word_at}
use Rattle.vt_places.proofs.Keeps.{reads}
use Rattle.vt_places.proofs.station.Station.look.Goals as goal

pub load-requires-clause-allowed : goal.load-requires-clause-allowed
load-requires-clause-allowed g c κs within lawful =
    let key = c.args.self.now.table.shared.key in
    reads (simulation_of (g.M.Model.handlers key.model.value) key.config) key.config c.args.self.now.table.shared.table_id.slots c.args.place.now.seat.id (word_at 0) c.args.place.now.seat.me
