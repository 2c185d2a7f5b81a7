use Rattle.std.proofs.Common.{◌≡◌, length, ◌+◌}
use Rattle.vt_model.specs.promise.Simulation.{simulation_of}
use Rattle.vt_places.specs.inside.Making.{IsMaker, AreNew}
use Rattle.vt_places.proofs.station.Station.seat_all.Given as goal

abbrev pub invariant-loop-worker : goal.invariant-loop-worker
invariant-loop-worker g l =
    let key = l.fn.self.table.shared.key in
    let sim = simulation_of (g.M.Model.handlers key.model.value) key.config in
    record {
      table : l.maker.table_id ≡ l.fn.self.table.shared.table_id;
      maker : IsMaker sim l.worker l.maker.me;
      count : length l.places.items + 1 ≡ l.worker;
      new : AreNew sim l.fn.self.table.shared.table_id 1 l.places.items;
    }
