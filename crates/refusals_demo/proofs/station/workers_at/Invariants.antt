use Rattle.std.proofs.Common.{◌≡◌, length, ◌+◌}
use Rattle.vt_model.specs.promise.Simulation.{simulation_of}
use Rattle.vt_places.specs.inside.Told.{station_table}
use Rattle.vt_places.specs.inside.Making.{AreNew}
use Rattle.refusals_demo.proofs.station.workers_at.Given as goal

abbrev pub invariant-loop-w : goal.invariant-loop-w
invariant-loop-w g l =
    record {
      left : length l.places.items + l.w ≡ l.fn.config.workers;
      new : AreNew (simulation_of (g.M.Model.handlers l.fn.model) l.fn.config) (station_table l.fn.station) l.w l.places.items;
    }
