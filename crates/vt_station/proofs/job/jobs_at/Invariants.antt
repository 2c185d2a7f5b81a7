use Rattle.std.proofs.Common.{◌≡◌, length, ◌+◌}
use Rattle.vt_model.specs.promise.Simulation.{simulation_of}
use Rattle.vt_places.specs.inside.Making.{AreNew}
use Rattle.vt_station.specs.inside.Crew.{AllAt, AreInOrder, AreUnbegun}
use Rattle.vt_station.proofs.job.jobs_at.Given as goal

abbrev pub invariant-loop-worker : goal.invariant-loop-worker
invariant-loop-worker g l =
    record {
      left : length l.places.items + l.worker ≡ l.fn.config.workers;
      made : length l.jobs.items ≡ l.worker;
      order : AreInOrder l.jobs.items;
      begins : AreUnbegun l.jobs.items;
      told : AllAt l.fn.model l.fn.config l.jobs.items;
      new : AreNew (simulation_of (g.M.Model.handlers l.fn.model) l.fn.config) l.fn.station.table.shared.table_id l.worker l.places.items;
    }
