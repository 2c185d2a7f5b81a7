use Rattle.std.proofs.Common.{◌≡◌, length, map}
use Rattle.std.specs.List.{range_with_len}
use Rattle.vt_model.specs.promise.Simulation.{simulation_of}
use Rattle.vt_steps.specs.promise.World.{opening_part}
use Rattle.vt_steps.specs.inside.StandsFor.{StandForParts}
use Rattle.vt_kernel.specs.inside.Held.{part_memory}
use Rattle.vt_world.specs.inside.Held.{AreWorkers}
use Rattle.vt_world.proofs.making.open_workers.Given as goal

abbrev pub invariant-loop-w : goal.invariant-loop-w
invariant-loop-w g l = record {
  count : length l.kernels.items ≡ l.w;
  workers : AreWorkers l.config 0 l.kernels.items;
  opening : StandForParts (simulation_of (g.M.Model.handlers l.model) l.config) 0 (map (part_memory (g.M.Model.handlers l.model)) l.kernels.items)
      (map (opening_part (simulation_of (g.M.Model.handlers l.model) l.config) l.serial) (range_with_len 0 l.w));
}
