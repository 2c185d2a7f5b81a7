use Rattle.std.proofs.Common.{◌≡◌, take}
use Rattle.vt_model.specs.promise.Handler.{Handlers}
use Rattle.vt_model.specs.promise.Simulation.{simulation_of}
use Rattle.vt_steps.specs.promise.World.{Part}
use Rattle.vt_steps.proofs.steps.CommitRows.{rows_of_processes}
use Rattle.vt_kernel.specs.inside.Held.{StandsFor}
use Rattle.vt_kernel.proofs.kernel.Kernel.rows.Given as goal

abbrev pub invariant-loop-process : goal.invariant-loop-process
invariant-loop-process g l =
    (handlers : Handlers _ _ _) (part : Part _) → StandsFor handlers l.fn.self part
    → l.rows.items ≡ rows_of_processes (simulation_of handlers l.fn.self.config) l.fn.self.worker l.fn.self.floor 0 (take l.process-index part.processes)
