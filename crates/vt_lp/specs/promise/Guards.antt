-- The send number of a process.
use Rattle.std.specs.Prelude.{ℕ, ◌++◌}
use Rattle.vt_model.specs.promise.Simulation.{Simulation}
use Rattle.vt_steps.specs.promise.World.{LogicalProcess, triple_after}

module _ {S P : Type 0} (sim : Simulation S P) (p : ℕ) where
  -- the send number of a process
  abbrev pub number_of : LogicalProcess P → ℕ
  number_of process = (triple_after sim p (process.done ++ process.past)).number
