-- The rows of a commit, process by process.
use Rattle.std.proofs.Common.{ℕ, List}
use Rattle.std.specs.List.{flat_map, enumerate_from}
use Rattle.vt_key.specs.promise.Times.{Time}
use Rattle.vt_model.specs.declared.rows.Row.{Row}
use Rattle.vt_model.specs.promise.Simulation.{Simulation}
use Rattle.vt_steps.specs.promise.PartSteps.{ripe_rows}
use Rattle.vt_steps.specs.promise.World.{LogicalProcess, process_at}

-- the rows that the processes of w commit, from the process of this index on
abbrev pub rows_of_processes : {S P : Type 0} → Simulation S P → ℕ → Time → ℕ → List (LogicalProcess P) → List Row
rows_of_processes sim w floor index processes =
    flat_map (λ indexed. ripe_rows sim (process_at sim w indexed.0) floor indexed.1) (enumerate_from index processes)
