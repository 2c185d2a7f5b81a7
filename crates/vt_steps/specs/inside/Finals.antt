-- Final values: those of the sequential run by worker, and those that a part's processes have where they stand.
use Rattle.std.specs.Prelude.{ℕ, ◌+◌, List, [], ◌∷◌, ◌++◌, map}
use Rattle.std.specs.List.{range_with_len}
use Rattle.vt_model.specs.promise.Simulation.{Simulation, after}
use Rattle.vt_model.specs.promise.Sequential.{events_of, whole_run}
use Rattle.vt_steps.specs.promise.World.{LogicalProcess, Part, triple_after, process_count, process_at}

module _ {S P : Type 0} (sim : Simulation S P) where
  -- the final value of process p after the whole sequential run
  abbrev pub final_value : ℕ → ℕ
  final_value p = sim.finish p (after sim p (events_of p (whole_run sim))).state

  -- the final values of a worker's processes after the whole sequential run, in rising order of processes
  abbrev pub worker_finals : ℕ → List ℕ
  worker_finals w = map (λ index. final_value (process_at sim w index)) (range_with_len 0 (process_count sim w))

  -- what is made of the states of these processes of worker w, from this index on, where they stand
  abbrev pub values_of_processes : ℕ → ℕ → List (LogicalProcess P) → List ℕ
  values_of_processes w index [] = []
  values_of_processes w index (process ∷ processes) =
      sim.finish (process_at sim w index) (triple_after sim (process_at sim w index) (process.done ++ process.past)).state ∷ values_of_processes w (index + 1) processes

  -- what is made of the states of a part's processes, in rising order of processes
  abbrev pub part_values : ℕ → Part P → List ℕ
  part_values w part = values_of_processes w 0 part.processes
