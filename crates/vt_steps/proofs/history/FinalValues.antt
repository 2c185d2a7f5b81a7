-- Once a worker's floor is the end of the run, the final values of each worker's processes are those of the sequential run.
use Rattle.std.proofs.Common.{◌≡◌, ℕ, suc, ◌+◌, List, [], ◌∷◌, ◌++◌, length, map, refl, ◌∙◌, ap, subst, arith, Some, slice_get}
use Rattle.std.specs.List.{range_with_len}
use Rattle.vt_key.specs.promise.Times.{TimeAtMost}
use Rattle.vt_model.specs.promise.Histories.{IsLawful}
use Rattle.vt_model.specs.promise.Sequential.{events_of, whole_run}
use Rattle.vt_model.specs.promise.Simulation.{Simulation, after}
use Rattle.vt_steps.specs.declared.step.Step.{Step}
use Rattle.vt_steps.specs.inside.Finals.{final_value, worker_finals, values_of_processes, part_values}
use Rattle.vt_steps.specs.promise.Next.{reached}
use Rattle.vt_steps.specs.promise.World.{LogicalProcess, Part, least, process_at, triple_after}
use Rattle.vt_steps.proofs.letters.Entries.{process-at_index}
use Rattle.vt_steps.proofs.book.ReachedBooks.{reached-accounted, quiet-triple}
use Rattle.vt_steps.proofs.book.Records.{floors-right}
use Rattle.vt_steps.proofs.steps.Shape.{reached-shape, part-within, process-known}

module _ {S P : Type 0} (sim : Simulation S P) (lawful : IsLawful sim) where
  module _ (serial : ℕ) (steps : List Step) where
    -- where a worker's floor is the end, nothing is unprocessed or travelling
    pub quiet-at_end : (w : ℕ) (part : Part P) → slice_get (reached sim serial steps).parts w ≡ Some part → TimeAtMost sim.end part.floor → TimeAtMost sim.end (least sim.end (reached sim serial steps))
    quiet-at_end w part at end =
        let known = reached-accounted sim lawful serial steps in
        let a = known.times.floors.announced w part at in
        let b = (floors-right sim lawful (reached sim serial steps) known).announced in
        omega arith

    -- then the processes of a worker have their final values
    module _ (quiet : TimeAtMost sim.end (least sim.end (reached sim serial steps))) (w : ℕ) (part : Part P) (at : slice_get (reached sim serial steps).parts w ≡ Some part) where
      -- one of them
      final-triple : (index : ℕ) (process : LogicalProcess P) → slice_get part.processes index ≡ Some process →
          triple_after sim (process_at sim w index) (process.done ++ process.past) ≡ after sim (process_at sim w index) (events_of (process_at sim w index) (whole_run sim))
      final-triple index process there =
          let world = reached sim serial steps in
          let shape = reached-shape sim serial steps in
          let less = process-known sim world shape w index part process at there in
          quiet-triple sim lawful serial steps quiet (process_at sim w index) process less (process-at_index sim world w index part process (part-within sim world shape w part at) at there)

      -- those from an index on
      final-values : (index : ℕ) (processes : List (LogicalProcess P)) → ((i : ℕ) (process : LogicalProcess P) → slice_get processes i ≡ Some process → slice_get part.processes (index + i) ≡ Some process) →
          values_of_processes sim w index processes ≡ map (λ k. final_value sim (process_at sim w k)) (range_with_len index (length processes))
      final-values index [] inside = refl
      final-values index (process ∷ processes) inside =
          let plain : index + 0 ≡ index = omega arith in
          let here = final-triple index process (subst (λ i. slice_get part.processes i ≡ Some process) plain (inside 0 process refl)) in
          let rest = final-values (index + 1) processes
          (λ i q there. (let next : index + suc i ≡ (index + 1) + i = omega arith in subst (λ k. slice_get part.processes k ≡ Some q) next (inside (suc i) q there))) in
          λ j. sim.finish (process_at sim w index) (here j).state ∷ rest j

      -- all
      pub quiet-values : part_values sim w part ≡ worker_finals sim w
      quiet-values =
          final-values 0 part.processes (λ i process there. (let plain : i ≡ 0 + i = omega arith in subst (λ k. slice_get part.processes k ≡ Some process) plain there))
          ∙ ap (λ n. map (λ k. final_value sim (process_at sim w k)) (range_with_len 0 n)) ((reached-shape sim serial steps).processes w part at)
