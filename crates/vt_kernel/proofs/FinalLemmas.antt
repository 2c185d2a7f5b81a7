-- What is made of the states of a worker's processes: the same in memory as in the part that it stands for.
use Rattle.std.proofs.Common.{◌≡◌, ℕ, ◌+◌, List, [], ◌∷◌, map, refl, sym}
use Rattle.vt_model.specs.declared.settings.Config.{Config}
use Rattle.vt_model.specs.promise.Handler.{Handlers}
use Rattle.vt_model.specs.promise.Simulation.{simulation_of}
use Rattle.vt_steps.specs.inside.Finals.{values_of_processes}
use Rattle.vt_steps.specs.inside.StandsFor.{StandForProcesses}
use Rattle.vt_steps.specs.promise.World.{LogicalProcess, process_at}
use Rattle.vt_steps.proofs.steps.MemoryLemmas.{is_where}
use Rattle.vt_lp.specs.inside.Held.{HeldProcess, process_memory}
use Rattle.vt_kernel.specs.inside.Held.{held_values, AreProcesses}

module _ {S P K : Type 0} (handlers : Handlers S P K) (config : Config) (w : ℕ) where
  pub values-stood : (index : ℕ) (held : List (HeldProcess S P K)) (processes : List (LogicalProcess P)) → AreProcesses config w index held
      → StandForProcesses (simulation_of handlers config) w index (map (process_memory handlers) held) processes → held_values handlers held ≡ values_of_processes (simulation_of handlers config) w index processes
  values-stood index [] [] are stand = refl
  values-stood index [] (p ∷ ps) are stand = absurd stand
  values-stood index (q ∷ qs) [] are stand = absurd stand
  values-stood index (q ∷ qs) (p ∷ ps) are stand =
      let sim = simulation_of handlers config in
      let triple = sym (is_where sim (process_at sim w index) (process_memory handlers q) p stand.0) in
      let rest = values-stood (index + 1) qs ps are.2 stand.1 in
      λ j. handlers.finish (are.0 j) (triple j).state ∷ rest j
