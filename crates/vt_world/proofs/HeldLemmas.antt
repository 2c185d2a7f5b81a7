-- The letters of a world in memory.
use Rattle.std.proofs.Common.{◌≡◌, ℕ, ◌+◌, List, [], ◌∷◌, ◌++◌, map, refl, ◌∙◌, ap}
use Rattle.std.specs.List.{flat_map}
use Rattle.vt_key.specs.declared.letter.Mail.{Mail}
use Rattle.vt_model.specs.promise.Handler.{Handlers}
use Rattle.vt_model.specs.promise.Simulation.{Simulation, simulation_of}
use Rattle.vt_model.specs.promise.Settings.{end_of}
use Rattle.vt_steps.specs.promise.Letters.{least_time}
use Rattle.vt_steps.specs.promise.World.{LogicalProcess, Part, World, letters_in, least}
use Rattle.vt_steps.specs.inside.StandsFor.{StandForProcesses, StandForParts}
use Rattle.vt_lp.specs.inside.Held.{HeldProcess, process_memory}
use Rattle.vt_kernel.specs.inside.Held.{HeldWorker, part_memory}
use Rattle.vt_kernel.specs.inside.Guards.{held_letters}
use Rattle.vt_world.specs.inside.Held.{HeldWorld, StandsForWorld, least_held}

module _ {S P K : Type 0} (handlers : Handlers S P K) (sim : Simulation S P) where
  -- the letters at processes are those at the processes that they stand for
  process-letters : (w index : ℕ) (held : List (HeldProcess S P K)) (processes : List (LogicalProcess P)) → StandForProcesses sim w index (map (process_memory handlers) held) processes
      → flat_map (λ (process : LogicalProcess P). process.pending ++ process.waiting) processes ≡ flat_map (λ (process : HeldProcess S P K). process.pending ++ process.waiting) held
  process-letters w index [] [] h = refl
  process-letters w index [] (q ∷ qs) h = absurd h
  process-letters w index (x ∷ xs) [] h = absurd h
  process-letters w index (x ∷ xs) (q ∷ qs) h =
      ap (λ ls. (ls ++ q.waiting) ++ flat_map (λ (process : LogicalProcess P). process.pending ++ process.waiting) qs) h.0.pending
      ∙ ap (λ ls. (x.pending ++ ls) ++ flat_map (λ (process : LogicalProcess P). process.pending ++ process.waiting) qs) h.0.waiting
      ∙ ap (λ ls. (x.pending ++ x.waiting) ++ ls) (process-letters w (index + 1) xs qs h.1)

  -- the letters of workers are those of the parts that they stand for
  part-letters : (w : ℕ) (held : List (HeldWorker S P K)) (parts : List (Part P)) → StandForParts sim w (map (part_memory handlers) held) parts
      → flat_map letters_in parts ≡ flat_map held_letters held
  part-letters w [] [] h = refl
  part-letters w [] (q ∷ qs) h = absurd h
  part-letters w (x ∷ xs) [] h = absurd h
  part-letters w (x ∷ xs) (q ∷ qs) h =
      let at_processes = flat_map (λ (process : LogicalProcess P). process.pending ++ process.waiting) q.processes in
      ap (λ ls. (ls ++ map (λ (mail : Mail P). mail.letter) q.arrived ++ at_processes) ++ flat_map letters_in qs) h.0.outbox
      ∙ ap (λ ms. (x.outbox ++ map (λ (mail : Mail P). mail.letter) ms ++ at_processes) ++ flat_map letters_in qs) h.0.arrived
      ∙ ap (λ ls. (x.outbox ++ map (λ (mail : Mail P). mail.letter) x.arrived ++ ls) ++ flat_map letters_in qs) (process-letters w 0 x.processes q.processes h.0.processes)
      ∙ ap (λ ls. held_letters x ++ ls) (part-letters (w + 1) xs qs h.1)

module _ {M S P K : Type 0} (handlers : Handlers S P K) (held : HeldWorld M S P K) where
  -- the least time is that of each world that it stands for
  pub least-same : (world : World P) → StandsForWorld handlers held world → least (end_of held.config) world ≡ least_held held
  least-same world h =
      ap (λ ls. least_time (end_of held.config) (ls ++ map (λ (mail : Mail P). mail.letter) (flat_map (λ inbox. inbox) world.inboxes))) (part-letters handlers (simulation_of handlers held.config) 0 held.workers world.parts h.parts)
      ∙ ap (λ is. least_time (end_of held.config) (flat_map held_letters held.workers ++ map (λ (mail : Mail P). mail.letter) (flat_map (λ inbox. inbox) is))) h.inboxes
