-- What the calls answer that make a world and that read it.
use Rattle.std.specs.Prelude.{◌≡◌, ℕ, ◌+◌, ◌<◌, ◌⊎◌, List, ◌++◌, map, length}
use Rattle.vt_key.specs.promise.Times.{Time}
use Rattle.vt_key.specs.declared.limits.TheConstants.{MAX_COUNT}
use Rattle.vt_key.specs.declared.letter.Event.{Event}
use Rattle.vt_key.specs.declared.fault.Fault.{Fault}
use Rattle.vt_key.specs.declared.fault.Fault.TheVariants.{Memory, Exhausted}
use Rattle.vt_model.specs.declared.sending.Sent.{Sent}
use Rattle.vt_model.specs.promise.Sequential.{events_before, seq_events}
use Rattle.vt_model.specs.promise.Simulation.{Simulation}
use Rattle.vt_steps.specs.promise.Letters.{unstamped}
use Rattle.vt_steps.specs.promise.World.{Entry, LogicalProcess, World, start_sends}
use Rattle.vt_steps.specs.declared.step.Step.{Step}
use Rattle.vt_steps.specs.promise.Next.{reached}
use Rattle.vt_steps.specs.promise.Claims.{IsProcess}

module _ {S P : Type 0} (sim : Simulation S P) where
  -- with what the starts of some worker send, its serial would pass its limit
  abbrev pub PassesAtStart : ℕ → Type 0
  PassesAtStart serial = (w : ℕ) × (w < sim.workers) × (MAX_COUNT < serial + length (start_sends sim w))

  -- why no opening world is made: a serial would pass its limit; or none would, and memory was refused
  abbrev pub IsOpeningRefusal : ℕ → Fault → Type 0
  IsOpeningRefusal serial fault = ((fault ≡ Exhausted) × PassesAtStart serial) ⊎ ((fault ≡ Memory) × (PassesAtStart serial → ⊥))

  -- the world is one that some list of steps makes of an opening world
  abbrev pub IsReachedWorld : World P → Type 0
  IsReachedWorld world = ∥ ((serial : ℕ) × (steps : List Step) × (world ≡ reached sim serial steps)) ∥₁

  -- these are the events of the past entries of process p of a world, in order
  abbrev pub IsPastIn : World P → ℕ → List (Event P) → Type 0
  IsPastIn world p events =
      (process : LogicalProcess P) × IsProcess sim world p process × (map (λ (entry : Entry P). entry.event) process.past ≡ events)

  -- of these events, those before a time are the last ones that process p executes before that time in the sequential run,
  -- stamps aside
  abbrev pub EndsSequential : ℕ → Time → List (Event P) → Type 0
  EndsSequential p t events = ∥ ((first : List (Sent P)) × (seq_events sim p t ≡ first ++ events_before t (map unstamped events))) ∥₁
