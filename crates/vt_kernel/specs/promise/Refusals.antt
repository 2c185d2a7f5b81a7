-- Why a step of a world is refused: as the definitions refuse it, or since a counter or memory is spent.
use Rattle.std.specs.Prelude.{◌≡◌, ℕ, ◌<◌, ◌⊎◌, ◌/◌, Ok, Err, slice_get}
use Rattle.std.specs.Option.{IsSomeAnd, option_and_then}
use Rattle.vt_key.specs.declared.limits.TheConstants.{MAX_COUNT}
use Rattle.vt_key.specs.declared.fault.Fault.{Fault}
use Rattle.vt_key.specs.declared.fault.Fault.TheVariants.{Memory, Exhausted}
use Rattle.vt_model.specs.promise.Simulation.{Simulation}
use Rattle.vt_steps.specs.declared.step.Step.{Step}
use Rattle.vt_steps.specs.declared.step.Step.TheVariants.{Execute, Send, Fetch, Accept, Cut, Commit}
use Rattle.vt_steps.specs.declared.step.Reply.{Reply}
use Rattle.vt_steps.specs.promise.Letters.{count_of}
use Rattle.vt_steps.specs.promise.World.{Part, World}
use Rattle.vt_steps.specs.promise.Next.{next}
use Rattle.vt_steps.specs.promise.Cells.{worker_of}
use Rattle.vt_lp.specs.promise.Guards.{number_of}

module _ {S P : Type 0} (sim : Simulation S P) where
  -- a counter that the step raises is past its limit in the part of its worker and the number of rounds, after it: the worker's
  -- serial, or the send number of the process that executed; how much mail of its colour the worker sent; how much of either
  -- colour it got; the number of rounds
  abbrev pub PassesIn : Step → Part P → ℕ → Type 0
  PassesIn (Execute p) part rounds = (MAX_COUNT < part.serial) ⊎ IsSomeAnd (slice_get part.processes (p / sim.workers)) (λ process. MAX_COUNT < number_of sim p process)
  PassesIn (Send w v) part rounds = MAX_COUNT < count_of part.sent part.colour
  PassesIn (Fetch w) part rounds = (MAX_COUNT < part.got.white) ⊎ (MAX_COUNT < part.got.red)
  PassesIn (Cut w) part rounds = MAX_COUNT < rounds
  PassesIn _ part rounds = ⊥

  -- it is so in the world after the step
  abbrev pub PassesLimit : Step → World P → Type 0
  PassesLimit step after = IsSomeAnd (option_and_then (slice_get after.parts) (worker_of sim step)) (λ part. PassesIn step part after.board.rounds)

  -- the step takes memory
  abbrev pub TakesMemory : Step → Type 0
  TakesMemory (Execute p) = Unit {0}
  TakesMemory (Accept w i) = Unit {0}
  TakesMemory (Send w v) = Unit {0}
  TakesMemory (Commit w) = Unit {0}
  TakesMemory _ = ⊥

  -- a lawful step can't be done: a counter would pass its limit; or none would, and memory was refused
  abbrev pub IsSpent : Step → World P → Fault → Type 0
  IsSpent step world fault =
      (reply : Reply) × ((next sim world step).answer ≡ Ok reply)
      × (((fault ≡ Exhausted) × PassesLimit step (next sim world step).world)
      ⊎ ((fault ≡ Memory) × TakesMemory step × (PassesLimit step (next sim world step).world → ⊥)))

  -- why a step of a world is refused: as the definitions refuse it; or it is lawful and can't be done
  abbrev pub IsStepRefusal : Step → World P → Fault → Type 0
  IsStepRefusal step world fault = ((next sim world step).answer ≡ Err fault) ⊎ IsSpent step world fault
