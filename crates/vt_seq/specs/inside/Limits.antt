-- When a send number of the sequential run passes its limit, and why a step of it is refused.
use Rattle.std.specs.Prelude.{◌≡◌, ℕ, suc, ◌<◌, ◌≤◌, ◌⊎◌}
use Rattle.vt_key.specs.declared.fault.Fault.{Fault}
use Rattle.vt_key.specs.declared.fault.Fault.TheVariants.{Memory, Exhausted}
use Rattle.vt_key.specs.declared.limits.TheConstants.{MAX_COUNT}
use Rattle.vt_model.specs.promise.Simulation.{Simulation, after}
use Rattle.vt_model.specs.promise.Sequential.{events_of, whole_run}
use Rattle.vt_seq.specs.promise.Limits.{number_after, PassesNumberLimit}

-- a send number would pass its limit; or it would not, and memory was refused
abbrev pub IsRefusal : ℕ → Fault → Type 0
IsRefusal number fault = ((fault ≡ Exhausted) × (MAX_COUNT < number)) ⊎ ((fault ≡ Memory) × (number ≤ MAX_COUNT))

module _ {S P : Type 0} (sim : Simulation S P) where
  -- after n steps of the run every send number is within its limit
  abbrev pub IsCounted : ℕ → Type 0
  IsCounted n = (p : ℕ) → p < sim.lps → number_after sim n p ≤ MAX_COUNT

  -- why the step after n steps is refused: a send number would pass its limit; or none would, and memory was refused
  abbrev pub IsRunStepRefusal : ℕ → Fault → Type 0
  IsRunStepRefusal n fault = ((fault ≡ Exhausted) × PassesNumberLimit sim (suc n)) ⊎ ((fault ≡ Memory) × IsCounted (suc n))

  -- at the end of the whole run every send number is within its limit
  abbrev pub IsCountedWhole : Type 0
  IsCountedWhole = (p : ℕ) → p < sim.lps → (after sim p (events_of p (whole_run sim))).number ≤ MAX_COUNT
