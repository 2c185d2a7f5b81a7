-- When a send number of the sequential run passes its limit, and why a step of it is refused.
use Rattle.std.specs.Prelude.{ℕ, ◌<◌}
use Rattle.vt_key.specs.declared.limits.TheConstants.{MAX_COUNT}
use Rattle.vt_model.specs.promise.Simulation.{Simulation, after}
use Rattle.vt_model.specs.promise.Sequential.{after_steps, events_of}

module _ {S P : Type 0} (sim : Simulation S P) where
  -- the send number of process p after n steps of the run
  abbrev pub number_after : ℕ → ℕ → ℕ
  number_after n p = (after sim p (events_of p (after_steps sim n).executed)).number

  -- after n steps of the run some send number is past its limit
  abbrev pub PassesNumberLimit : ℕ → Type 0
  PassesNumberLimit n = (p : ℕ) × (p < sim.lps) × (MAX_COUNT < number_after n p)
