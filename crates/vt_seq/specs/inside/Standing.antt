-- What a contract sees of an execution, which keeps no records.
use Rattle.std.specs.Prelude.{◌≡◌, ℕ, ◌<◌, List, Some, slice_get}
use Rattle.vt_key.specs.promise.Lists.{Among}
use Rattle.vt_model.specs.declared.sending.Sent.{Sent}
use Rattle.vt_model.specs.declared.settings.Config.{Config}
use Rattle.vt_model.specs.promise.Handler.{Handlers}
use Rattle.vt_model.specs.promise.Simulation.{Simulation, Triple, after, simulation_of}
use Rattle.vt_model.specs.promise.Sequential.{RunState, after_steps, events_of}

-- an execution on its way: its model and config, the events that are pending, in an order that does not matter, and where
-- each process stands
pub record Standing (M S P : Type 0) : Type 0 where
  pub model : M
  pub config : Config
  pub pending : List (Sent P)
  pub triples : List (Triple S)

module _ {M S P : Type 0} (sim : Simulation S P) where
  -- the execution has come to this state of the run: the same events are pending, and each process stands where its executed
  -- events lead
  pub record HasCome (x : RunState P) (now : Standing M S P) : Type 0 where
    pub sent : (e : Sent P) → Among e now.pending → Among e x.pending
    pub had : (e : Sent P) → Among e x.pending → Among e now.pending
    pub triples : (p : ℕ) → p < sim.lps → slice_get now.triples p ≡ Some (after sim p (events_of p x.executed))

  -- the execution has made n steps
  abbrev pub IsAt : ℕ → Standing M S P → Type 0
  IsAt n now = HasCome (after_steps sim n) now

-- the execution of its model and config has made some number of steps
abbrev pub IsOnWay : {M S P K : Type 0} → Handlers S P K → Standing M S P → Type 0
IsOnWay handlers now = ∥ ((n : ℕ) × IsAt (simulation_of handlers now.config) n now) ∥₁
