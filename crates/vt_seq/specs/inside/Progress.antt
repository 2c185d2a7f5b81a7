-- What a contract sees of the sequential simulator: an execution with the records that were kept of it.
use Rattle.std.specs.Prelude.{◌≡◌, ℕ, List}
use Rattle.vt_model.specs.declared.rows.Record.{Record}
use Rattle.vt_model.specs.declared.sending.Sent.{Sent}
use Rattle.vt_model.specs.declared.settings.Config.{Config}
use Rattle.vt_model.specs.promise.Handler.{Handlers}
use Rattle.vt_model.specs.promise.Simulation.{Simulation, Triple, simulation_of}
use Rattle.vt_seq.specs.inside.Given.{records_to}
use Rattle.vt_seq.specs.inside.Standing.{Standing, IsAt}

-- a run on its way: its model and config, the events that are pending, in an order that does not matter, where each
-- process stands, and the records so far
pub record Progress (M S P : Type 0) : Type 0 where
  pub model : M
  pub config : Config
  pub pending : List (Sent P)
  pub triples : List (Triple S)
  pub records : List Record

-- the execution, without its records
abbrev pub execution_of : {M S P : Type 0} → Progress M S P → Standing M S P
execution_of now = record { model = now.model; config = now.config; pending = now.pending; triples = now.triples }

-- an execution with the records that were kept of it
abbrev pub with_records : {M S P : Type 0} → Standing M S P → List Record → Progress M S P
with_records now records = record { model = now.model; config = now.config; pending = now.pending; triples = now.triples; records = records }

-- the run has made n steps: its execution has, and the records are theirs
pub record IsAfter {M S P : Type 0} (sim : Simulation S P) (n : ℕ) (now : Progress M S P) : Type 0 where
  pub at : IsAt sim n (execution_of now)
  pub records : now.records ≡ records_to sim n

-- the run of its model and config has made some number of steps
abbrev pub IsAfterSomeSteps : {M S P K : Type 0} → Handlers S P K → Progress M S P → Type 0
IsAfterSomeSteps handlers now = ∥ ((n : ℕ) × IsAfter (simulation_of handlers now.config) n now) ∥₁
