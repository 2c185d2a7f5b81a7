-- What a step of an execution does.
use Rattle.std.specs.Prelude.{◌≡◌, ℕ, suc, ◌<◌, ◌↔◌, ◌⊎◌, Bool, false, IsTrue, List, [], length, Result, IfOk, IfErr}
use Rattle.vt_key.specs.declared.fault.Fault.{Fault}
use Rattle.vt_key.specs.declared.fault.Fault.TheVariants.{Memory, Exhausted}
use Rattle.vt_model.specs.declared.rows.Record.{Record}
use Rattle.vt_model.specs.promise.Handler.{Handlers}
use Rattle.vt_model.specs.promise.Simulation.{Simulation, simulation_of}
use Rattle.vt_model.specs.promise.Sequential.{seq_records, weight}
use Rattle.vt_seq.specs.inside.Given.{records_to, AddsStep}
use Rattle.vt_seq.specs.inside.Limits.{IsCounted, IsRunStepRefusal}
use Rattle.vt_seq.specs.inside.Standing.{Standing, IsAt, IsOnWay}

-- the run that an execution makes
abbrev pub run_of : {M S P K : Type 0} → (M → Handlers S P K) → Standing M S P → Simulation S P
run_of handlers now = simulation_of (handlers now.model) now.config

-- a step of an execution that stood so and then stands so, with these records before it and after it, is answered so: it was made,
-- or none was pending, or it was refused and changed nothing
pub record IsStep {M S P K : Type 0} (handlers : M → Handlers S P K) (old new : Standing M S P) (records new_records : List Record) (result : Result Bool Fault) : Type 0 where
  pub model : new.model ≡ old.model
  pub config : new.config ≡ old.config
  pub reached : IsOnWay (handlers old.model) old
  pub more : IfOk result (λ more. IsTrue more ↔ (0 < length old.pending))
  pub idle : IfOk result (λ more. more ≡ false → new ≡ old)
  pub none_added : IfOk result (λ more. more ≡ false → new_records ≡ records)
  pub steps : (n : ℕ) → IsAt (run_of handlers old) n old → IfOk result (λ more. IsAt (run_of handlers old) (suc n) new)
  pub adds : (n : ℕ) → IsAt (run_of handlers old) n old → IfOk result (λ more. AddsStep (run_of handlers old) n records new_records)
  pub whole : (n : ℕ) → IsAt (run_of handlers old) n old → old.pending ≡ [] → records_to (run_of handlers old) n ≡ seq_records (run_of handlers old) (run_of handlers old).end
  pub falls : IfOk result (λ more. IsTrue more → weight (run_of handlers old) new.pending < weight (run_of handlers old) old.pending)
  pub counted : (n : ℕ) → IsAt (run_of handlers old) n old → IfOk result (λ more. IsCounted (run_of handlers old) (suc n))
  pub kept : IfErr result (λ fault. new ≡ old)
  pub records_kept : IfErr result (λ fault. new_records ≡ records)
  pub faults : IfErr result (λ fault. (fault ≡ Memory) ⊎ (fault ≡ Exhausted))
  pub refused : (n : ℕ) → IsAt (run_of handlers old) n old → IfErr result (IsRunStepRefusal (run_of handlers old) n)
