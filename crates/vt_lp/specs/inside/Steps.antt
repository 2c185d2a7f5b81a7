-- A step of a process, whatever process of a world the value stands for: what a call did that was answered Ok, and why one is refused.
use Rattle.std.specs.Prelude.{◌≡◌, ℕ, ◌%◌, List, Option, None, Result, IfOk, IfErr}
use Rattle.vt_key.specs.declared.fault.Fault.{Fault}
use Rattle.vt_key.specs.declared.letter.Letter.{Letter}
use Rattle.vt_model.specs.promise.Handler.{Handlers}
use Rattle.vt_model.specs.promise.Simulation.{simulation_of}
use Rattle.vt_steps.specs.promise.World.{LogicalProcess}
use Rattle.vt_steps.specs.promise.ProcessSteps.{ProcessEffect, execute_process}
use Rattle.vt_lp.specs.inside.Held.{HeldProcess, StandsFor}
use Rattle.vt_lp.specs.inside.Guards.{IsDone, IsExecuteRefusal}

-- what Execute makes of a process, with this serial
abbrev pub execute_held : {S P K : Type 0} → Handlers S P K → HeldProcess S P K → ℕ → LogicalProcess P → Option (ProcessEffect P)
execute_held handlers held serial = execute_process (simulation_of handlers held.config) held.lp (held.lp % held.config.workers) serial

module _ {S P K V E : Type 0} (handlers : Handlers S P K) where
  -- a call that is answered Ok did this step: it was lawful, the process stands for the one after it, its letters went to the back of
  -- the outbox, and it took its serials
  abbrev pub DoesAtProcess : HeldProcess S P K → HeldProcess S P K → (LogicalProcess P → Option (ProcessEffect P)) → List (Letter P) → List (Letter P) → ℕ → ℕ → Result V E → Type 0
  DoesAtProcess old new step outbox new_outbox serial new_serial result =
      (process : LogicalProcess P) → StandsFor handlers old process → IfOk result (λ done. IsDone handlers new (step process) outbox new_outbox serial new_serial)

  -- a call is refused only where this step isn't lawful
  abbrev pub RefusesAtProcess : HeldProcess S P K → (LogicalProcess P → Option (ProcessEffect P)) → Result V E → Type 0
  RefusesAtProcess old step result = (process : LogicalProcess P) → StandsFor handlers old process → IfErr result (λ fault. step process ≡ None)

-- why a call is refused that is to execute the least pending event with this serial
abbrev pub RefusesExecution : {S P K V : Type 0} → Handlers S P K → HeldProcess S P K → ℕ → Result V Fault → Type 0
RefusesExecution {S} {P} handlers old serial result =
    (process : LogicalProcess P) → StandsFor handlers old process → IfErr result (λ fault. IsExecuteRefusal (simulation_of handlers old.config) old.lp serial (execute_held handlers old serial process) fault)
