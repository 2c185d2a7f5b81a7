-- A program of models: what its words ask for, and what it writes.
use Rattle.std.specs.Prelude.{◌≡◌, ◌⊎◌, ⊤, ℕ, List, Option, Some, Result, Ok, Err, OnOk, IfErr}
use Rattle.std.specs.Io.KnownBytes.{Keeps}
use Rattle.clap.specs.Words.{Text}
use Rattle.vt_key.specs.declared.fault.Fault.{Fault}
use Rattle.vt_key.specs.declared.fault.Fault.TheVariants.{Memory}
use Rattle.vt_key.specs.promise.Faults.{option_named}
use Rattle.vt_model.specs.declared.settings.Config.{Config}
use Rattle.vt_options.specs.declared.choices.Task.{Task}
use Rattle.vt_options.specs.declared.own.Chosen.{Chosen}
use Rattle.vt_options.specs.promise.Tasks.{task_config}
use Rattle.vt_options.specs.inside.Tasks.{with_config}
use Rattle.vt_tasks.specs.inside.Tasks.{IsTaskDone, TaskEnds, KeepsInput}
use Rattle.vt_tasks.specs.promise.Models.{AnyHandlers, Making}

-- models with these handlers, which may be made of a choice and a config, or nothing
module _ {C : Type 0} (meaning : C → AnyHandlers) (Makes : Chosen → Config → Making C → Type 0) (chosen : Chosen) (task : Task) (remaining left old new : Option (List ℕ)) where
  -- the choice makes a model, with which the task was done
  pub record DoesTask : Type 0 where
    pub model : C
    pub config : Config
    pub made : Makes chosen (task_config task) (Ok (model, config))
    pub done : IsTaskDone (meaning model).handlers (with_config config task) remaining old new

  -- the choice makes a model, with which the task was refused
  pub record StopsTask (fault : Fault) : Type 0 where
    pub model : C
    pub config : Config
    pub made : Makes chosen (task_config task) (Ok (model, config))
    pub ends : TaskEnds (meaning model).handlers (with_config config task) remaining old new fault

  -- there is no model: memory was refused, or the choice makes none, and the fault names the option for which. Nothing was read, and
  -- nothing was written
  pub record MakesNoModel (fault : Fault) : Type 0 where
    pub why : (fault ≡ Memory) ⊎ ((bad : Text) × Makes chosen (task_config task) (Err bad) × (option_named fault ≡ Some bad))
    pub unread : Keeps remaining left
    pub kept : Keeps old new

  -- the task was carried out with this answer. A run reads nothing
  pub record CarriesOut (answer : Result ⊤ Fault) : Type 0 where
    pub ok : OnOk answer DoesTask
    pub err : IfErr answer (λ fault. StopsTask fault ⊎ MakesNoModel fault)
    pub unread : KeepsInput task remaining left
