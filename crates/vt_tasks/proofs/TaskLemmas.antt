-- A task that is carried out with another config.
use Rattle.std.proofs.Common.{◌≡◌, List, ℕ, Option, OnOk, Result, Ok, inl, subst}
use Rattle.std.specs.Bool.{⊤}
use Rattle.std.specs.Result.{IfErr}
use Rattle.std.proofs.KnownBytes.{Keeps-refl}
use Rattle.std.proofs.lemmas.Result.{on_ok_weaker, IfErr-weaker}
use Rattle.vt_key.specs.declared.fault.Fault.{Fault}
use Rattle.vt_model.specs.declared.settings.Config.{Config}
use Rattle.vt_options.specs.declared.choices.Task.{Task}
use Rattle.vt_options.specs.declared.choices.Task.TheVariants.{Run, Replay}
use Rattle.vt_options.specs.declared.own.Chosen.{Chosen}
use Rattle.vt_options.specs.promise.Tasks.{task_config}
use Rattle.vt_options.specs.inside.Tasks.{with_config}
use Rattle.vt_tasks.specs.promise.Models.{AnyHandlers, Making}
use Rattle.vt_tasks.specs.inside.Models.{CarriesOut}
use Rattle.vt_tasks.specs.inside.Tasks.{BeginsWithinLimit, IsTaskDone, TaskEnds, KeepsInput}

-- its serials begin as they did
pub counted_with : (config : Config) (task : Task) → BeginsWithinLimit task → BeginsWithinLimit (with_config config task)
counted_with config (Run s) counted = counted
counted_with config (Replay s) counted = counted

-- and it reads no more
input_with : (config : Config) (task : Task) (old new : Option (List ℕ)) → KeepsInput (with_config config task) old new → KeepsInput task old new
input_with config (Run s) old new kept = kept
input_with config (Replay s) old new kept = kept

-- nothing was read
pub input_kept : (task : Task) (old : Option (List ℕ)) → KeepsInput task old old
input_kept (Run s) old = Keeps-refl old
input_kept (Replay s) old = tt

-- what was carried out with a model and its config is the task of the choice that makes them
pub carried_out : {C : Type 0} (meaning : C → AnyHandlers) (Makes : Chosen → Config → Making C → Type 0) (chosen : Chosen) (task : Task) (model : C) (config : Config) (t : Task)
    (remaining left old new : Option (List ℕ)) (r : Result ⊤ Fault)
    → t ≡ with_config config task → Makes chosen (task_config task) (Ok (model, config))
    → OnOk r (IsTaskDone (meaning model).handlers t remaining old new) → IfErr r (TaskEnds (meaning model).handlers t remaining old new) → KeepsInput t remaining left
    → CarriesOut meaning Makes chosen task remaining left old new r
carried_out meaning Makes chosen task model config t remaining left old new r is made done ends unread = record {
  ok = on_ok_weaker r (λ d. record { model = model; config = config; made = made; done = subst (λ (u : Task). IsTaskDone (meaning model).handlers u remaining old new) is d }) done;
  err = IfErr-weaker r _ _ (λ fault e. inl (record { model = model; config = config; made = made; ends = subst (λ (u : Task). TaskEnds (meaning model).handlers u remaining old new fault) is e })) ends;
  unread = input_with config task remaining left (subst (λ (u : Task). KeepsInput u remaining left) is unread);
}
