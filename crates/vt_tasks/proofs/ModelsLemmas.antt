-- What a program of models does, by what its parts did.
use Rattle.std.proofs.Common.{◌≡◌, ◌⊎◌, ◌∙◌, ℕ, List, Option, Some, Result, Ok, Err, inl, inr, refl, sym, subst, ap, length}
use Rattle.std.specs.Prelude.{⊤}
use Rattle.std.specs.Io.KnownBytes.{Keeps}
use Rattle.std.proofs.lemmas.List.{length-map}
use Rattle.clap.specs.Words.{Text}
use Rattle.vt_key.specs.declared.fault.Fault.{Fault}
use Rattle.vt_key.specs.declared.fault.Fault.TheVariants.{Memory, NotLawful, Busy, Closed, Exhausted, TurnsSpent, BadOption, BadStep, Output}
use Rattle.vt_key.specs.promise.Faults.{option_named}
use Rattle.vt_model.specs.declared.settings.Config.{Config}
use Rattle.vt_options.specs.declared.choices.Task.{Task}
use Rattle.vt_options.specs.declared.choices.Task.TheVariants.{Run, Replay}
use Rattle.vt_options.specs.declared.own.Chosen.{Chosen}
use Rattle.vt_options.specs.promise.Asked.{AskTaskWith}
use Rattle.vt_options.specs.promise.Line.{given_by}
use Rattle.vt_options.specs.promise.Own.{Models, app_for, line_for, GiveModel, GiveValues}
use Rattle.vt_options.specs.promise.Requests.{AskHelpOf, IsRefusedAsOf}
use Rattle.vt_options.specs.inside.Requests.{IsRefusedByOf}
use Rattle.vt_options.specs.promise.Table.{Given, NumberOption, value_in}
use Rattle.vt_options.specs.promise.Tasks.{task_config}
use Rattle.vt_options.specs.inside.Tasks.{with_config}
use Rattle.vt_tasks.specs.inside.Tasks.{BeginsWithinLimit}
use Rattle.vt_tasks.specs.promise.Outcomes.{EndsWith}
use Rattle.vt_tasks.specs.inside.Outcomes.{IsAskedByLine}
use Rattle.vt_tasks.specs.inside.Programs.{IsTaskOf}
use Rattle.vt_tasks.specs.promise.Models.{AnyHandlers, Making, program_of, IsDoneFor, EndsFor, IsReadFor, AskBadLineFor}
use Rattle.vt_tasks.specs.inside.Models.{CarriesOut, DoesTask, StopsTask}
use Rattle.vt_tasks.proofs.OutcomeLemmas as outcomes

-- as many values are given as there are options
pub values_are : (given : Given) (table : List NumberOption) (values : List ℕ) → GiveValues given table values → length values ≡ length table
values_are given table values h = sym (length-map values Some) ∙ sym (ap length h) ∙ length-map table (value_in given)

module _ (name : Text) (models : Models) (words : List Text) where
  -- the words give the model's index and values
  pub task_given : (task : Task) (chosen : Chosen) → AskTaskWith name models words task chosen → GiveModel models (given_by (app_for name models) words) chosen.model chosen.values.items
  task_given (Run s) chosen asked = asked.options.model
  task_given (Replay s) chosen asked = asked.options.model

  -- serials begin within their limit
  pub task_counted : (task : Task) (chosen : Chosen) → AskTaskWith name models words task chosen → BeginsWithinLimit task
  task_counted (Run s) chosen asked = tt
  task_counted (Replay s) chosen asked = outcomes.serial_counted (given_by (app_for name models) words) s.serial asked.options.settings.serial

  -- what is known of a task that the words ask for
  pub task_of : (task : Task) (chosen : Chosen) → AskTaskWith name models words task chosen → IsTaskOf name models words chosen task
  task_of task chosen asked =
      let given = task_given task chosen asked in
      record { asked = asked; counted = task_counted task chosen asked; complete = values_are (given_by (app_for name models) words) _ _ given.values; within = given.within }

module _ {C : Type 0} (meaning : C → AnyHandlers) (Makes : Chosen → Config → Making C → Type 0) (name : Text) (models : Models) where
  -- what the words ask for is what the command line says
  is_asked : IsAskedByLine (program_of meaning Makes name models)
  is_asked = record {
    run = λ words r asked. (asked.asked.run, asked.asked.options.all_good);
    replay = λ words r asked. (asked.asked.replay, asked.asked.options.all_good);
  }

  -- words that are refused and don't ask for help are never answered
  pub not_done : (words : List Text) (bad : Text) (input old new : Option (List ℕ)) → IsRefusedAsOf (line_for name models) words bad → ¬ AskHelpOf (app_for name models) words → IsDoneFor meaning Makes name models words input old new → ⊥
  not_done words bad input old new refused no_help = outcomes.not_done (program_of meaning Makes name models) is_asked words bad input old new refused no_help

  -- and nothing is written for them
  pub nothing_written : (words : List Text) (bad : Text) (input old new : Option (List ℕ)) (fault : Fault) → IsRefusedAsOf (line_for name models) words bad → ¬ AskHelpOf (app_for name models) words → EndsFor meaning Makes name models fault words input old new → Keeps old new
  nothing_written words bad input old new fault refused no_help (inl h) = outcomes.nothing_written (program_of meaning Makes name models) is_asked words bad input old new refused no_help fault h
  nothing_written words bad input old new fault refused no_help (inr h) = h.kept

  -- a text with a bad line is never replayed
  pub bad_not_done : (words : List Text) (input old new : Option (List ℕ)) → AskBadLineFor meaning Makes name models words input → IsDoneFor meaning Makes name models words input old new → ⊥
  bad_not_done words input old new bad = outcomes.bad_not_done (program_of meaning Makes name models) is_asked words input bad old new

  -- and nothing is written for it
  pub bad_nothing_written : (words : List Text) (input old new : Option (List ℕ)) (fault : Fault) → AskBadLineFor meaning Makes name models words input → EndsFor meaning Makes name models fault words input old new → Keeps old new
  bad_nothing_written words input old new fault bad (inl h) = outcomes.bad_nothing_written (program_of meaning Makes name models) is_asked words input bad old new fault h
  bad_nothing_written words input old new fault bad (inr h) = h.kept

  -- a task is a run, which reads nothing, or a replay on a model; or it reads nothing, since there is no model
  pub task_read : (words : List Text) (remaining left old new : Option (List ℕ)) (task : Task) (chosen : Chosen) (answer : Result ⊤ Fault) → AskTaskWith name models words task chosen
      → CarriesOut meaning Makes chosen task remaining left old new answer → IsReadFor meaning Makes name models words remaining left
  task_read words remaining left old new (Run s) chosen answer asked h = inl h.unread
  task_read words remaining left old new (Replay s) chosen (Ok done) asked h = inr (record { settings = s; chosen = chosen; model = h.ok.model; config = h.ok.config }, record { asked = asked; made = h.ok.made })
  task_read words remaining left old new (Replay s) chosen (Err fault) asked h =
      elim h.err [
        | inl stops ↦ inr (record { settings = s; chosen = chosen; model = stops.model; config = stops.config }, record { asked = asked; made = stops.made })
        | inr none ↦ inl none.unread
      ]

  module _ (words : List Text) (input left old new : Option (List ℕ)) where
    -- a task for a model that the choice makes was done
    pub task_done : (task : Task) (chosen : Chosen) → AskTaskWith name models words task chosen → DoesTask meaning Makes chosen task input left old new → IsDoneFor meaning Makes name models words input old new
    task_done (Run s) chosen asked does = inr (inl (record { options = record { settings = s; chosen = chosen; model = does.model; config = does.config }; asked = record { asked = asked; made = does.made }; written = does.done }))
    task_done (Replay s) chosen asked does = inr (inr (record { options = record { settings = s; chosen = chosen; model = does.model; config = does.config }; asked = record { asked = asked; made = does.made }; replayed = does.done }))

    -- or it was refused
    pub task_ends : (task : Task) (chosen : Chosen) → AskTaskWith name models words task chosen → (fault : Fault) → StopsTask meaning Makes chosen task input left old new fault → EndsWith (program_of meaning Makes name models) words fault input old new
    task_ends (Run s) chosen asked fault stops = outcomes.run_ends (program_of meaning Makes name models) words (record { settings = s; chosen = chosen; model = stops.model; config = stops.config }) input old new (record { asked = asked; made = stops.made }) fault stops.ends
    task_ends (Replay s) chosen asked fault stops = outcomes.replay_ends (program_of meaning Makes name models) words (record { settings = s; chosen = chosen; model = stops.model; config = stops.config }) input old new fault (record { asked = asked; made = stops.made }) stops.ends

  module _ (words : List Text) (input old new : Option (List ℕ)) (kept : Keeps old new) where
    -- there is no model
    pub none_made : (task : Task) (chosen : Chosen) (fault : Fault) → AskTaskWith name models words task chosen → (fault ≡ Memory) ⊎ ((bad : Text) × Makes chosen (task_config task) (Err bad) × (option_named fault ≡ Some bad)) → EndsFor meaning Makes name models fault words input old new
    none_made task chosen fault asked (inl memory) = inl (subst (λ (f : Fault). EndsWith (program_of meaning Makes name models) words f input old new) (sym memory) (inl kept))
    none_made task chosen fault asked (inr h) = inr (record { chosen = chosen; task = task; asked = asked; bad = h.0; refused = h.1; named = h.2; kept = kept })

    -- the words are refused
    pub words_refused : (fault : Fault) → IsRefusedByOf (line_for name models) words fault → EndsWith (program_of meaning Makes name models) words fault input old new
    words_refused Memory h = inl kept
    words_refused NotLawful h = absurd h
    words_refused Busy h = absurd h
    words_refused Closed h = absurd h
    words_refused Exhausted h = absurd h
    words_refused TurnsSpent h = absurd h
    words_refused (BadOption bad) h = inl (record { refused = h; kept = kept })
    words_refused (BadStep line) h = absurd h
    words_refused Output h = absurd h
