-- A program whose tasks a call carries out: what it does, by what the call does.
use Rattle.std.specs.Prelude.{◌≡◌, ◌⊎◌, ⊤, ℕ, List, [], length, get_or, Option, Result, Ok, Err}
use Rattle.std.specs.Fn.{Once}
use Rattle.std.specs.Io.KnownBytes.{Keeps}
use denote.Ref.{Bor, MutBor}
use Rattle.clap.specs.Words.{Text}
use Rattle.vt_key.specs.declared.fault.Fault.{Fault}
use Rattle.vt_key.specs.declared.fault.Fault.TheVariants.{Output}
use Rattle.vt_options.specs.declared.choices.Task.{Task}
use Rattle.vt_options.specs.declared.own.Chosen.{Chosen}
use Rattle.vt_options.specs.promise.Asked.{AskTaskWith}
use Rattle.vt_options.specs.promise.Own.{Models, AreInRange, app_for, line_for}
use Rattle.vt_options.specs.inside.Requests.{IsRefusedByOf}
use Rattle.vt_tasks.specs.inside.Tasks.{BeginsWithinLimit}
use Rattle.vt_tasks.specs.promise.Outcomes.{WritesHelp, BeginsHelp}

-- a call of f for this choice and this task may give this answer, and take a reader and a writer from one state to the other
pub record CallAnswers {F H Z W R O A : Type 0} (g : Once F (Bor H × (Z × (Bor Chosen × (Bor Task × (Bor W × (MutBor R × (MutBor O × Unit {0}))))))) (A × (MutBor R × (MutBor O × Unit {0})))) (converts : A → Result ⊤ Fault → Type 0) (f : F) (reader reader' : R) (out out' : O) (chosen : Chosen) (task : Task) (answer : Result ⊤ Fault) : Type 0 where
  pub at_rt : Bor H
  pub at_alloc : Z
  pub at_chosen : Bor Chosen
  pub at_task : Bor Task
  pub at_watch : Bor W
  pub at_reader : MutBor R
  pub at_out : MutBor O
  pub shows : (at_chosen.now ≡ chosen) × (at_task.now ≡ task) × (at_reader.now ≡ reader) × (at_out.now ≡ out)
  pub given : A
  pub left_reader : MutBor R
  pub left_out : MutBor O
  pub met : g.post f (at_rt, (at_alloc, (at_chosen, (at_task, (at_watch, (at_reader, (at_out, tt))))))) (given, (left_reader, (left_out, tt)))
  pub leaves : (left_reader.now ≡ reader') × (left_out.now ≡ out')
  pub converted : converts given answer

module _ (name : Text) (models : Models) (words : List Text) where
  -- the words ask for this task with this choice. Its serials begin within their limit, and each option of the model has a value in
  -- its range
  pub record IsTaskOf (chosen : Chosen) (task : Task) : Type 0 where
    pub asked : AskTaskWith name models words task chosen
    pub counted : BeginsWithinLimit task
    pub complete : length chosen.values.items ≡ length (get_or models.tables chosen.model [])
    pub within : AreInRange (get_or models.tables chosen.model []) chosen.values.items

  -- what may be answered to a task with a choice
  module _ (Answers : Chosen → Task → Result ⊤ Fault → Type 0) where
    -- the words ask for a task, to which this was answered
    pub record IsTaskAnswered (answer : Result ⊤ Fault) : Type 0 where
      pub chosen : Chosen
      pub task : Task
      pub asked : AskTaskWith name models words task chosen
      pub answered : Answers chosen task answer

    -- what the words ask for was done
    abbrev pub IsDoneByCall : Option (List ℕ) → Option (List ℕ) → Type 0
    IsDoneByCall old new = WritesHelp (app_for name models) words old new ⊎ IsTaskAnswered (Ok tt)

    -- what was done where it ended with a refusal: of the words, with nothing written; of help, a beginning of which was written; or
    -- of the task
    abbrev pub EndsByCall : Fault → Option (List ℕ) → Option (List ℕ) → Type 0
    EndsByCall fault old new = (IsRefusedByOf (line_for name models) words fault × Keeps old new) ⊎ ((fault ≡ Output) × BeginsHelp (app_for name models) words old new) ⊎ IsTaskAnswered (Err fault)

    -- the reader was kept, or the words ask for a task, to which something was answered
    abbrev pub IsReadByCall : Option (List ℕ) → Option (List ℕ) → Type 0
    IsReadByCall old new = Keeps old new ⊎ ((answer : Result ⊤ Fault) × IsTaskAnswered answer)
