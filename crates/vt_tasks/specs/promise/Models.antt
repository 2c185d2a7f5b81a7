-- A program of models: what its words ask for, and what it writes.
use Rattle.std.specs.Prelude.{◌≡◌, ◌⊎◌, ℕ, List, Option, Some, Result, Ok, Err}
use Rattle.std.specs.Io.KnownBytes.{Keeps}
use Rattle.clap.specs.Words.{Text}
use Rattle.vt_key.specs.declared.fault.Fault.{Fault}
use Rattle.vt_key.specs.promise.Faults.{option_named}
use Rattle.vt_model.specs.declared.settings.Config.{Config}
use Rattle.vt_model.specs.promise.Handler.{Handlers}
use Rattle.vt_model.specs.promise.Simulation.{simulation_of}
use Rattle.vt_world.specs.promise.Answers.{PassesAtStart}
use Rattle.vt_options.specs.declared.choices.RunSettings.{RunSettings}
use Rattle.vt_options.specs.declared.choices.ReplaySettings.{ReplaySettings}
use Rattle.vt_options.specs.declared.choices.Task.{Task}
use Rattle.vt_options.specs.declared.choices.Task.TheVariants.{Run, Replay}
use Rattle.vt_options.specs.declared.own.Chosen.{Chosen}
use Rattle.vt_options.specs.promise.Asked.{AskTaskWith}
use Rattle.vt_options.specs.promise.Own.{Models, line_for}
use Rattle.vt_options.specs.promise.Tasks.{task_config}
use Rattle.vt_tasks.specs.promise.Runs.{run_text, text_below, PassesInRun}
use Rattle.vt_tasks.specs.promise.Replays.{IsReplayOf, AreRepliesOf}
use Rattle.vt_tasks.specs.promise.Outcomes.{Program, IsDoneBy, EndsWith, IsReadBy, AskBadLine}

-- the handlers of a model, with the types of its states, its payloads and what it keeps
pub record AnyHandlers : Type 1 where
  pub State : Type 0
  pub Payload : Type 0
  pub Kept : Type 0
  pub handlers : Handlers State Payload Kept

abbrev pub any_handlers : {S P K : Type 0} → Handlers S P K → AnyHandlers
any_handlers {S} {P} {K} h = record { State = S; Payload = P; Kept = K; handlers = h }

-- what is made of a choice and a config: a model, and the config with which it is run, or no model, since the option of this name is
-- bad
abbrev pub Making : Type 0 → Type 0
Making C = Result (C × Config) Text

-- a run of a model: the settings that the words give, what they choose, the model, and the config with which it is run
pub record RunOf (C : Type 0) : Type 0 where
  pub settings : RunSettings
  pub chosen : Chosen
  pub model : C
  pub config : Config

-- a replay on a model
pub record ReplayOf (C : Type 0) : Type 0 where
  pub settings : ReplaySettings
  pub chosen : Chosen
  pub model : C
  pub config : Config

-- models with these handlers, which may be made of a choice and a config, or nothing, under a name and with tables of options
module _ {C : Type 0} (meaning : C → AnyHandlers) (Makes : Chosen → Config → Making C → Type 0) (name : Text) (models : Models) where
  -- the words ask for this run, and their choice makes its model
  pub record AskRunOf (words : List Text) (r : RunOf C) : Type 0 where
    pub asked : AskTaskWith name models words (Run r.settings) r.chosen
    pub made : Makes r.chosen r.settings.config (Ok (r.model, r.config))

  -- the words ask for this replay, and their choice makes its model
  pub record AskReplayOf (words : List Text) (r : ReplayOf C) : Type 0 where
    pub asked : AskTaskWith name models words (Replay r.settings) r.chosen
    pub made : Makes r.chosen r.settings.config (Ok (r.model, r.config))

  -- the program of these models
  abbrev pub program_of : Program
  program_of = record {
    line = line_for name models;
    Run = RunOf C;
    Replay = ReplayOf C;
    AskRun = AskRunOf;
    AskReplay = AskReplayOf;
    synch_of = λ r. r.settings.synch;
    workers_of = λ r. r.config.workers;
    text_of = λ r. run_text r.settings.records r.settings.finals (meaning r.model).handlers r.config;
    text_below = λ r time. text_below r.settings.records (meaning r.model).handlers r.config time;
    Passes = λ r. PassesInRun (meaning r.model).handlers r.config;
    config_of = λ r. r.config;
    IsOutput = λ r steps text. IsReplayOf r.settings.text (meaning r.model).handlers r.config r.settings.serial steps text;
    AreLines = λ r steps text. AreRepliesOf (meaning r.model).handlers r.config r.settings.serial steps text;
    OpensLate = λ r. PassesAtStart (simulation_of (meaning r.model).handlers r.config) r.settings.serial;
  }

  -- the words ask for a run or a replay, their choice makes no model, for the option that the fault names, and nothing was written
  pub record RefusesChoice (words : List Text) (fault : Fault) (old new : Option (List ℕ)) : Type 0 where
    pub chosen : Chosen
    pub task : Task
    pub asked : AskTaskWith name models words task chosen
    pub bad : Text
    pub refused : Makes chosen (task_config task) (Err bad)
    pub named : option_named fault ≡ Some bad
    pub kept : Keeps old new

  -- what the words ask for was done
  abbrev pub IsDoneFor : List Text → Option (List ℕ) → Option (List ℕ) → Option (List ℕ) → Type 0
  IsDoneFor words remaining old new = IsDoneBy program_of words remaining old new

  -- what was done where it ended with a refusal
  abbrev pub EndsFor : Fault → List Text → Option (List ℕ) → Option (List ℕ) → Option (List ℕ) → Type 0
  EndsFor fault words remaining old new = EndsWith program_of words fault remaining old new ⊎ RefusesChoice words fault old new

  -- the reader was kept, or the words ask for a replay
  abbrev pub IsReadFor : List Text → Option (List ℕ) → Option (List ℕ) → Type 0
  IsReadFor words remaining left = IsReadBy program_of words remaining left

  -- the words ask for a replay, and the reader tells bytes that are a step text with a bad line
  abbrev pub AskBadLineFor : List Text → Option (List ℕ) → Type 0
  AskBadLineFor words remaining = AskBadLine program_of words remaining
