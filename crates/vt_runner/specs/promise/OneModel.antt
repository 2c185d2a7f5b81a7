-- A program of one model: what its words ask for, and what it writes.
use Rattle.std.specs.Prelude.{◌≡◌, ◌⊎◌, ℕ, List, Option, Some, None, Ok, Err, codes}
use Rattle.clap.specs.Words.{Text}
use Rattle.vt_key.specs.declared.fault.Fault.{Fault}
use Rattle.vt_model.specs.declared.settings.Config.{Config}
use Rattle.vt_model.specs.promise.Handler.{Handlers}
use Rattle.vt_options.specs.declared.own.Chosen.{Chosen}
use Rattle.vt_options.specs.declared.own.OwnOption.{OwnOption}
use Rattle.vt_options.specs.promise.Own.{only}
use Rattle.vt_options.specs.declared.processes.Unsettled.{Unsettled}
use Rattle.vt_options.specs.declared.processes.Unsettled.TheVariants.{Count, Lps}
use Rattle.vt_options.specs.promise.Processes.{IsUnsettled, Settles}
use Rattle.vt_runner.specs.declared.one_model.Made.{Made}
use Rattle.vt_tasks.specs.promise.Models.{AnyHandlers, any_handlers, Making, IsDoneFor, EndsFor, IsReadFor, AskBadLineFor}

-- which option is bad where a model fixes a number of processes with which it isn't run
abbrev pub option_unsettled : Unsettled → Text
option_unsettled Count = codes "values"
option_unsettled (Lps fixed) = codes "lps"

module _ {M : Type 0} (Makes : List ℕ → Option (Made M) → Type 0) (chosen : Chosen) where
  -- the values that were chosen may make this model, which is run with this config
  pub record MakesSettled (config : Config) (model : M) (settled : Config) : Type 0 where
    pub processes : Option ℕ
    pub made : Makes chosen.values.items (Some (record { model = model; processes = processes }))
    pub settles : Settles processes chosen.lps config settled

  -- or one with which nothing is run, since it fixes another number of processes
  pub record MakesUnsettled (bad : Text) : Type 0 where
    pub model : M
    pub processes : Option ℕ
    pub made : Makes chosen.values.items (Some (record { model = model; processes = processes }))
    pub why : Unsettled
    pub unsettled : IsUnsettled processes chosen.lps why
    pub named : bad ≡ option_unsettled why

  -- the values that were chosen may make a model, and its config; or none, which the option `values` says, or `lps`
  abbrev pub MakesBy : Config → Making M → Type 0
  MakesBy config (Ok made) = MakesSettled config made.0 made.1
  MakesBy config (Err bad) = (Makes chosen.values.items None × (bad ≡ codes "values")) ⊎ MakesUnsettled bad

-- a model with these handlers, which values of its options may make, or nothing, under a name and with a table of options
module _ {M S P K : Type 0} (handlers : M → Handlers S P K) (Makes : List ℕ → Option (Made M) → Type 0) (name : Text) (own : List OwnOption) where
  -- the handlers, with their types
  abbrev pub meaning_of : M → AnyHandlers
  meaning_of model = any_handlers (handlers model)

  -- what the words ask for was done
  abbrev pub IsDoneOf : List Text → Option (List ℕ) → Option (List ℕ) → Option (List ℕ) → Type 0
  IsDoneOf words remaining old new = IsDoneFor meaning_of (MakesBy Makes) name (only own) words remaining old new

  -- what was done where it ended with a refusal
  abbrev pub EndsOf : Fault → List Text → Option (List ℕ) → Option (List ℕ) → Option (List ℕ) → Type 0
  EndsOf fault words remaining old new = EndsFor meaning_of (MakesBy Makes) name (only own) fault words remaining old new

  -- the reader was kept, or the words ask for a replay
  abbrev pub IsReadOf : List Text → Option (List ℕ) → Option (List ℕ) → Type 0
  IsReadOf words remaining left = IsReadFor meaning_of (MakesBy Makes) name (only own) words remaining left

  -- the words ask for a replay, and the reader tells bytes that are a step text with a bad line
  abbrev pub AskBadLineOf : List Text → Option (List ℕ) → Type 0
  AskBadLineOf words remaining = AskBadLineFor meaning_of (MakesBy Makes) name (only own) words remaining
