-- A program of one model, some of whose options are files: what is made of their bytes, and what is said where nothing is.
use Rattle.std.specs.Prelude.{◌≡◌, ◌⊎◌, ⊤, ℕ, List, [], ◌∷◌, ◌++◌, map, get_or, slice_get, Option, Some, None, Result, Ok, Err, string_bytes, codes}
use Rattle.std.specs.Fn.{FnReturns, Shared}
use Rattle.std.specs.Global.{Vec}
use Rattle.std.specs.List.{AllZip}
use Rattle.std.specs.Io.KnownBytes.{Appends, Keeps}
use denote.Ref.{Bor}
use Rattle.clap.specs.Words.{Text}
use Rattle.vt_key.specs.declared.fault.Fault.{Fault}
use Rattle.vt_key.specs.declared.fault.Fault.TheVariants as fault
use Rattle.vt_key.specs.promise.Faults.{option_named}
use Rattle.vt_model.specs.declared.settings.Config.{Config}
use Rattle.vt_model.specs.promise.Handler.{Handlers}
use Rattle.vt_text.specs.promise.Writing.{AppendsBeginning}
use Rattle.vt_options.specs.declared.choices.Task.{Task}
use Rattle.vt_options.specs.declared.own.Chosen.{Chosen}
use Rattle.vt_options.specs.declared.own.FileChoice.{FileChoice}
use Rattle.vt_options.specs.declared.own.FileOption.{FileOption}
use Rattle.vt_options.specs.declared.own.OwnOption.{OwnOption}
use Rattle.vt_options.specs.promise.Asked.{AskTaskWith}
use Rattle.vt_options.specs.promise.Own.{Models, only_with}
use Rattle.vt_options.specs.inside.Own.{file_names}
use Rattle.vt_options.specs.inside.Shown.{IsShownSentence}
use Rattle.vt_tasks.specs.promise.Models.{AnyHandlers, Making, any_handlers, IsDoneFor, EndsFor, IsReadFor, AskBadLineFor}
use Rattle.vt_tasks.specs.inside.Models.{CarriesOut}
use Rattle.vt_tasks.specs.promise.Refusals.{TellsRefusalOf, status_of}
use Rattle.vt_runner.specs.declared.one_model.Made.{Made}
use Rattle.vt_runner.specs.declared.with_files.Unmade.{Unmade}
use Rattle.vt_runner.specs.declared.with_files.Unmade.TheVariants as unmade
use Rattle.vt_runner.specs.declared.with_files.Refused.{Refused}
use Rattle.vt_runner.specs.declared.with_files.Refused.TheVariants as refused
use Rattle.vt_runner.specs.declared.with_files.TheConstants.{MAX_FILE}
use Rattle.vt_runner.specs.promise.Files.{Told, MayHave, MayFail}
use Rattle.vt_runner.specs.promise.OneModel.{MakesBy}

-- a call of f at these values and these files may give this answer
pub record AnswersAt {F A B R : Type 0} (g : Shared F (Bor A × (Bor B × Unit {0})) R) (f : F) (values : A) (files : B) (answer : R) : Type 0 where
  pub first : Bor A
  pub second : Bor B
  pub shows : (first.now ≡ values) × (second.now ≡ files)
  pub says : FnReturns g f (first, (second, tt)) answer

-- ---- the bytes of files

-- the bytes that the file of a path may have: without a path there is no file
abbrev pub MayHaveAt : Told → Option (Bor Text) → Option (Vec ℕ) → Type 0
MayHaveAt told None None = ⊤
MayHaveAt told None (Some bytes) = ⊥
MayHaveAt told (Some path) None = ⊥
MayHaveAt told (Some path) (Some bytes) = MayHave told path.now MAX_FILE bytes.items

-- and those of the files of these options
abbrev pub MayHaveAll : Told → List FileChoice → List (Option (Vec ℕ)) → Type 0
MayHaveAll told choices files = AllZip (λ c bytes. MayHaveAt told c.path bytes) choices files

-- the file of an option isn't read
pub record IsUnread (told : Told) (c : FileChoice) (option : Text) : Type 0 where
  pub named : option ≡ c.option.now
  pub path : Bor Text
  pub is : c.path ≡ Some path
  pub may_fail : MayFail told path.now MAX_FILE

-- the file of one of these options isn't read
pub record OneIsUnread (told : Told) (choices : List FileChoice) (option : Text) : Type 0 where
  pub index : ℕ
  pub choice : FileChoice
  pub there : slice_get choices index ≡ Some choice
  pub unread : IsUnread told choice option

-- a file is refused: memory was, or it isn't read
abbrev pub IsFileRefused : Told → FileChoice → Refused → Type 0
IsFileRefused told choice (refused.Plain f) = f ≡ fault.Memory
IsFileRefused told choice (refused.Bad option text) = IsUnread told choice option.now

-- one of some is
abbrev pub AreFilesRefused : Told → List FileChoice → Refused → Type 0
AreFilesRefused told choices (refused.Plain f) = f ≡ fault.Memory
AreFilesRefused told choices (refused.Bad option text) = OneIsUnread told choices option.now

-- ---- what is made of them

-- the option at this index
abbrev pub option_at : List FileChoice → ℕ → Text
option_at choices index = get_or (map (λ (c : FileChoice). c.option.now) choices) index (codes "values")

-- which option is bad where no model is made, and what is said of it
abbrev pub said_by : List FileChoice → Unmade → Option (Text × Text)
said_by choices unmade.Memory = None
said_by choices (unmade.Values text) = Some (codes "values", string_bytes text)
said_by choices (unmade.File index text) = Some (option_at choices index, string_bytes text)

-- what a program refuses a model by that isn't made
abbrev pub IsSaidBy : List FileChoice → Unmade → Refused → Type 0
IsSaidBy choices why (refused.Plain f) = (why ≡ unmade.Memory) × (f ≡ fault.Memory)
IsSaidBy choices why (refused.Bad option text) = said_by choices why ≡ Some (option.now, string_bytes text)

-- a call may give answers for values and the bytes of files
module _ {M : Type 0} (told : Told) (Gives : List ℕ → List (Option (Vec ℕ)) → Result (Made M) Unmade → Type 0) (chosen : Chosen) where
  -- the values that were chosen, and bytes that the files may have, may give this answer
  pub record GivesAnswer (answer : Result (Made M) Unmade) : Type 0 where
    pub files : List (Option (Vec ℕ))
    pub read : MayHaveAll told chosen.files.items files
    pub given : Gives chosen.values.items files answer

  -- they may make this model. Where they make none, something is said of an option
  abbrev pub MakesOfFiles : List ℕ → Option (Made M) → Type 0
  MakesOfFiles values (Some made) = GivesAnswer (Ok made)
  MakesOfFiles values None = ⊥

  -- they may make a model, and its config; or none, since the model fixes another number of processes
  abbrev pub MakesWithFiles : Config → Making M → Type 0
  MakesWithFiles config making = MakesBy MakesOfFiles chosen config making

  -- no model is made since this option is bad, and this is said of it: its file isn't read, or the call has said so
  abbrev pub RefusesWith : Text → Text → Type 0
  RefusesWith option said = OneIsUnread told chosen.files.items option ⊎ ((why : Unmade) × GivesAnswer (Err why) × (said_by chosen.files.items why ≡ Some (option, said)))

  -- so no model is made
  abbrev pub IsRefusedWith : Config → Refused → Type 0
  IsRefusedWith config (refused.Plain f) = (f ≡ fault.Memory) ⊎ ((bad : Text) × MakesWithFiles config (Err bad) × (option_named f ≡ Some bad))
  IsRefusedWith config (refused.Bad option text) = RefusesWith option.now (string_bytes text)

-- ---- what the program does

-- an answer that says nothing of an option
abbrev pub plain : Result ⊤ Fault → Result ⊤ Refused
plain (Ok done) = Ok done
plain (Err f) = Err (refused.Plain f)

-- the tables of one model, some of whose options are files
abbrev pub own_models : List OwnOption → List FileOption → Models
own_models own files = only_with own (file_names files)

-- the line of a refusal that says why an option is bad, and a newline (10)
abbrev pub why_line : Text → Text → Text → Text
why_line name option shown = name ++ (codes ": refused 7 bad option " ++ (option ++ (codes ": " ++ (shown ++ 10 ∷ []))))

-- it was written with the text as a terminal is shown a sentence, or where the writer failed a beginning of it
pub record TellsWhy (name option said : Text) (old new : Option (List ℕ)) : Type 0 where
  pub shown : Text
  pub shown_is : IsShownSentence said shown
  pub told : Appends old new (why_line name option shown) ⊎ AppendsBeginning old new (why_line name option shown)

-- an option was told to be bad, and this is the status. Without memory for what is said, it is told that memory was refused
abbrev pub TellsOption : Text → Text → Text → ℕ → Option (List ℕ) → Option (List ℕ) → Type 0
TellsOption name option said status old new = ((status ≡ 2) × TellsWhy name option said old new) ⊎ ((status ≡ 1) × TellsRefusalOf name fault.Memory old new)

-- a refusal was told, and this is its status
abbrev pub TellsRefused : Text → Refused → ℕ → Option (List ℕ) → Option (List ℕ) → Type 0
TellsRefused name (refused.Plain f) status old new = (status ≡ status_of f) × TellsRefusalOf name f old new
TellsRefused name (refused.Bad option text) status old new = TellsOption name option.now (string_bytes text) status old new

-- the handlers of a model, with their types
abbrev pub meaning_with : {M S P K : Type 0} → (M → Handlers S P K) → M → AnyHandlers
meaning_with handlers model = any_handlers (handlers model)

-- a model with these handlers, which a call may make of values and files, or nothing, under a name and with tables of options
module _ {M S P K : Type 0} (handlers : M → Handlers S P K) (told : Told) (Gives : List ℕ → List (Option (Vec ℕ)) → Result (Made M) Unmade → Type 0) where
  -- a task was carried out with this answer, or something was said of an option: then nothing was read or written
  abbrev pub CarriesWithFiles : Chosen → Task → Option (List ℕ) → Option (List ℕ) → Option (List ℕ) → Option (List ℕ) → Result ⊤ Refused → Type 0
  CarriesWithFiles chosen task remaining left old new (Ok done) = CarriesOut (meaning_with handlers) (MakesWithFiles told Gives) chosen task remaining left old new (Ok done)
  CarriesWithFiles chosen task remaining left old new (Err (refused.Plain f)) = CarriesOut (meaning_with handlers) (MakesWithFiles told Gives) chosen task remaining left old new (Err f)
  CarriesWithFiles chosen task remaining left old new (Err (refused.Bad option text)) = RefusesWith told Gives chosen option.now (string_bytes text) × Keeps remaining left × Keeps old new

module _ {M S P K : Type 0} (handlers : M → Handlers S P K) (told : Told) (Gives : List ℕ → List (Option (Vec ℕ)) → Result (Made M) Unmade → Type 0) (name : Text) (own : List OwnOption) (files : List FileOption) where
  -- what the words ask for was done
  abbrev pub IsDoneWithFiles : List Text → Option (List ℕ) → Option (List ℕ) → Option (List ℕ) → Type 0
  IsDoneWithFiles words remaining old new = IsDoneFor (meaning_with handlers) (MakesWithFiles told Gives) name (own_models own files) words remaining old new

  -- what was done where it ended with a fault
  abbrev pub EndsWithFiles : Fault → List Text → Option (List ℕ) → Option (List ℕ) → Option (List ℕ) → Type 0
  EndsWithFiles f words remaining old new = EndsFor (meaning_with handlers) (MakesWithFiles told Gives) name (own_models own files) f words remaining old new

  -- the reader was kept, or the words ask for a replay
  abbrev pub IsReadWithFiles : List Text → Option (List ℕ) → Option (List ℕ) → Type 0
  IsReadWithFiles words remaining left = IsReadFor (meaning_with handlers) (MakesWithFiles told Gives) name (own_models own files) words remaining left

  -- the words ask for a replay, and the reader tells bytes that are a step text with a bad line
  abbrev pub AskBadLineWithFiles : List Text → Option (List ℕ) → Type 0
  AskBadLineWithFiles words remaining = AskBadLineFor (meaning_with handlers) (MakesWithFiles told Gives) name (own_models own files) words remaining

  -- the words ask for a run or a replay, for which no model is made: this is said of this option, and nothing was written
  pub record RefusesOption (words : List Text) (option said : Text) (old new : Option (List ℕ)) : Type 0 where
    pub task : Task
    pub chosen : Chosen
    pub asked : AskTaskWith name (own_models own files) words task chosen
    pub refused : RefusesWith told Gives chosen option said
    pub kept : Keeps old new

  -- what the words ask for was answered so
  abbrev pub AnswersWords : List Text → Option (List ℕ) → Option (List ℕ) → Option (List ℕ) → Option (List ℕ) → Result ⊤ Refused → Type 0
  AnswersWords words remaining left old new (Ok done) = IsDoneWithFiles words remaining old new × IsReadWithFiles words remaining left
  AnswersWords words remaining left old new (Err (refused.Plain f)) = EndsWithFiles f words remaining old new × IsReadWithFiles words remaining left
  AnswersWords words remaining left old new (Err (refused.Bad option text)) = RefusesOption words option.now (string_bytes text) old new × Keeps remaining left

  -- it was refused with this status and this line, and so much was done
  abbrev pub RefusesTask : List Text → ℕ → Option (List ℕ) → Option (List ℕ) → Option (List ℕ) → Option (List ℕ) → Option (List ℕ) → Type 0
  RefusesTask words status remaining old new errors errors' =
      ((f : Fault) × (status ≡ status_of f) × EndsWithFiles f words remaining old new × TellsRefusalOf name f errors errors')
      ⊎ ((option : Text) × (said : Text) × (status ≡ 2) × RefusesOption words option said old new × TellsWhy name option said errors errors')
