-- The options of models, as tables, and a command line with them.
-- ---- the table of one model
use Rattle.std.specs.Prelude.{◌≡◌, ◌⊎◌, ℕ, ◌+◌, ◌&&◌, Bool, true, false, List, [], ◌∷◌, ◌++◌, map, get_or, Option, Some, None, if◌then◌else◌, is_some, option_map, codes}
use Rattle.std.specs.List.{list_all, AllZip}
use Rattle.std.specs.Str.{bytes_eq}
use Rattle.clap.specs.Words.{App, Text}
use Rattle.vt_model.specs.promise.Settings.{is_between}
use Rattle.vt_options.specs.declared.own.OwnOption.{OwnOption}
use Rattle.vt_options.specs.declared.own.FileChoice.{FileChoice}
use Rattle.vt_options.specs.declared.programs.ProgramChoice.{ProgramChoice}
use Rattle.vt_options.specs.declared.choices.RunSettings.{RunSettings}
use Rattle.vt_options.specs.declared.choices.ReplaySettings.{ReplaySettings}
use Rattle.vt_options.specs.promise.Line.{UsedOption, once, many_times, flag, program_app, given_by, texts_by}
use Rattle.vt_options.specs.promise.Requests.{Line, AreBy}
use Rattle.vt_options.specs.promise.Programs.{GivesChoice, bad_sets, fuel, value_given}
use Rattle.vt_options.specs.promise.Settings.{GiveRunSettings, GiveReplaySettings}
use Rattle.vt_options.specs.promise.Table.{Given, NumberOption, option, value_in, synch_in, version_in, finals_in, records_said, bad, bad_number, first_name, first_bad_of, config_table, turns, serial, lps}

-- an option of the table, as a number with its range and its default
abbrev pub number_option : OwnOption → NumberOption
number_option o = option o.name.now o.least o.most o.default

abbrev pub number_table : List OwnOption → List NumberOption
number_table own = map number_option own

-- each default is in its range
abbrev pub has_default : OwnOption → Bool
has_default o = is_between o.least o.most o.default

abbrev pub HaveDefaults : List OwnOption → Type 0
HaveDefaults own = list_all has_default own ≡ true

-- each option has a value in its range
abbrev pub AreInRange : List NumberOption → List ℕ → Type 0
AreInRange table values = AllZip (λ o v. is_between o.least o.most v ≡ true) table values

abbrev pub AreWithin : List OwnOption → List ℕ → Type 0
AreWithin own values = AreInRange (number_table own) values

-- the values that the texts give to the options of a table, in its order
abbrev pub GiveValues : Given → List NumberOption → List ℕ → Type 0
GiveValues given table values = map (value_in given) table ≡ map Some values

-- ---- options that are files

-- an option with the path that it is given, if it is given one
abbrev pub OptionPath : Type 0
OptionPath = Text × Option Text

abbrev pub path_of : FileChoice → OptionPath
path_of f = (f.option.now, option_map (λ path. path.now) f.path)

-- the paths that the texts give to these options, in their order
abbrev pub GivePaths : Given → List Text → List OptionPath → Type 0
GivePaths given names paths = map (λ name. (name, given name)) names ≡ paths

-- ---- the tables of several models

-- an option that names one of several models: its own name, and the names that it takes
pub record Naming : Type 0 where
  pub option : Text
  pub names : List Text

-- the models of a program: the option that names one of them, if there is one, the options of each, those that are files, and whether
-- the file of a program may take their place
pub record Models : Type 0 where
  pub naming : Option Naming
  pub tables : List (List NumberOption)
  pub files : List Text
  pub programs : Bool

-- one model, which no option names, with these options that are files
abbrev pub only_with : List OwnOption → List Text → Models
only_with own files = record { naming = None; tables = number_table own ∷ []; files = files; programs = false }

-- one without any
abbrev pub only : List OwnOption → Models
only own = only_with own []

-- the index of a name, counted from k: the first if it stands there twice
abbrev pub index_from : ℕ → List Text → Text → Option ℕ
index_from k [] text = None
index_from k (name ∷ names) text = if bytes_eq name text then Some k else index_from (k + 1) names text

-- the index that a text gives: the first model where there is none
abbrev pub named_in : List Text → Option Text → Option ℕ
named_in names None = Some 0
named_in names (Some text) = index_from 0 names text

-- the index of the model that the texts choose: the first where no option names one
abbrev pub chosen_by : Option Naming → Given → Option ℕ
chosen_by None given = Some 0
chosen_by (Some naming) given = named_in naming.names (given naming.option)

-- the option that names a model, where its text names none
abbrev pub bad_naming : Option Naming → Given → Option Text
bad_naming None given = None
bad_naming (Some naming) given = bad naming.option (named_in naming.names (given naming.option))

-- the first option of all tables that has no value
abbrev pub first_bad_in : Given → List (List NumberOption) → Option Text
first_bad_in given [] = None
first_bad_in given (table ∷ tables) = first_name (first_bad_of given table ∷ first_bad_in given tables ∷ [])

-- ---- a program in the place of a model

-- the texts give a program, and name a model too
abbrev pub names_both : Option Naming → Given → Bool
names_both None given = false
names_both (Some naming) given = is_some (given (codes "program")) && is_some (given naming.option)

-- `program`, where a model is named too
abbrev pub bad_program : Option Naming → Given → Option Text
bad_program naming given = if names_both naming given then Some (codes "program") else None

-- the first bad option of those of programs, where there are any. `texts` are those of `set`
abbrev pub first_bad_of_program : Models → Given → List Text → Option Text
first_bad_of_program models given texts =
    if models.programs then first_name (bad_program models.naming given ∷ bad_sets texts ∷ bad_number given fuel ∷ []) else None

-- the texts choose this program, or none
abbrev pub GiveProgram : Models → Given → List Text → Option ProgramChoice → Type 0
GiveProgram models given texts None = (models.programs ≡ false) ⊎ (given (codes "program") ≡ None)
GiveProgram models given texts (Some p) = (models.programs ≡ true) × GivesChoice given texts p

-- ---- the command line

abbrev pub naming_names : Option Naming → List Text
naming_names None = []
naming_names (Some naming) = naming.option ∷ []

abbrev pub table_names : List (List NumberOption) → List Text
table_names [] = []
table_names (table ∷ tables) = map (λ o. o.name) table ++ table_names tables

-- the options of programs
abbrev pub program_options : Bool → List UsedOption
program_options programs = if programs then once (codes "program") ∷ many_times (codes "set") ∷ once (codes "data") ∷ once (codes "fuel") ∷ [] else []

-- the options that say what a run prints beside the version of its text
abbrev pub printing_options : List UsedOption
printing_options = flag (codes "finals") ∷ once (codes "records") ∷ []

-- the options of `run`, in the order in which they are tested
abbrev pub run_options : Models → List UsedOption
run_options models =
    map once (naming_names models.naming)
    ++ (map once (codes "synch" ∷ codes "workers" ∷ codes "lps" ∷ codes "end" ∷ codes "seed" ∷ [])
    ++ (map once (table_names models.tables)
    ++ (map once models.files
    ++ (map once (codes "turns" ∷ codes "text" ∷ []) ++ (printing_options ++ program_options models.programs)))))

-- the options of `replay`, in the order in which they are tested
abbrev pub replay_options : Models → List UsedOption
replay_options models =
    map once (naming_names models.naming)
    ++ (map once (codes "workers" ∷ codes "lps" ∷ codes "end" ∷ codes "seed" ∷ [])
    ++ (map once (table_names models.tables)
    ++ (map once models.files
    ++ (map once (codes "serial" ∷ codes "text" ∷ []) ++ program_options models.programs))))

abbrev pub app_for : Text → Models → App
app_for name models = program_app name (run_options models) (replay_options models)

-- the first option of `run` that has no value, in the order in which they are tested: it is the one that is named. `texts` are
-- those of `set`
abbrev pub first_bad_of_run : Models → Given → List Text → Option Text
first_bad_of_run models given texts = first_name (
    bad_naming models.naming given
    ∷ bad (codes "synch") (synch_in (given (codes "synch")))
    ∷ first_bad_of given config_table
    ∷ first_bad_in given models.tables
    ∷ bad_number given turns
    ∷ bad (codes "text") (version_in (given (codes "text")))
    ∷ bad (codes "finals") (finals_in given)
    ∷ bad (codes "records") (records_said (given (codes "records")))
    ∷ first_bad_of_program models given texts ∷ [])

-- the first option of `replay` that has no value
abbrev pub first_bad_of_replay : Models → Given → List Text → Option Text
first_bad_of_replay models given texts = first_name (
    bad_naming models.naming given
    ∷ first_bad_of given config_table
    ∷ first_bad_in given models.tables
    ∷ bad_number given serial
    ∷ bad (codes "text") (version_in (given (codes "text")))
    ∷ first_bad_of_program models given texts ∷ [])

-- the command line of a program of these models: its parser, and which bad option is named
abbrev pub line_for : Text → Models → Line
line_for name models = record {
  app = app_for name models;
  bad_of_run = λ words. first_bad_of_run models (given_by (app_for name models) words) (texts_by (app_for name models) words (codes "set"));
  bad_of_replay = λ words. first_bad_of_replay models (given_by (app_for name models) words) (texts_by (app_for name models) words (codes "set"));
}

-- that of a program of one model
abbrev pub own_app : Text → List OwnOption → App
own_app name own = app_for name (only own)

abbrev pub own_line : Text → List OwnOption → Line
own_line name own = line_for name (only own)

-- ---- what the words give

-- the index of a model and values of its options that the texts give, each in its range
pub record GiveModel (models : Models) (given : Given) (k : ℕ) (vs : List ℕ) : Type 0 where
  pub chosen : chosen_by models.naming given ≡ Some k
  pub values : GiveValues given (get_or models.tables k []) vs
  pub within : AreInRange (get_or models.tables k []) vs

-- the settings of a run, the index of a model, values of its options, the number of processes, if there is one, the program and
-- the paths of files that the texts give. The options of all models have values
pub record GiveRun (models : Models) (given : Given) (texts : List Text) (s : RunSettings) (k : ℕ) (vs : List ℕ) (l : Option ℕ) (p : Option ProgramChoice) (fs : List OptionPath) : Type 0 where
  pub settings : GiveRunSettings given s
  pub model : GiveModel models given k vs
  pub processes : value_given given lps ≡ l
  pub program : GiveProgram models given texts p
  pub paths : GivePaths given models.files fs
  pub all_good : first_bad_of_run models given texts ≡ None

-- the settings of a replay, the index of a model, values of its options, the program and the paths that the texts give
pub record GiveReplay (models : Models) (given : Given) (texts : List Text) (s : ReplaySettings) (k : ℕ) (vs : List ℕ) (l : Option ℕ) (p : Option ProgramChoice) (fs : List OptionPath) : Type 0 where
  pub settings : GiveReplaySettings given s
  pub model : GiveModel models given k vs
  pub processes : value_given given lps ≡ l
  pub program : GiveProgram models given texts p
  pub paths : GivePaths given models.files fs
  pub all_good : first_bad_of_replay models given texts ≡ None

-- the words are those of a run with these settings, model, values, program and paths
pub record AskRunWith (name : Text) (models : Models) (words : List Text) (s : RunSettings) (k : ℕ) (vs : List ℕ) (l : Option ℕ) (p : Option ProgramChoice) (fs : List OptionPath) : Type 0 where
  pub run : AreBy (app_for name models) (codes "run") words
  pub options : GiveRun models (given_by (app_for name models) words) (texts_by (app_for name models) words (codes "set")) s k vs l p fs

-- the words are those of a replay with these settings, model, values, program and paths
pub record AskReplayWith (name : Text) (models : Models) (words : List Text) (s : ReplaySettings) (k : ℕ) (vs : List ℕ) (l : Option ℕ) (p : Option ProgramChoice) (fs : List OptionPath) : Type 0 where
  pub replay : AreBy (app_for name models) (codes "replay") words
  pub options : GiveReplay models (given_by (app_for name models) words) (texts_by (app_for name models) words (codes "set")) s k vs l p fs
