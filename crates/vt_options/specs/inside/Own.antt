-- The options of models, as tables, and a command line with them.
-- ---- the table of one model
use Rattle.std.specs.Prelude.{◌≡◌, ◌⊎◌, true, List, ◌++◌, map, Option, Some, None}
use Rattle.std.specs.List.{list_all}
use Rattle.clap.specs.Words.{Text}
use Rattle.vt_key.specs.declared.fault.Fault.{Fault}
use Rattle.vt_key.specs.declared.fault.Fault.TheVariants.{Memory}
use Rattle.vt_key.specs.promise.Faults.{fault_number, option_named}
use Rattle.vt_options.specs.declared.own.FileOption.{FileOption}
use Rattle.vt_options.specs.declared.own.ModelOptions.{ModelOptions}
use Rattle.vt_options.specs.declared.own.ModelTable.{ModelTable}
use Rattle.vt_options.specs.declared.texts.OptionText.{OptionText}
use Rattle.vt_options.specs.inside.Line.{valued_names}
use Rattle.vt_options.specs.promise.Table.{NumberOption}
use Rattle.vt_options.specs.promise.Line.{UsedOption, once}
use Rattle.vt_options.specs.promise.Own.{number_table, has_default, Naming, Models, naming_names, table_names, program_options, run_options, replay_options}

-- memory was refused, or a bad option is named
abbrev pub NamesBad : Option Text → Fault → Type 0
NamesBad name fault = (fault ≡ Memory) ⊎ ((fault_number fault ≡ 7) × (option_named fault ≡ name))

-- ---- options that are files

abbrev pub file_names : List FileOption → List Text
file_names files = map (λ o. o.name.now) files

-- ---- the tables of several models

-- the models of a table
abbrev pub naming_of : Option OptionText → List Text → Option Naming
naming_of None names = None
naming_of (Some o) names = Some (record { option = o.name.now; names = names })

abbrev pub model_names : List ModelOptions → List Text
model_names models = map (λ m. m.name.now) models

abbrev pub tables_of : List ModelOptions → List (List NumberOption)
tables_of models = map (λ m. number_table m.options.now) models

abbrev pub models_of : ModelTable → Models
models_of t = record { naming = naming_of t.naming (model_names t.models.now); tables = tables_of t.models.now; files = file_names t.files.now; programs = t.programs }

-- each default of each model is in its range
abbrev pub AllHaveDefaults : List ModelOptions → Type 0
AllHaveDefaults models = list_all (λ m. list_all has_default m.options.now) models ≡ true

-- ---- a program in the place of a model

-- ---- the command line

-- the options of a subcommand that has these before and behind those of models and files
abbrev pub options_round : Models → List UsedOption → List UsedOption → List UsedOption
options_round models first last = map once (naming_names models.naming) ++ (first ++ (map once (table_names models.tables) ++ (map once models.files ++ (last ++ program_options models.programs))))

-- the names of those that take a value
abbrev pub run_names : Models → List Text
run_names models = valued_names (run_options models)

abbrev pub replay_names : Models → List Text
replay_names models = valued_names (replay_options models)
