-- The command line of a program with the subcommands `run` and `replay`.
use Rattle.std.specs.Prelude.{ℕ, List, [], fold, codes, Option, Some, None, option_map, option_and_then, unwrap_or}
use Rattle.clap.specs.Words.{App, Rule, Text, all_of, first_of, new_app, new_rule, subcommand_of, with_rule, with_subcommand}
use Rattle.clap.specs.declared.builder.action.ArgAction.{ArgAction}
use Rattle.clap.specs.declared.builder.action.ArgAction.TheVariants.{Append, SetTrue}
use Rattle.vt_options.specs.declared.line.Uses.{Uses}
use Rattle.vt_options.specs.declared.line.Uses.TheVariants.{Once, ManyTimes, Flag}

-- an option: its name, and how a line may use it
pub record UsedOption : Type 0 where
  pub name : Text
  pub uses : Uses

abbrev pub once : Text → UsedOption
once name = record { name = name; uses = Once }

abbrev pub many_times : Text → UsedOption
many_times name = record { name = name; uses = ManyTimes }

abbrev pub flag : Text → UsedOption
flag name = record { name = name; uses = Flag }

-- what the parser does with a use
abbrev pub action_by : Uses → Option ArgAction
action_by Once = None
action_by ManyTimes = Some Append
action_by Flag = Some SetTrue

-- how many values a use has
abbrev pub values_by : Uses → ℕ
values_by Flag = 0
values_by _ = 1

-- the parser's rule for an option
abbrev pub option_rule : UsedOption → Rule
option_rule o = record (new_rule o.name) { long = Some o.name; value_names = values_by o.uses; action = action_by o.uses }

-- a command with these options
abbrev pub with_options : App → List UsedOption → App
with_options app options = fold (λ a o. with_rule a (option_rule o)) app options

-- a program's command line, as its parser reads it: two subcommands, `run` and `replay`, each with its options
abbrev pub program_app : Text → List UsedOption → List UsedOption → App
program_app name run replay =
    with_subcommand
    (with_subcommand (new_app name) (with_options (new_app (codes "run")) run).top)
    (with_options (new_app (codes "replay")) replay).top

-- the subcommand that the words name
abbrev pub subcommand_by : App → List Text → Option Text
subcommand_by app words = option_map (λ s. s.0) (subcommand_of app words)

-- the text that the words give to an option
abbrev pub given_by : App → List Text → Text → Option Text
given_by app words name = option_and_then (λ s. first_of name s.1) (subcommand_of app words)

-- all texts that the words give to an option
abbrev pub texts_by : App → List Text → Text → List Text
texts_by app words name = unwrap_or (option_and_then (λ s. all_of name s.1) (subcommand_of app words)) []
