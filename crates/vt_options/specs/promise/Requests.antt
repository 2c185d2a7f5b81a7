-- What the words of a program's command line ask for, and why they are refused.
use Rattle.std.specs.Prelude.{◌≡◌, ◌≢◌, ◌⊎◌, List, [], Option, Some, codes}
use Rattle.clap.specs.Words.{App, Text, fault_of, IsAmong}
use Rattle.clap.specs.declared.error.kind.ErrorKind.{ErrorKind}
use Rattle.clap.specs.declared.error.kind.ErrorKind.TheVariants as kind
use Rattle.vt_options.specs.promise.Line.{subcommand_by}

-- a command line with `run` and `replay`: its parser, and which bad option is named of the words of a run or a replay
pub record Line : Type 0 where
  pub app : App
  pub bad_of_run : List Text → Option Text
  pub bad_of_replay : List Text → Option Text

-- the words ask for help
abbrev pub AskHelpOf : App → List Text → Type 0
AskHelpOf app words = IsAmong kind.DisplayHelp (fault_of app words)

-- the words are those of this subcommand, whatever its options
pub record AreBy (app : App) (name : Text) (words : List Text) : Type 0 where
  pub accepted : fault_of app words ≡ []
  pub subcommand : subcommand_by app words ≡ Some name

-- the words are those of a subcommand with a bad option, the first of which has this name
pub record HasBadBy (app : App) (subcommand : Text) (first_bad : List Text → Option Text) (words : List Text) (name : Text) : Type 0 where
  pub are : AreBy app subcommand words
  pub bad : first_bad words ≡ Some name

-- the words have a bad option, the first of which has this name
abbrev pub HasBadOptionOf : Line → List Text → Text → Type 0
HasBadOptionOf line words name = HasBadBy line.app (codes "run") line.bad_of_run words name ⊎ HasBadBy line.app (codes "replay") line.bad_of_replay words name

-- the parser of command lines refuses the words, for something else than a request for help
abbrev pub IsUnreadableBy : App → List Text → Type 0
IsUnreadableBy app words = (k : ErrorKind) × (k ≢ kind.DisplayHelp) × IsAmong k (fault_of app words)

-- the parser takes the words, and they name neither `run` nor `replay`
pub record NamesNoneOf (app : App) (words : List Text) : Type 0 where
  pub accepted : fault_of app words ≡ []
  pub no_run : subcommand_by app words ≢ Some (codes "run")
  pub no_replay : subcommand_by app words ≢ Some (codes "replay")

-- the words have no meaning as a command line
abbrev pub HasNoMeaningBy : App → List Text → Type 0
HasNoMeaningBy app words = IsUnreadableBy app words ⊎ NamesNoneOf app words

-- the words are refused under this name: as a command line, or for their first bad option
abbrev pub IsRefusedAsOf : Line → List Text → Text → Type 0
IsRefusedAsOf line words name = ((name ≡ codes "command-line") × HasNoMeaningBy line.app words) ⊎ HasBadOptionOf line words name
