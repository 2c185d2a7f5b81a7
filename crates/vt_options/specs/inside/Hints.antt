-- Lines for a terminal on a command line that is refused.
use Rattle.std.specs.Prelude.{◌≡◌, ◌⊎◌, ℕ, ◌<◌, ◌≤◌, List, ◌++◌, Option, Some, None, codes}
use Rattle.std.specs.Fmt.{decimal}
use Rattle.clap.specs.Words.{Text}
use Rattle.vt_options.specs.declared.choices.RunSettings.{RunSettings}
use Rattle.vt_options.specs.declared.limits.TheConstants.{MAX_TURNS}
use Rattle.vt_options.specs.declared.programs.ProgramChoice.{ProgramChoice}
use Rattle.vt_options.specs.promise.Line.{given_by, subcommand_by, texts_by}
use Rattle.vt_options.specs.promise.Own.{Models, AskRunWith, OptionPath}
use Rattle.vt_options.specs.inside.Programs.{SetsNothing}
use Rattle.vt_options.specs.promise.Requests.{IsRefusedAsOf, IsUnreadableBy, Line}
use Rattle.vt_options.specs.inside.Shown.{IsShownSentence, IsShownWord}

-- where to read what is allowed
abbrev pub see_help : Text → Text
see_help program = codes "; " ++ (program ++ codes " --help says what is allowed")

-- there is no command
abbrev pub no_command : Text → Text
no_command program = program ++ (codes ": there is no command" ++ see_help program)

-- what the parser says of words that it refuses
abbrev pub parser_says : Text → Text → Text
parser_says program said = program ++ (codes ": " ++ (said ++ see_help program))

-- which values an option takes, and the word that it was given
abbrev pub option_takes : Text → Text → Text → Text → Text
option_takes program name takes word = program ++ (codes ": --" ++ (name ++ (codes " takes " ++ (takes ++ (codes ", not '" ++ (word ++ codes "'"))))))

-- how many turns allow more than these
abbrev pub more_turns : Text → ℕ → ℕ → Text
more_turns program more turns = program ++ (codes ": --turns " ++ (decimal more ++ (codes " allows more than " ++ decimal turns)))

-- a line tells the option of this name, and shows the word that the words give it: of `set` one that sets nothing
pub record TellsWord (program : Text) (line : Line) (words : List Text) (name text : Text) : Type 0 where
  pub takes : Text
  pub word : Text
  pub given : (given_by line.app words name ≡ Some word) ⊎ ((name ≡ codes "set") × SetsNothing (texts_by line.app words (codes "set")) word)
  pub shown : Text
  pub shown_is : IsShownWord word shown
  pub text_is : text ≡ option_takes program name takes shown

-- the flag for final values needs a version of the text
abbrev pub finals_need : Text → Text
finals_need program = program ++ codes ": --finals needs --text 2"

-- a line tells that the flag for final values can't be used
pub record TellsFinals (program name text : Text) : Type 0 where
  pub flag : name ≡ codes "finals"
  pub text_is : text ≡ finals_need program

-- a line tells that there is no command
pub record TellsNoCommand (program : Text) (line : Line) (words : List Text) (text : Text) : Type 0 where
  pub none : subcommand_by line.app words ≡ None
  pub text_is : text ≡ no_command program

-- a line shows what the parser says of words that it can't read
pub record TellsUnreadable (program : Text) (line : Line) (words : List Text) (text : Text) : Type 0 where
  pub unreadable : IsUnreadableBy line.app words
  pub said : Text
  pub shown : Text
  pub shown_is : IsShownSentence said shown
  pub text_is : text ≡ parser_says program shown

-- a line tells what is wrong with words that are refused under a name
abbrev pub Tells : Text → Line → List Text → Text → Text → Type 0
Tells program line words name text = TellsWord program line words name text ⊎ (TellsNoCommand program line words text ⊎ (TellsUnreadable program line words text ⊎ TellsFinals program name text))

-- a line tells why the words are refused under a name
pub record IsHintOn (program : Text) (line : Line) (words : List Text) (text : Text) : Type 0 where
  pub name : Text
  pub refused : IsRefusedAsOf line words name
  pub told : Tells program line words name text

-- a line tells how many turns allow more than those of the run that the words ask for
pub record TellsTurns (program : Text) (models : Models) (words : List Text) (text : Text) : Type 0 where
  pub settings : RunSettings
  pub model : ℕ
  pub values : List ℕ
  pub lps : Option ℕ
  pub choice : Option ProgramChoice
  pub paths : List OptionPath
  pub asked : AskRunWith program models words settings model values lps choice paths
  pub more : ℕ
  pub is_more : settings.turns < more
  pub allowed : more ≤ MAX_TURNS
  pub text_is : text ≡ more_turns program more settings.turns
