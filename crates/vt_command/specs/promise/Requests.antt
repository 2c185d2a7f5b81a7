-- What the words of a command line ask for, and why they are refused.
use Rattle.std.specs.Prelude.{List, codes}
use Rattle.clap.specs.Words.{Text}
use Rattle.vt_options.specs.promise.Own.{line_for}
use Rattle.vt_options.specs.promise.Requests.{Line, AskHelpOf, IsRefusedAsOf}
use Rattle.vt_command.specs.promise.Line.{twarp_app}
use Rattle.vt_command.specs.promise.Table.{twarp_models}

-- the program's command line: its parser, and which bad option is named
abbrev pub twarp_line : Line
twarp_line = line_for (codes "twarp") twarp_models

-- the words ask for help
abbrev pub AskHelp : List Text → Type 0
AskHelp words = AskHelpOf twarp_app words

-- the words are refused under this name: as a command line, or for their first bad option
abbrev pub IsRefusedAs : List Text → Text → Type 0
IsRefusedAs words name = IsRefusedAsOf twarp_line words name
