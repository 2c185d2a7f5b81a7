-- The line for a terminal on a program that is refused.
use Rattle.std.specs.Prelude.{◌≡◌, List, ◌++◌, Some, codes}
use Rattle.clap.specs.Words.{Text}
use Rattle.vt_options.specs.promise.Asked.{AskTaskWith}
use Rattle.vt_options.specs.declared.choices.Task.{Task}
use Rattle.vt_options.specs.declared.own.Chosen.{Chosen}
use Rattle.vt_options.specs.declared.programs.ProgramChoice.{ProgramChoice}
use Rattle.vt_command.specs.promise.Table.{twarp_models}
use Rattle.vt_program.specs.promise.Models.{Refuses}
use Rattle.vt_program.specs.promise.Programs.{Told}

-- the option that is bad, and what is said of it
abbrev pub program_line : Text → Text → Text
program_line option said = codes "twarp: --" ++ (option ++ (codes ": " ++ said))

-- the words ask for a task with a program that is refused for this option, and the line tells it
pub record TellsProgram (told : Told) (words : List Text) (line : Text) : Type 0 where
  pub task : Task
  pub chosen : Chosen
  pub asked : AskTaskWith (codes "twarp") twarp_models words task chosen
  pub program : ProgramChoice
  pub is_chosen : chosen.program ≡ Some program
  pub bad : Text
  pub refused : Refuses told program chosen.lps bad
  pub said : Text
  pub line_is : line ≡ program_line bad said
