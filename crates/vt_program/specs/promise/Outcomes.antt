-- What the program does with the words of a command line and with what a reader gives, and what it may write to.
use Rattle.std.specs.Prelude.{ℕ, List, Option, codes}
use Rattle.clap.specs.Words.{Text}
use Rattle.vt_key.specs.declared.fault.Fault.{Fault}
use Rattle.vt_command.specs.promise.Table.{twarp_models}
use Rattle.vt_tasks.specs.promise.Outcomes.{Program, IsDoneBy, IsReadBy, AskBadLine}
use Rattle.vt_tasks.specs.promise.Models.{EndsFor, program_of}
use Rattle.vt_program.specs.promise.Models.{meaning_of, Makes}
use Rattle.vt_program.specs.promise.Programs.{Told}

-- the program of the three models and of programs in their place, by what is known of files
abbrev pub twarp : Told → Program
twarp told = program_of meaning_of (Makes told) (codes "twarp") twarp_models

module _ (told : Told) where
  -- what the words ask for was done
  abbrev pub IsDoneByTwarp : List Text → Option (List ℕ) → Option (List ℕ) → Option (List ℕ) → Type 0
  IsDoneByTwarp words remaining old new = IsDoneBy (twarp told) words remaining old new

  -- what was done where it ended with a refusal
  abbrev pub EndsBy : Fault → List Text → Option (List ℕ) → Option (List ℕ) → Option (List ℕ) → Type 0
  EndsBy fault words remaining old new = EndsFor meaning_of (Makes told) (codes "twarp") twarp_models fault words remaining old new

  -- the reader was kept, or the words ask for a replay
  abbrev pub IsRead : List Text → Option (List ℕ) → Option (List ℕ) → Type 0
  IsRead words remaining left = IsReadBy (twarp told) words remaining left

  -- the words ask for a replay, and whichever they ask for, the reader tells bytes that are a step text with a bad line
  abbrev pub AskWithBadLine : List Text → Option (List ℕ) → Type 0
  AskWithBadLine words remaining = AskBadLine (twarp told) words remaining
