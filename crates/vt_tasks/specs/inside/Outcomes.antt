-- What a program does with the words of a command line and with what a reader gives, and what it may write to.
use Rattle.std.specs.Prelude.{◌≡◌, List, None, codes}
use Rattle.clap.specs.Words.{Text}
use Rattle.vt_options.specs.promise.Requests.{AreBy}
use Rattle.vt_tasks.specs.promise.Outcomes.{Program}

-- what the words ask for is what its command line says
pub record IsAskedByLine (p : Program) : Type 0 where
  pub run : (words : List Text) (r : p.Run) → p.AskRun words r → AreBy p.line.app (codes "run") words × (p.line.bad_of_run words ≡ None)
  pub replay : (words : List Text) (r : p.Replay) → p.AskReplay words r → AreBy p.line.app (codes "replay") words × (p.line.bad_of_replay words ≡ None)
