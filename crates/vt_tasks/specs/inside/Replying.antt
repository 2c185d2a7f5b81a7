-- What the parts of a replay do with a world.
use Rattle.std.specs.Prelude.{ℕ, List, ◌++◌, Option}
use Rattle.vt_model.specs.promise.Simulation.{Simulation}
use Rattle.vt_model.specs.promise.Sequential.{seq_records}
use Rattle.vt_steps.specs.promise.World.{World, least, book_floor}
use Rattle.vt_text.specs.declared.version.Version.{Version}
use Rattle.vt_text.specs.promise.Writing.{AppendsBeginning}
use Rattle.vt_text.specs.inside.Writing.{AppendsAllButHeld}
use Rattle.vt_step_text.specs.declared.reading.NumberedStep.{NumberedStep}
use Rattle.vt_step_text.specs.promise.Replies.{NumberedAnswer, replies_text, state_text}
use Rattle.vt_tasks.specs.promise.Replays.{AreReplies}

module _ {S P : Type 0} (sim : Simulation S P) where
  -- steps were answered from one world on to another, and the lines of the answers were put behind what was held
  pub record PutsReplies (from : World P) (steps : List NumberedStep) (end : World P) (old new : Option (List ℕ)) (held held' : List ℕ) : Type 0 where
    pub replies : List NumberedAnswer
    pub are : AreReplies sim from steps replies end
    pub put : AppendsAllButHeld old new held' (held ++ replies_text replies)

  -- a beginning was written of what was held and of the lines of answers that steps may have from this world on
  pub record StopsReplies (from : World P) (steps : List NumberedStep) (old new : Option (List ℕ)) (held : List ℕ) : Type 0 where
    pub replies : List NumberedAnswer
    pub end : World P
    pub are : AreReplies sim from steps replies end
    pub begun : AppendsBeginning old new (held ++ replies_text replies)

  -- what a reached world shows, with a version of the text of records
  abbrev pub shown_of : Version → World P → List ℕ
  shown_of version world =
      let floor = book_floor sim.end world.book in
      state_text version world.board.announced floor (least sim.end world) (seq_records sim floor)
