-- What a program does with the words of a command line and with what a reader gives, and what it may write to.
use Rattle.std.specs.Prelude.{◌≡◌, ◌<◌, ◌⊎◌, ℕ, List, Option, Some, Err, codes}
use Rattle.std.specs.Io.KnownBytes.{Appends, Keeps}
use Rattle.clap.specs.Words.{App, Text}
use Rattle.vt_key.specs.promise.Times.{Time}
use Rattle.vt_key.specs.declared.fault.Fault.{Fault}
use Rattle.vt_key.specs.declared.fault.Fault.TheVariants.{Memory, Busy, Exhausted, TurnsSpent, BadOption, BadStep, Output}
use Rattle.vt_model.specs.declared.settings.Config.{Config}
use Rattle.vt_text.specs.promise.Writing.{AppendsBeginning}
use Rattle.vt_options.specs.declared.choices.Synch.{Synch}
use Rattle.vt_options.specs.declared.choices.Synch.TheVariants.{Sequential, Optimistic}
use Rattle.vt_options.specs.promise.Requests.{Line, AskHelpOf, IsRefusedAsOf}
use Rattle.vt_tasks.specs.promise.Runs.{WritesBelow, WritesBeginning}
use Rattle.vt_step_text.specs.declared.reading.NumberedStep.{NumberedStep}
use Rattle.vt_step_text.specs.promise.StepText.{steps_of}
use Rattle.vt_tasks.specs.promise.Replays.{ReplaysBy, BeginsReplayBy, WritesRepliesBy, StopsUnopenedBy, StopsAtBadLineBy}

-- a program: its command line, what the words of a run and of a replay ask for, and what these write
pub record Program : Type 1 where
  pub line : Line
  pub Run : Type 0
  pub Replay : Type 0
  pub AskRun : List Text → Run → Type 0
  pub AskReplay : List Text → Replay → Type 0
  pub synch_of : Run → Synch
  pub workers_of : Run → ℕ
  pub text_of : Run → List ℕ
  pub text_below : Run → Time → List ℕ
  pub Passes : Run → Type 0
  pub config_of : Replay → Config
  pub IsOutput : Replay → List NumberedStep → List ℕ → Type 0
  pub AreLines : Replay → List NumberedStep → List ℕ → Type 0
  pub OpensLate : Replay → Type 0

module _ (app : App) (words : List Text) (old new : Option (List ℕ)) where
  -- the words ask for help, and a text was written
  pub record WritesHelp : Type 0 where
    pub asked : AskHelpOf app words
    pub text : List ℕ
    pub written : Appends old new text

  -- the words ask for help, and a beginning of a text was written
  pub record BeginsHelp : Type 0 where
    pub asked : AskHelpOf app words
    pub text : List ℕ
    pub begun : AppendsBeginning old new text

module _ (p : Program) (words : List Text) where
  -- the words ask for a run, and its text was written
  pub record WritesRun (old new : Option (List ℕ)) : Type 0 where
    pub options : p.Run
    pub asked : p.AskRun words options
    pub written : Appends old new (p.text_of options)

  -- the words ask for a replay, and the output of the steps that the reader gave was written
  pub record WritesReplay (remaining old new : Option (List ℕ)) : Type 0 where
    pub options : p.Replay
    pub asked : p.AskReplay words options
    pub replayed : ReplaysBy (p.config_of options) (p.IsOutput options) remaining old new

  -- the words ask for a replay, and the lines of the answers to the steps that the reader gave were written
  pub record WritesLines (remaining old new : Option (List ℕ)) : Type 0 where
    pub options : p.Replay
    pub asked : p.AskReplay words options
    pub written : WritesRepliesBy (p.config_of options) (p.AreLines options) remaining old new

  -- the words ask for a run, and a beginning of its text was written
  pub record BeginsRun (old new : Option (List ℕ)) : Type 0 where
    pub options : p.Run
    pub asked : p.AskRun words options
    pub begun : AppendsBeginning old new (p.text_of options)

  -- the words ask for a replay, and a beginning of the output of the steps that the reader gave was written
  pub record BeginsOutput (remaining old new : Option (List ℕ)) : Type 0 where
    pub options : p.Replay
    pub asked : p.AskReplay words options
    pub begun : BeginsReplayBy (p.config_of options) (p.IsOutput options) remaining old new

  -- the words ask for a sequential run, and a beginning of its text was written
  pub record StopsMidway (old new : Option (List ℕ)) : Type 0 where
    pub options : p.Run
    pub asked : p.AskRun words options
    pub sequential : p.synch_of options ≡ Sequential
    pub begun : WritesBeginning (p.text_of options) old new

  -- the words ask for a sequential run, some step of which would take a send number past its limit, and a beginning of its text
  -- was written
  pub record StopsEarly (old new : Option (List ℕ)) : Type 0 where
    pub options : p.Run
    pub asked : p.AskRun words options
    pub sequential : p.synch_of options ≡ Sequential
    pub passes : p.Passes options
    pub begun : WritesBeginning (p.text_of options) old new

  -- the words ask for a run in threads, and its text below some time was written
  pub record StopsPartWay (old new : Option (List ℕ)) : Type 0 where
    pub options : p.Run
    pub asked : p.AskRun words options
    pub optimistic : p.synch_of options ≡ Optimistic
    pub committed : WritesBelow (p.text_below options) (p.text_of options) old new

  -- the same of a run of more than one worker
  pub record StopsUnread (old new : Option (List ℕ)) : Type 0 where
    pub part : StopsPartWay old new
    pub others : 1 < p.workers_of part.options

  -- the words ask for a replay, whose world can't be made, and nothing was written
  pub record StopsReplayEarly (remaining old new : Option (List ℕ)) : Type 0 where
    pub options : p.Replay
    pub asked : p.AskReplay words options
    pub stopped : StopsUnopenedBy (p.config_of options) (p.OpensLate options) remaining old new

  -- the words are refused under this name, and nothing was written
  pub record RefusesWords (name : Text) (old new : Option (List ℕ)) : Type 0 where
    pub refused : IsRefusedAsOf p.line words name
    pub kept : Keeps old new

  -- the words ask for a replay, whose input is refused, and nothing was written
  pub record RefusesInput (name : Text) (old new : Option (List ℕ)) : Type 0 where
    pub options : p.Replay
    pub asked : p.AskReplay words options
    pub input : name ≡ codes "input"
    pub kept : Keeps old new

  -- the words ask for a replay, the text that the reader gave has this first bad line, and nothing was written
  pub record RefusesLine (remaining : Option (List ℕ)) (line : ℕ) (old new : Option (List ℕ)) : Type 0 where
    pub options : p.Replay
    pub asked : p.AskReplay words options
    pub stopped : StopsAtBadLineBy (p.config_of options) remaining line old new

  -- what the words ask for was done
  abbrev pub IsDoneBy : Option (List ℕ) → Option (List ℕ) → Option (List ℕ) → Type 0
  IsDoneBy remaining old new = WritesHelp p.line.app words old new ⊎ WritesRun old new ⊎ WritesReplay remaining old new

  -- what was done where it ended with a refusal. Where memory was refused nothing was written, or a beginning of the text of a
  -- sequential run, or what a run in threads had committed, or the lines of all answers of a replay
  abbrev pub EndsWith : Fault → Option (List ℕ) → Option (List ℕ) → Option (List ℕ) → Type 0
  EndsWith Memory remaining old new = Keeps old new ⊎ StopsMidway old new ⊎ StopsPartWay old new ⊎ WritesLines remaining old new
  EndsWith Busy remaining old new = StopsUnread old new
  EndsWith Exhausted remaining old new = StopsEarly old new ⊎ StopsPartWay old new ⊎ StopsReplayEarly remaining old new
  EndsWith TurnsSpent remaining old new = StopsPartWay old new
  EndsWith (BadOption name) remaining old new = RefusesWords name.now old new ⊎ RefusesInput name.now old new
  EndsWith (BadStep line) remaining old new = RefusesLine remaining line old new
  EndsWith Output remaining old new = BeginsHelp p.line.app words old new ⊎ BeginsRun old new ⊎ BeginsOutput remaining old new
  EndsWith _ remaining old new = ⊥

  -- the reader was kept, or the words ask for a replay
  abbrev pub IsReadBy : Option (List ℕ) → Option (List ℕ) → Type 0
  IsReadBy remaining left = Keeps remaining left ⊎ ((r : p.Replay) × p.AskReplay words r)

  -- the words ask for a replay, and whichever they ask for, the reader tells bytes that are a step text with a bad line
  pub record AskBadLine (remaining : Option (List ℕ)) : Type 0 where
    pub options : p.Replay
    pub asked : p.AskReplay words options
    pub text : List ℕ
    pub told : remaining ≡ Some text
    pub bad : (r : p.Replay) → p.AskReplay words r → (line : ℕ) × (steps_of (p.config_of r).lps (p.config_of r).workers text ≡ Err line)
