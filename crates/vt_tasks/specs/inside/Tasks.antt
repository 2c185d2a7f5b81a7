-- What a task does with a model, and what it did where it was refused.
use Rattle.std.specs.Prelude.{◌≤◌, ⊤, ℕ, List, Option}
use Rattle.std.specs.Io.KnownBytes.{Keeps}
use Rattle.vt_key.specs.declared.fault.Fault.{Fault}
use Rattle.vt_key.specs.declared.limits.TheConstants.{MAX_COUNT}
use Rattle.vt_model.specs.promise.Handler.{Handlers}
use Rattle.vt_options.specs.declared.choices.Task.{Task}
use Rattle.vt_options.specs.declared.choices.Task.TheVariants.{Run, Replay}
use Rattle.vt_tasks.specs.inside.Runs.{WritesWhole, StopsAsSet}
use Rattle.vt_tasks.specs.inside.Replays.{ReplaysAsSet, EndsReplayAsSet}

-- the serials of a replay begin within their limit
abbrev pub BeginsWithinLimit : Task → Type 0
BeginsWithinLimit (Run s) = ⊤
BeginsWithinLimit (Replay s) = s.serial ≤ MAX_COUNT

-- a run reads nothing
abbrev pub KeepsInput : Task → Option (List ℕ) → Option (List ℕ) → Type 0
KeepsInput (Run s) old new = Keeps old new
KeepsInput (Replay s) old new = ⊤

module _ {S P K : Type 0} (handlers : Handlers S P K) where
  -- the text of the run was written, or the output of the steps that the reader gave
  abbrev pub IsTaskDone : Task → Option (List ℕ) → Option (List ℕ) → Option (List ℕ) → Type 0
  IsTaskDone (Run s) remaining old new = WritesWhole handlers s old new
  IsTaskDone (Replay s) remaining old new = ReplaysAsSet handlers s remaining old new

  -- what was done where it was refused
  abbrev pub TaskEnds : Task → Option (List ℕ) → Option (List ℕ) → Option (List ℕ) → Fault → Type 0
  TaskEnds (Run s) remaining old new fault = StopsAsSet handlers s old new fault
  TaskEnds (Replay s) remaining old new fault = EndsReplayAsSet handlers s remaining old new fault
