-- The output of a replay, how much of it a replay writes that is refused, and the input of which it is made.
-- ---- the output
use Rattle.std.specs.Prelude.{◌≡◌, ◌⊎◌, ⊤, ℕ, List, Option, codes}
use Rattle.std.specs.Io.KnownBytes.{Keeps}
use Rattle.vt_key.specs.declared.fault.Fault.{Fault}
use Rattle.vt_key.specs.declared.fault.Fault.TheVariants.{Memory, Exhausted, BadOption, BadStep, Output}
use Rattle.vt_model.specs.declared.settings.Config.{Config}
use Rattle.vt_model.specs.promise.Handler.{Handlers}
use Rattle.vt_model.specs.promise.Simulation.{simulation_of}
use Rattle.vt_world.specs.promise.Answers.{PassesAtStart}
use Rattle.vt_options.specs.declared.choices.ReplaySettings.{ReplaySettings}
use Rattle.vt_step_text.specs.declared.reading.NumberedStep.{NumberedStep}
use Rattle.vt_tasks.specs.promise.Replays.{AreReplies, IsReplayOf, AreRepliesOf, Writes, Begins, GivesBadLine, ReplaysBy, BeginsReplayBy, WritesRepliesBy, StopsUnopenedBy, StopsAtBadLineBy}

-- ---- how much of it was written

-- what a replay of steps wrote that was refused. Memory: nothing, where its world could not be made, or the lines of all
-- answers, where what the world shows could not be copied. Where the writer failed, a beginning
abbrev pub StopsReplay : (List ℕ → Type 0) → (List ℕ → Type 0) → Type 0 → Option (List ℕ) → Option (List ℕ) → Fault → Type 0
StopsReplay IsRight AreReplies OpensLate old new Memory = Keeps old new ⊎ Writes AreReplies old new
StopsReplay IsRight AreReplies OpensLate old new Exhausted = OpensLate × Keeps old new
StopsReplay IsRight AreReplies OpensLate old new Output = Begins IsRight old new
StopsReplay IsRight AreReplies OpensLate old new _ = ⊥

-- ---- the input

-- why no steps were read
abbrev pub IsInputRefusal : Config → Option (List ℕ) → Fault → Type 0
IsInputRefusal config remaining Memory = ⊤
IsInputRefusal config remaining (BadOption name) = name.now ≡ codes "input"
IsInputRefusal config remaining (BadStep line) = GivesBadLine config remaining line
IsInputRefusal config remaining _ = ⊥

-- ---- a whole replay, with a config, of a model for which these are the right outputs and lines of answers

-- what a replay did that ended with a refusal
abbrev pub EndsReplayBy : Config → (List NumberedStep → List ℕ → Type 0) → (List NumberedStep → List ℕ → Type 0) → Type 0 → Option (List ℕ) → Option (List ℕ) → Option (List ℕ) → Fault → Type 0
EndsReplayBy config IsRight AreRight OpensLate remaining old new Memory = Keeps old new ⊎ WritesRepliesBy config AreRight remaining old new
EndsReplayBy config IsRight AreRight OpensLate remaining old new Exhausted = StopsUnopenedBy config OpensLate remaining old new
EndsReplayBy config IsRight AreRight OpensLate remaining old new (BadOption name) = (name.now ≡ codes "input") × Keeps old new
EndsReplayBy config IsRight AreRight OpensLate remaining old new (BadStep line) = StopsAtBadLineBy config remaining line old new
EndsReplayBy config IsRight AreRight OpensLate remaining old new Output = BeginsReplayBy config IsRight remaining old new
EndsReplayBy config IsRight AreRight OpensLate remaining old new _ = ⊥

-- ---- a replay of a model, as its settings say

module _ {S P K : Type 0} (handlers : Handlers S P K) (s : ReplaySettings) where
  -- the output of the steps that the reader gave was written
  abbrev pub ReplaysAsSet : Option (List ℕ) → Option (List ℕ) → Option (List ℕ) → Type 0
  ReplaysAsSet = ReplaysBy s.config (λ steps. IsReplayOf s.text handlers s.config s.serial steps)

  -- what a replay that was refused read and wrote
  abbrev pub EndsReplayAsSet : Option (List ℕ) → Option (List ℕ) → Option (List ℕ) → Fault → Type 0
  EndsReplayAsSet =
      EndsReplayBy s.config (λ steps. IsReplayOf s.text handlers s.config s.serial steps) (λ steps. AreRepliesOf handlers s.config s.serial steps) (PassesAtStart (simulation_of handlers s.config) s.serial)
