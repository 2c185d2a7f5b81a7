-- The output of a replay, how much of it a replay writes that is refused, and the input of which it is made.
-- ---- the output
use Rattle.std.specs.Prelude.{◌≡◌, ◌≤◌, ⊤, ℕ, IsTrue, List, ◌∷◌, length, Option, IfSome, Result, Ok, Err}
use Rattle.std.specs.Io.KnownBytes.{Appends, Keeps}
use Rattle.vt_key.specs.declared.fault.Fault.{Fault}
use Rattle.vt_model.specs.declared.settings.Config.{Config}
use Rattle.vt_model.specs.promise.Handler.{Handlers}
use Rattle.vt_model.specs.promise.Simulation.{Simulation, simulation_of}
use Rattle.vt_steps.specs.declared.step.Step.{Step}
use Rattle.vt_steps.specs.declared.step.Reply.{Reply}
use Rattle.vt_steps.specs.promise.Next.{next}
use Rattle.vt_steps.specs.promise.World.{World, opening_world}
use Rattle.vt_kernel.specs.promise.Refusals.{IsSpent, PassesLimit}
use Rattle.vt_text.specs.declared.version.Version.{Version}
use Rattle.vt_text.specs.promise.Writing.{AppendsBeginning}
use Rattle.vt_step_text.specs.declared.limits.TheConstants.{MAX_INPUT}
use Rattle.vt_step_text.specs.declared.reading.NumberedStep.{NumberedStep}
use Rattle.vt_step_text.specs.promise.StepText.{steps_of}
use Rattle.vt_step_text.specs.promise.Replies.{NumberedAnswer, replies_text}
use Rattle.vt_step_text.specs.promise.Replays.{is_no_step, world_after, AreAnswered, IsOutput}

module _ {S P : Type 0} (sim : Simulation S P) where
  -- what an answer says of counters and memory: a step that is done takes no counter past its limit; an answer that stands for
  -- no step is one of a lawful step that can't be done in its world, for that very reason
  abbrev pub IsExact : World P → Step → Result Reply Fault → Type 0
  IsExact world step (Ok reply) = PassesLimit sim step (next sim world step).world → ⊥
  IsExact world step (Err fault) = IsTrue (is_no_step (Err fault)) → IsSpent sim step world fault

  -- each answer is exact: it is `refused 5` exactly if the step is lawful and would take a counter past its limit
  abbrev pub AreExact : World P → List NumberedStep → List NumberedAnswer → Type 0
  AreExact world (step ∷ steps) (reply ∷ replies) =
      IsExact world step.step reply.answer × AreExact (world_after sim world step.step reply.answer) steps replies
  AreExact world _ _ = ⊤

  -- the steps of lines are answered so by a kernel that does each step that it can, from one world on to another
  pub record AreReplies (world : World P) (steps : List NumberedStep) (replies : List NumberedAnswer) (end : World P) : Type 0 where
    pub answered : AreAnswered sim world steps replies end
    pub exact : AreExact world steps replies

  -- a text may be the output of a replay of these steps, with a version of the text of records, from the opening world with
  -- these first serials
  pub record IsReplayText (version : Version) (serial : ℕ) (steps : List NumberedStep) (text : List ℕ) : Type 0 where
    pub output : IsOutput sim version serial steps text
    pub exact : AreExact (opening_world sim serial) steps output.replies

  -- a text may be the lines of the answers in such an output, without what the world shows
  pub record IsRepliesText (serial : ℕ) (steps : List NumberedStep) (text : List ℕ) : Type 0 where
    pub replies : List NumberedAnswer
    pub end : World P
    pub are : AreReplies (opening_world sim serial) steps replies end
    pub lines : text ≡ replies_text replies

-- a text may be the output of a replay of a model, with a version of the text of records
abbrev pub IsReplayOf : {S P K : Type 0} → Version → Handlers S P K → Config → ℕ → List NumberedStep → List ℕ → Type 0
IsReplayOf version handlers config serial steps text = IsReplayText (simulation_of handlers config) version serial steps text

-- a text may be the lines of the answers in a replay of a model
abbrev pub AreRepliesOf : {S P K : Type 0} → Handlers S P K → Config → ℕ → List NumberedStep → List ℕ → Type 0
AreRepliesOf handlers config serial steps text = IsRepliesText (simulation_of handlers config) serial steps text

-- ---- how much of it was written

-- a right text was written
pub record Writes (IsRight : List ℕ → Type 0) (old new : Option (List ℕ)) : Type 0 where
  pub text : List ℕ
  pub right : IsRight text
  pub written : Appends old new text

-- a beginning of a right text was written, and the rest of it was not
pub record Begins (IsRight : List ℕ → Type 0) (old new : Option (List ℕ)) : Type 0 where
  pub text : List ℕ
  pub right : IsRight text
  pub begun : AppendsBeginning old new text

-- ---- the input

-- a reader whose bytes are known gave exactly these, and they are no more than a step text may have
pub record GivesText (remaining : Option (List ℕ)) (text : List ℕ) : Type 0 where
  pub told : IfSome remaining (λ bytes. text ≡ bytes)
  pub within : length text ≤ MAX_INPUT

-- the reader gave a step text of these steps
pub record GivesSteps (config : Config) (remaining : Option (List ℕ)) (steps : List NumberedStep) : Type 0 where
  pub text : List ℕ
  pub given : GivesText remaining text
  pub said : steps_of config.lps config.workers text ≡ Ok steps

-- the reader gave a text whose first bad line is this one
pub record GivesBadLine (config : Config) (remaining : Option (List ℕ)) (line : ℕ) : Type 0 where
  pub text : List ℕ
  pub given : GivesText remaining text
  pub said : steps_of config.lps config.workers text ≡ Err line

-- ---- a whole replay, with a config, of a model for which these are the right outputs and lines of answers

-- the reader gave a step text, and the output of its steps was written
pub record ReplaysBy (config : Config) (IsRight : List NumberedStep → List ℕ → Type 0) (remaining old new : Option (List ℕ)) : Type 0 where
  pub steps : List NumberedStep
  pub given : GivesSteps config remaining steps
  pub output : Writes (IsRight steps) old new

-- the reader gave a step text, and a beginning of the output of its steps was written
pub record BeginsReplayBy (config : Config) (IsRight : List NumberedStep → List ℕ → Type 0) (remaining old new : Option (List ℕ)) : Type 0 where
  pub steps : List NumberedStep
  pub given : GivesSteps config remaining steps
  pub output : Begins (IsRight steps) old new

-- the reader gave a step text, and the lines of the answers of its steps were written, and nothing of what the world shows
pub record WritesRepliesBy (config : Config) (AreRight : List NumberedStep → List ℕ → Type 0) (remaining old new : Option (List ℕ)) : Type 0 where
  pub steps : List NumberedStep
  pub given : GivesSteps config remaining steps
  pub lines : Writes (AreRight steps) old new

-- the reader gave a step text, the starts would make too many events, and nothing was written
pub record StopsUnopenedBy (config : Config) (OpensLate : Type 0) (remaining old new : Option (List ℕ)) : Type 0 where
  pub steps : List NumberedStep
  pub given : GivesSteps config remaining steps
  pub late : OpensLate
  pub kept : Keeps old new

-- the reader gave a text with this first bad line, and nothing was written
pub record StopsAtBadLineBy (config : Config) (remaining : Option (List ℕ)) (line : ℕ) (old new : Option (List ℕ)) : Type 0 where
  pub given : GivesBadLine config remaining line
  pub kept : Keeps old new
