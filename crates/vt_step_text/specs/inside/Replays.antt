-- What the steps of a replay are answered, and its output.
use Rattle.std.specs.Prelude.{◌≡◌, false, List, [], ◌∷◌, map, if◌then◌else◌}
use Rattle.std.specs.List.{AllByRecursion}
use Rattle.vt_model.specs.promise.Simulation.{Simulation}
use Rattle.vt_steps.specs.declared.step.Step.{Step}
use Rattle.vt_steps.specs.promise.World.{World}
use Rattle.vt_steps.specs.promise.Next.{run, answers}
use Rattle.vt_step_text.specs.declared.reading.NumberedStep.{NumberedStep}
use Rattle.vt_step_text.specs.promise.Replies.{NumberedAnswer}
use Rattle.vt_step_text.specs.promise.Replays.{is_no_step}

module _ {S P : Type 0} (sim : Simulation S P) where
  -- the steps that were taken: those whose answer stands for a step
  abbrev pub steps_taken : List NumberedStep → List NumberedAnswer → List Step
  steps_taken (step ∷ steps) (reply ∷ replies) =
      if is_no_step reply.answer then steps_taken steps replies else step.step ∷ steps_taken steps replies
  steps_taken _ _ = []

  -- what holds of steps that were answered so: the world at the end is that after the steps taken; and where each answer
  -- stands for a step, all steps were taken, and the answers are theirs
  pub record AreRightlyAnswered (world : World P) (steps : List NumberedStep) (replies : List NumberedAnswer) (end : World P) : Type 0 where
    pub taken : end ≡ run sim world (steps_taken steps replies)
    pub all : AllByRecursion (λ reply. is_no_step reply.answer ≡ false) replies → end ≡ run sim world (map (λ step. step.step) steps)
    pub replied : AllByRecursion (λ reply. is_no_step reply.answer ≡ false) replies
        → map (λ reply. reply.answer) replies ≡ answers sim world (map (λ step. step.step) steps)
