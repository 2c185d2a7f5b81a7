-- What steps are answered, one after the other.
use Rattle.std.proofs.Common.{◌≡◌, Bool, true, false, List, [], ◌∷◌, map, Result, ap, ap₂, sym, ◌∙◌, refl, inl, inr}
use Rattle.std.specs.Prelude.{◌⊎◌, IsTrue, if◌then◌else◌}
use Rattle.std.specs.List.{AllByRecursion}
use Rattle.vt_key.specs.declared.fault.Fault.{Fault}
use Rattle.vt_model.specs.promise.Simulation.{Simulation}
use Rattle.vt_steps.specs.declared.step.Step.{Step}
use Rattle.vt_steps.specs.declared.step.Reply.{Reply}
use Rattle.vt_steps.specs.promise.World.{World}
use Rattle.vt_steps.specs.promise.Next.{next, run, answers}
use Rattle.vt_step_text.specs.declared.reading.NumberedStep.{NumberedStep}
use Rattle.vt_step_text.specs.promise.Replies.{NumberedAnswer}
use Rattle.vt_step_text.specs.promise.Replays.{is_no_step, world_after, AreAnswered}
use Rattle.vt_step_text.specs.inside.Replays.{steps_taken, AreRightlyAnswered}

module _ {S P : Type 0} (sim : Simulation S P) where
  run_more : (world : World P) (step : Step) (steps : List Step) → run sim world (step ∷ steps) ≡ run sim (next sim world step).world steps
  unfolding run
  run_more world step steps = refl

  run_none : (world : World P) → run sim world [] ≡ world
  unfolding run
  run_none world = refl

  answers_more : (world : World P) (step : Step) (steps : List Step) → answers sim world (step ∷ steps) ≡ (next sim world step).answer ∷ answers sim (next sim world step).world steps
  unfolding answers
  answers_more world step steps = refl

  answers_none : (world : World P) → answers sim world [] ≡ []
  unfolding answers
  answers_none world = refl

  one_taken : (world end : World P) (step : Step) (rest : List Step) (b : Bool) → end ≡ run sim (if b then world else (next sim world step).world) rest → end ≡ run sim world (if b then rest else step ∷ rest)
  one_taken world end step rest true e = e
  one_taken world end step rest false e = e ∙ sym (run_more world step rest)

  taken : (world end : World P) (steps : List NumberedStep) (replies : List NumberedAnswer) → AreAnswered sim world steps replies end → end ≡ run sim world (steps_taken sim steps replies)
  taken world end [] [] h = h ∙ sym (run_none world)
  taken world end [] (reply ∷ replies) h = absurd h
  taken world end (step ∷ steps) [] h = absurd h
  taken world end (step ∷ steps) (reply ∷ replies) h =
      one_taken world end step.step (steps_taken sim steps replies) (is_no_step reply.answer) (taken (world_after sim world step.step reply.answer) end steps replies h.1)

  abbrev Stand : List NumberedAnswer → Type 0
  Stand replies = AllByRecursion (λ reply. is_no_step reply.answer ≡ false) replies

  after : (world : World P) (step : Step) (answer : Result Reply Fault) → is_no_step answer ≡ false → world_after sim world step answer ≡ (next sim world step).world
  after world step answer e = rw e refl

  answered : (world : World P) (step : NumberedStep) (reply : NumberedAnswer) → is_no_step reply.answer ≡ false → IsTrue (is_no_step reply.answer) ⊎ (reply.answer ≡ (next sim world step.step).answer) → reply.answer ≡ (next sim world step.step).answer
  answered world step reply e (inl none) = absurd cc
  answered world step reply e (inr is) = is

  all_taken : (world end : World P) (steps : List NumberedStep) (replies : List NumberedAnswer) → AreAnswered sim world steps replies end → Stand replies → end ≡ run sim world (map (λ step. step.step) steps)
  all_taken world end [] [] h stand = h ∙ sym (run_none world)
  all_taken world end [] (reply ∷ replies) h stand = absurd h
  all_taken world end (step ∷ steps) [] h stand = absurd h
  all_taken world end (step ∷ steps) (reply ∷ replies) h stand =
      all_taken (world_after sim world step.step reply.answer) end steps replies h.1 stand.1
      ∙ ap (λ (w : World P). run sim w (map (λ s. s.step) steps)) (after world step.step reply.answer stand.0) ∙ sym (run_more world step.step (map (λ s. s.step) steps))

  all_answered : (world end : World P) (steps : List NumberedStep) (replies : List NumberedAnswer) → AreAnswered sim world steps replies end → Stand replies
      → map (λ reply. reply.answer) replies ≡ answers sim world (map (λ step. step.step) steps)
  all_answered world end [] [] h stand = sym (answers_none world)
  all_answered world end [] (reply ∷ replies) h stand = absurd h
  all_answered world end (step ∷ steps) [] h stand = absurd h
  all_answered world end (step ∷ steps) (reply ∷ replies) h stand =
      let rest = all_answered (world_after sim world step.step reply.answer) end steps replies h.1 stand.1 in
      ap₂ (λ (a : Result Reply Fault) (l : List (Result Reply Fault)). a ∷ l) (answered world step reply stand.0 h.0.answer)
      (rest ∙ ap (λ (w : World P). answers sim w (map (λ s. s.step) steps)) (after world step.step reply.answer stand.0))
      ∙ sym (answers_more world step.step (map (λ s. s.step) steps))

  pub rightly_answered : (world end : World P) (steps : List NumberedStep) (replies : List NumberedAnswer) → AreAnswered sim world steps replies end → AreRightlyAnswered sim world steps replies end
  rightly_answered world end steps replies h = record {
    taken = taken world end steps replies h;
    all = all_taken world end steps replies h;
    replied = all_answered world end steps replies h;
  }
