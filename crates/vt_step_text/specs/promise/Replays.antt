-- What the steps of a replay are answered, and its output.
use Rattle.std.specs.Prelude.{◌≡◌, ◌⊎◌, ℕ, Bool, true, false, IsTrue, List, [], ◌∷◌, Result, Err, if◌then◌else◌}
use Rattle.vt_key.specs.declared.fault.Fault.{Fault}
use Rattle.vt_key.specs.declared.fault.Fault.TheVariants.{Memory, Exhausted}
use Rattle.vt_model.specs.promise.Simulation.{Simulation}
use Rattle.vt_steps.specs.declared.step.Step.{Step}
use Rattle.vt_steps.specs.declared.step.Reply.{Reply}
use Rattle.vt_steps.specs.promise.World.{World, opening_world, least, book_floor, book_records}
use Rattle.vt_steps.specs.promise.Next.{next}
use Rattle.vt_text.specs.declared.version.Version.{Version}
use Rattle.vt_step_text.specs.declared.reading.NumberedStep.{NumberedStep}
use Rattle.vt_step_text.specs.promise.Replies.{NumberedAnswer, replay_text}

-- an answer that stands for no step: memory was refused, or a counter is spent
abbrev pub is_no_step : Result Reply Fault → Bool
is_no_step (Err Memory) = true
is_no_step (Err Exhausted) = true
is_no_step _ = false

module _ {S P : Type 0} (sim : Simulation S P) where
  -- the world after a step that was answered so
  abbrev pub world_after : World P → Step → Result Reply Fault → World P
  world_after world step answer = if is_no_step answer then world else (next sim world step).world

  -- the step of a line may be answered so: as it is answered in this world, or by an answer that stands for no step
  pub record IsAnswered (world : World P) (step : NumberedStep) (reply : NumberedAnswer) : Type 0 where
    pub line : reply.line ≡ step.line
    pub answer : IsTrue (is_no_step reply.answer) ⊎ (reply.answer ≡ (next sim world step.step).answer)

  -- steps may be answered so, one after the other, from one world on to another
  abbrev pub AreAnswered : World P → List NumberedStep → List NumberedAnswer → World P → Type 0
  AreAnswered world [] [] end = end ≡ world
  AreAnswered world (step ∷ steps) (reply ∷ replies) end =
      IsAnswered world step reply × AreAnswered (world_after world step.step reply.answer) steps replies end
  AreAnswered world [] (reply ∷ replies) end = ⊥
  AreAnswered world (step ∷ steps) [] end = ⊥

  -- the output of a replay, with a version of the text of records, that was answered so and ended in this world
  abbrev pub output_of : Version → List NumberedAnswer → World P → List ℕ
  output_of version replies end = replay_text version replies end.board.announced (book_floor sim.end end.book) (least sim.end end) (book_records sim.end end.book)

  -- a text may be the output of a replay of these steps from the opening world with these first serials
  pub record IsOutput (version : Version) (serial : ℕ) (steps : List NumberedStep) (text : List ℕ) : Type 0 where
    pub replies : List NumberedAnswer
    pub end : World P
    pub answered : AreAnswered (opening_world sim serial) steps replies end
    pub output : text ≡ output_of version replies end
