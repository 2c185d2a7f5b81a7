-- Steps that are marked with the worker that makes them, and what each worker is answered in a run of them. Workers that
-- share cells make such a run together, and each of them knows its own steps alone.
use Rattle.std.specs.Prelude.{◌≡◌, ℕ, nat_eq, Bool, true, false, List, [], ◌∷◌, map, if◌then◌else◌, slice_get, Some, Result, Ok}
use Rattle.std.specs.List.{list_any, AllByRecursion}
use Rattle.vt_key.specs.declared.fault.Fault.{Fault}
use Rattle.vt_model.specs.promise.Simulation.{Simulation}
use Rattle.vt_steps.specs.declared.step.Step.{Step}
use Rattle.vt_steps.specs.declared.step.Step.TheVariants.{Cut, Report, Close}
use Rattle.vt_steps.specs.declared.step.Reply.{Reply}
use Rattle.vt_steps.specs.declared.step.Reply.TheVariants.{Done, Announced}
use Rattle.vt_steps.specs.promise.World.{Part, World, opening_world}
use Rattle.vt_steps.specs.promise.Next.{next, run, reached}
use Rattle.vt_steps.specs.promise.Cells.{worker_of}
use Rattle.vt_steps.specs.inside.Cells.{CellName, Cell, content}
use Rattle.vt_steps.specs.inside.Laws.{IsAny}

-- a step, and the worker that makes it
pub record Marked : Type 0 where
  pub worker : ℕ
  pub step : Step

-- a step that was done, and what it was answered
pub record Made : Type 0 where
  pub step : Step
  pub reply : Reply

-- a step, and what it was answered, done or refused
pub record Answered : Type 0 where
  pub step : Step
  pub answer : Result Reply Fault

-- a step that was done, as one that was answered
abbrev pub answered : Made → Answered
answered made = record { step = made.step; answer = Ok made.reply }

-- the steps without their marks
abbrev pub unmarked : List Marked → List Step
unmarked marks = map (λ m. m.step) marks

-- all of these steps are made by worker w
abbrev pub marked : ℕ → List Step → List Marked
marked w steps = map (λ step. record { worker = w; step = step }) steps

-- these steps were done, and answered so
abbrev pub made_done : List Step → List Made
made_done steps = map (λ step. record { step = step; reply = Done }) steps

module _ {S P : Type 0} (sim : Simulation S P) where
  -- a step is marked with the worker whose part it is about. Close is about no part, and any worker may make it
  abbrev pub IsMarkedRight : Marked → Type 0
  IsMarkedRight m = IsAny (worker_of sim m.step) m.worker

  -- the steps of worker w in a run, in order, with their answers
  unfoldable pub own_steps : ℕ → World P → List Marked → List Answered
  own_steps w world [] = []
  own_steps w world (m ∷ marks) =
      let outcome = next sim world m.step in
      if nat_eq m.worker w then record { step = m.step; answer = outcome.answer } ∷ own_steps w outcome.world marks
      else own_steps w outcome.world marks

  -- the world after a list of marked steps from the opening world, where each worker's serials begin with 0
  abbrev pub shown : List Marked → World P
  shown marks = reached sim 0 (unmarked marks)

  -- the steps of worker w on the way to it
  abbrev pub own_steps_of : ℕ → List Marked → List Answered
  own_steps_of w marks = own_steps w (opening_world sim 0) marks

  -- ---- what the steps of one worker do, whatever the others did before

  -- what the steps of worker w do to a world in which its part and one cell are as they were: they lead to another part and
  -- another content of that cell, change no other part and no other cell, and are answered so
  pub record DoesSo (w : ℕ) (name : CellName) (steps : List Step) (world : World P) (new : Part P) (left : Cell P) (made : List Made) : Type 0 where
    pub part : slice_get (run sim world steps).parts w ≡ Some new
    pub cell : content (run sim world steps) name ≡ Some left
    pub other_parts : (v : ℕ) → ¬ (v ≡ w) → slice_get (run sim world steps).parts v ≡ slice_get world.parts v
    pub other_cells : (other : CellName) → ¬ (other ≡ name) → content (run sim world steps) other ≡ content world other
    pub answers : own_steps w world (marked w steps) ≡ map answered made

  -- the steps of worker w lead from a part and the content of a cell to others, in every world that has these two
  pub record Leads (w : ℕ) (name : CellName) (part : Part P) (cell : Cell P) (steps : List Step) (new : Part P) (left : Cell P) (made : List Made) : Type 0 where
    pub own : AllByRecursion (λ m. IsMarkedRight m) (marked w steps)
    pub does : (world : World P) → slice_get world.parts w ≡ Some part → content world name ≡ Some cell → DoesSo w name steps world new left made

-- ---- what a worker can tell from its own steps

-- whether a worker has cut and was told of no announcement after it, by whether it had before this step
abbrev pub cut_by_now : Bool → Step → Result Reply Fault → Bool
cut_by_now so_far (Cut w) (Ok reply) = true
cut_by_now so_far (Report w) (Ok (Announced time)) = false
cut_by_now so_far _ _ = so_far

-- the same after a list of steps
abbrev pub has_cut_since : Bool → List Answered → Bool
has_cut_since so_far [] = so_far
has_cut_since so_far (a ∷ rest) = has_cut_since (cut_by_now so_far a.step a.answer) rest

-- the step is a close that was done
abbrev pub is_close_done : Step → Result Reply Fault → Bool
is_close_done Close (Ok reply) = true
is_close_done _ _ = false

-- a close was done among these steps
abbrev pub has_closed : List Answered → Bool
has_closed steps = list_any (λ a. is_close_done a.step a.answer) steps
