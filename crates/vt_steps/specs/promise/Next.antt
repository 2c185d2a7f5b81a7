-- The eleven steps of a world, and lists of them.
use Rattle.std.specs.Prelude.{ℕ, List, slice_get, slice_set, Option, Some, Result, Ok, Err}
use Rattle.std.specs.Option.{option_and_then, option_map, option_map_or}
use Rattle.std.specs.List.{fold, scan}
use Rattle.vt_key.specs.declared.letter.Mail.{Mail}
use Rattle.vt_key.specs.declared.fault.Fault.{Fault}
use Rattle.vt_key.specs.declared.fault.Fault.TheVariants.{NotLawful}
use Rattle.vt_model.specs.promise.Simulation.{Simulation}
use Rattle.vt_steps.specs.declared.step.Step.{Step}
use Rattle.vt_steps.specs.declared.step.Reply.{Reply}
use Rattle.vt_steps.specs.declared.step.Reply.TheVariants.{Done}
use Rattle.vt_steps.specs.promise.World.{Part, Board, Book, World, opening_world}
use Rattle.vt_steps.specs.promise.BookSteps.{unless_closed}
use Rattle.vt_steps.specs.promise.CellSteps.{CellEffect}
use Rattle.vt_steps.specs.promise.Actions.{Action, on_part, at_inbox, at_board, at_book, on_book, action_of}

-- the world after a step, and what the step was answered
pub record Outcome (P : Type 0) : Type 0 where
  pub world : World P
  pub answer : Result Reply Fault

module _ {P : Type 0} where
  -- a refused step changes nothing
  abbrev pub refused : World P → Fault → Outcome P
  refused world fault = record { world = world; answer = Err fault }

  -- a step that is done
  abbrev pub replied : World P → Reply → Outcome P
  replied world reply = record { world = world; answer = Ok reply }

  -- done, with this world after it; or not lawful
  abbrev pub done_or_refused : World P → Option (World P) → Outcome P
  done_or_refused world new = option_map_or (λ after. replied after Done) new (refused world NotLawful)

  -- the world with this part of worker w
  abbrev pub with_part : World P → ℕ → Part P → World P
  with_part world w part = record world { parts = slice_set world.parts w part }

  -- a local step of worker w
  abbrev pub locally : World P → ℕ → (Part P → Option (Part P)) → Outcome P
  locally world w step = done_or_refused world (option_map (with_part world w) (option_and_then step (slice_get world.parts w)))

  -- the world with this in the inbox of v
  abbrev pub with_inbox : ℕ → World P → List (Mail P) → World P
  with_inbox v world inbox = record world { inboxes = slice_set world.inboxes v inbox }

  -- the world with this board
  abbrev pub with_board : World P → Board → World P
  with_board world board = record world { board = board }

  -- the world with this book
  abbrev pub with_book : World P → Book → World P
  with_book world book = record world { book = book }

  -- what a step leaves is put back into the world, if it is done
  abbrev pub effect_in : {C : Type 0} → World P → ℕ → (World P → C → World P) → Option (CellEffect P C) → Outcome P
  effect_in world w put left = option_map_or (λ effect. replied (put (with_part world w effect.part) effect.cell) effect.reply) left (refused world NotLawful)

  -- a step on the part of worker w and on what a cell holds, if both are there
  abbrev pub at_cell : {C : Type 0} → World P → ℕ → (World P → C → World P) → (Part P → C → Option (CellEffect P C)) → Option C → Outcome P
  at_cell world w put step cell = effect_in world w put (option_and_then (λ part. option_and_then (step part) cell) (slice_get world.parts w))

  -- what is done to a world, and what it is answered
  abbrev pub done_in : World P → Action P → Outcome P
  done_in world (on_part w step) = locally world w step
  done_in world (at_inbox w v step) = at_cell world w (with_inbox v) step (slice_get world.inboxes v)
  done_in world (at_board w step) = at_cell world w with_board step (Some world.board)
  done_in world (at_book w step) = unless_closed world.book (refused world) (at_cell world w with_book step (Some world.book))
  done_in world (on_book step) = unless_closed world.book (refused world) (done_or_refused world (option_map (with_book world) (step world.book)))

module _ {S P : Type 0} (sim : Simulation S P) where
  -- one step of a world
  unfoldable pub next : World P → Step → Outcome P
  next world step = done_in world (action_of sim step)

  -- the world after a list of steps, of which the refused ones change nothing
  unfoldable pub run : World P → List Step → World P
  run world steps = fold (λ now step. (next now step).world) world steps

  -- what the steps of a list are answered, one after the other
  unfoldable pub answers : World P → List Step → List (Result Reply Fault)
  answers world steps = scan (λ now step. (next now step).world) (λ now step. (next now step).answer) world steps

  -- a reached world: that after a list of steps from the opening world
  abbrev pub reached : ℕ → List Step → World P
  reached serial steps = run (opening_world sim serial) steps
