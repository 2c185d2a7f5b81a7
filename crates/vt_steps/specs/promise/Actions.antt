-- What each of the eleven steps does: whose part it is about, which cell, and which step on these two.
use Rattle.std.specs.Prelude.{ℕ, ◌/◌, ◌%◌, List, Option}
use Rattle.vt_key.specs.declared.letter.Mail.{Mail}
use Rattle.vt_model.specs.promise.Simulation.{Simulation}
use Rattle.vt_steps.specs.declared.step.Step.{Step}
use Rattle.vt_steps.specs.declared.step.Step.TheVariants.{Execute, Undo, Cancel, Home, Send, Fetch, Accept, Cut, Report, Commit, Close}
use Rattle.vt_steps.specs.promise.World.{Part, Board, Book}
use Rattle.vt_steps.specs.promise.PartSteps.{execute, undo, cancel, home, accept}
use Rattle.vt_steps.specs.promise.CellSteps.{CellEffect, send, fetch, cut, report, commit, close}

-- what a step does: something to the part of a worker; to that part and an inbox, the board or the book; or to the book alone
pub data Action (P : Type 0) : Type 0 where
  on_part : ℕ → (Part P → Option (Part P)) → Action P
  at_inbox : ℕ → ℕ → (Part P → List (Mail P) → Option (CellEffect P (List (Mail P)))) → Action P
  at_board : ℕ → (Part P → Board → Option (CellEffect P Board)) → Action P
  at_book : ℕ → (Part P → Book → Option (CellEffect P Book)) → Action P
  on_book : (Book → Option Book) → Action P

-- the steps, which are listed here alone: those at process p are about the part of worker p mod workers, at index p / workers
abbrev pub action_of : {S P : Type 0} → Simulation S P → Step → Action P
action_of sim (Execute p) = on_part (p % sim.workers) (execute sim (p % sim.workers) (p / sim.workers))
action_of sim (Undo p) = on_part (p % sim.workers) (undo (p / sim.workers))
action_of sim (Cancel p stamp) = on_part (p % sim.workers) (cancel (p / sim.workers) stamp)
action_of sim (Home w) = on_part w (home sim w)
action_of sim (Accept w i) = on_part w (accept sim i)
action_of sim (Send w v) = at_inbox w v (send sim w v)
action_of sim (Fetch w) = at_inbox w w fetch
action_of sim (Cut w) = at_board w (cut sim w)
action_of sim (Report w) = at_board w (report sim w)
action_of sim (Commit w) = at_book w (commit sim w)
action_of sim Close = on_book (close sim)
