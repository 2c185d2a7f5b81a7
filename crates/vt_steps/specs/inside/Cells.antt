-- What each step reads and changes: the part of one worker, and the content of at most one cell, which is an inbox, the
-- board or the book. `act` is a step on these two alone.
use Rattle.std.specs.Prelude.{ℕ, nat_eq, Bool, List, [], ◌∷◌, if◌then◌else◌, slice_get, Option, Some, None, Result, Ok, Err}
use Rattle.std.specs.Option.{option_map, option_and_then, is_none}
use Rattle.vt_key.specs.declared.letter.Mail.{Mail}
use Rattle.vt_key.specs.declared.fault.Fault.{Fault}
use Rattle.vt_key.specs.declared.fault.Fault.TheVariants.{NotLawful}
use Rattle.vt_model.specs.promise.Simulation.{Simulation}
use Rattle.vt_steps.specs.declared.step.Step.{Step}
use Rattle.vt_steps.specs.declared.step.Reply.{Reply}
use Rattle.vt_steps.specs.declared.step.Reply.TheVariants.{Done}
use Rattle.vt_steps.specs.promise.World.{Part, Board, Book, World}
use Rattle.vt_steps.specs.promise.BookSteps.{unless_closed}
use Rattle.vt_steps.specs.promise.CellSteps.{CellEffect}
use Rattle.vt_steps.specs.promise.Actions.{Action, on_part, at_inbox, at_board, at_book, on_book, action_of}
use Rattle.vt_steps.specs.promise.Next.{Outcome, with_part, with_inbox, with_board, with_book}
use Rattle.vt_steps.specs.promise.Cells.{worker_of}

-- the name of a cell
pub data CellName : Type 0 where
  inbox_of : ℕ → CellName
  board_cell : CellName
  book_cell : CellName

-- what a cell holds
pub data Cell (P : Type 0) : Type 0 where
  in_inbox : List (Mail P) → Cell P
  on_board : Board → Cell P
  in_book : Book → Cell P

module _ {P : Type 0} where
  -- what the cell of this name holds in a world, if it is there
  abbrev pub content : World P → CellName → Option (Cell P)
  content world (inbox_of w) = option_map in_inbox (slice_get world.inboxes w)
  content world board_cell = Some (on_board world.board)
  content world book_cell = Some (in_book world.book)

  -- the world with this in the cell of this name
  abbrev pub with_content : World P → CellName → Cell P → World P
  with_content world (inbox_of w) (in_inbox mails) = with_inbox w world mails
  with_content world board_cell (on_board board) = with_board world board
  with_content world book_cell (in_book book) = with_book world book
  with_content world _ _ = world

-- ---- whose part and which cell a step is about

-- the cell that it is about
abbrev pub action_cell : {P : Type 0} → Action P → Option CellName
action_cell (on_part w step) = None
action_cell (at_inbox w v step) = Some (inbox_of v)
action_cell (at_board w step) = Some board_cell
action_cell (at_book w step) = Some book_cell
action_cell (on_book step) = Some book_cell

-- the cell that a step reads and changes; a local step is about none
abbrev pub cell_of : {S P : Type 0} → Simulation S P → Step → Option CellName
cell_of sim step = action_cell (action_of sim step)

-- a local step is about one part alone
abbrev pub is_local : {S P : Type 0} → Simulation S P → Step → Bool
is_local sim step = is_none (cell_of sim step)

-- ---- a step on a part and a cell

-- the part and the cell after a step, and what the step was answered
pub record Acted (P : Type 0) : Type 0 where
  pub part : Part P
  pub cell : Cell P
  pub answer : Result Reply Fault

module _ {P : Type 0} where
  -- a refused step leaves the part and the cell
  abbrev pub left_alone : Part P → Cell P → Fault → Acted P
  left_alone part cell fault = record { part = part; cell = cell; answer = Err fault }

  -- what is done to a part alone
  abbrev pub local_rule : Action P → Part P → Option (Part P)
  local_rule (on_part w step) part = step part
  local_rule _ part = None

  -- a local step on the part of its worker; no other step is on a part alone
  abbrev pub act_locally : {S : Type 0} → Simulation S P → Step → Part P → Option (Part P)
  act_locally sim step = local_rule (action_of sim step)

  -- a local step leaves the cell
  abbrev pub acted_locally : Part P → Cell P → Option (Part P) → Acted P
  acted_locally part cell None = left_alone part cell NotLawful
  acted_locally part cell (Some new) = record { part = new; cell = cell; answer = Ok Done }

  -- a step at a cell that holds this, as a cell of its kind
  abbrev pub acted_at : {C : Type 0} → Part P → (C → Cell P) → C → Option (CellEffect P C) → Acted P
  acted_at part kind held None = left_alone part (kind held) NotLawful
  acted_at part kind held (Some effect) = record { part = effect.part; cell = kind effect.cell; answer = Ok effect.reply }

  -- a Close leaves the part
  abbrev pub acted_close : Part P → Book → Option Book → Acted P
  acted_close part book None = left_alone part (in_book book) NotLawful
  acted_close part book (Some new) = record { part = part; cell = in_book new; answer = Ok Done }

  -- what is done to a part and the content of a cell; at a cell of another kind it is refused
  abbrev pub done_at : Action P → Part P → Cell P → Acted P
  done_at (on_part w step) part cell = acted_locally part cell (step part)
  done_at (at_inbox w v step) part (in_inbox inbox) = acted_at part in_inbox inbox (step part inbox)
  done_at (at_board w step) part (on_board board) = acted_at part on_board board (step part board)
  done_at (at_book w step) part (in_book book) = unless_closed book (left_alone part (in_book book)) (acted_at part in_book book (step part book))
  done_at (on_book step) part (in_book book) = unless_closed book (left_alone part (in_book book)) (acted_close part book (step book))
  done_at _ part cell = left_alone part cell NotLawful

  -- one step, of a part and the content of a cell
  unfoldable pub act : {S : Type 0} → Simulation S P → Step → Part P → Cell P → Acted P
  act sim step part cell = done_at (action_of sim step) part cell

  -- what was done to the part of w and to the cell of this name is put back into the world
  abbrev pub put_back : World P → ℕ → CellName → Acted P → Outcome P
  put_back world w name acted =
      record {
        world = with_content (with_part world w acted.part) name acted.cell;
        answer = acted.answer;
      }

-- ---- lists of local steps

module _ {S P : Type 0} (sim : Simulation S P) (w : ℕ) where
  -- a step on the part of this worker, where that is w; no step of w is lawful at another's part
  abbrev pub if_own : Option ℕ → Option (Part P) → Option (Part P)
  if_own None step = None
  if_own (Some v) step = if nat_eq v w then step else None

  -- a local step of worker w on its part, if it is lawful
  abbrev pub local_step : Step → Part P → Option (Part P)
  local_step step part = if_own (worker_of sim step) (act_locally sim step part)

  -- a list of local steps, each of them lawful
  abbrev pub local_steps : List Step → Part P → Option (Part P)
  local_steps [] part = Some part
  local_steps (step ∷ steps) part = option_and_then (local_steps steps) (local_step step part)
