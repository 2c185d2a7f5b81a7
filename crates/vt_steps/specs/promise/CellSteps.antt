-- Steps at a cell, on the part of a worker and on what the cell holds, which is an inbox, the board or the book. A function to
-- an Option gives None where the guard of its step fails.
use Rattle.std.specs.Prelude.{ℕ, Bool, not, nat_eq, ◌&&◌, List, [], ◌++◌, if◌then◌else◌, slice_get, Option, Some, None}
use Rattle.std.specs.List.{list_any}
use Rattle.std.specs.Option.{option_map}
use Rattle.vt_key.specs.declared.letter.Letter.{Letter}
use Rattle.vt_key.specs.declared.letter.Mail.{Mail}
use Rattle.vt_model.specs.promise.Simulation.{Simulation}
use Rattle.vt_steps.specs.declared.step.Reply.{Reply}
use Rattle.vt_steps.specs.declared.step.Reply.TheVariants.{Done}
use Rattle.vt_steps.specs.promise.Letters.{is_empty}
use Rattle.vt_steps.specs.promise.World.{Part, Board, Book}
use Rattle.vt_steps.specs.promise.PartSteps.{is_for, part_after_send, mail_of_send, part_after_fetch, part_after_cut, report_sent, report_got, report_least, part_after_commit, rows_of_commit}
use Rattle.vt_steps.specs.promise.BoardSteps.{cut_board, may_report, with_report, after_report}
use Rattle.vt_steps.specs.promise.BookSteps.{may_commit, with_rows, may_close, closed_book}

-- what a step leaves that is done at a cell: the part, what the cell holds, and the reply
pub record CellEffect (P C : Type 0) : Type 0 where
  pub part : Part P
  pub cell : C
  pub reply : Reply

-- Send from w to v, of so many workers: they are two, and the outbox of w holds a letter for a process of v
abbrev pub may_send : {P : Type 0} → ℕ → ℕ → ℕ → List (Letter P) → Bool
may_send workers w v outbox = not (nat_eq w v) && list_any (is_for workers v) outbox

module _ {S P : Type 0} (sim : Simulation S P) where
  -- Send from w to v: the letters for v go to the back of the inbox of v
  unfoldable pub send : ℕ → ℕ → Part P → List (Mail P) → Option (CellEffect P (List (Mail P)))
  send w v part inbox =
      if may_send sim.workers w v part.outbox then Some (record { part = part_after_send sim v part; cell = inbox ++ mail_of_send sim v part; reply = Done }) else None

  -- Cut of w, where the board takes it
  unfoldable pub cut : ℕ → Part P → Board → Option (CellEffect P Board)
  cut w part board = option_map (λ new. record { part = part_after_cut sim.end board.announced part; cell = new; reply = Done }) (cut_board sim.end w board)

  -- a lawful Report on this board, which has it: the worker's floor is the announced time as it then is
  abbrev pub reported : Part P → Board → CellEffect P Board
  reported part board =
      let effect = after_report sim.end board in record { part = record part { floor = effect.board.announced }; cell = effect.board; reply = effect.reply }

  -- Report of w
  unfoldable pub report : ℕ → Part P → Board → Option (CellEffect P Board)
  report w part board =
      if may_report w (report_least sim.end part) board
      then Some (reported part (with_report w (report_sent part) (report_got part) (report_least sim.end part) board)) else None

  -- Commit of w, where the book is open: the worker's floor is not below its hand-in floor
  unfoldable pub commit : ℕ → Part P → Book → Option (CellEffect P Book)
  commit w part book =
      if may_commit (slice_get book.floors w) part.floor
      then Some (record { part = part_after_commit part; cell = with_rows w (rows_of_commit sim w part) part.floor book; reply = Done }) else None

  -- Close, where the book is open; it is about no part
  unfoldable pub close : Book → Option Book
  close book = if may_close sim.end book then Some (closed_book book) else None

-- Fetch: all that arrived before must be accepted; the inbox is empty afterwards
unfoldable pub fetch : {P : Type 0} → Part P → List (Mail P) → Option (CellEffect P (List (Mail P)))
fetch part inbox =
    if is_empty part.arrived then Some (record { part = part_after_fetch inbox part; cell = []; reply = Done }) else None
