-- What each step at a cell does to a world, by what the part and the cell say.
use Rattle.std.proofs.Common.{◌≡◌, ℕ, true, false, cond, refl, ◌∙◌, ap, Some, None, slice_get, slice_set}
use Rattle.std.specs.Option.{option_map}
use Rattle.vt_key.specs.declared.fault.Fault.TheVariants.{NotLawful, Closed}
use Rattle.vt_model.specs.promise.Simulation.{Simulation}
use Rattle.vt_steps.specs.declared.step.Step.TheVariants.{Send, Report, Commit, Close}
use Rattle.vt_steps.specs.declared.step.Reply.TheVariants.{Done}
use Rattle.vt_steps.specs.promise.World.{Part, World}
use Rattle.vt_steps.specs.promise.PartSteps.{report_sent, report_got, report_least, part_after_commit, rows_of_commit}
use Rattle.vt_steps.specs.promise.BoardSteps.{may_report, with_report, after_report}
use Rattle.vt_steps.specs.promise.BookSteps.{may_commit, with_rows}
use Rattle.vt_steps.specs.promise.CellSteps.{send, reported, report, commit, close}
use Rattle.vt_steps.specs.promise.Next.{effect_in, next, refused, replied, done_or_refused, with_inbox, with_board, with_book, at_cell}
use Rattle.vt_steps.proofs.steps.Changes.{with_reported}
use Rattle.vt_steps.proofs.steps.Outcomes.{at_cell-found, at_cell-nowhere, unless_closed-open, unless_closed-shut}

module _ {S P : Type 0} (sim : Simulation S P) (world : World P) where
  -- ---- an inbox

  pub next-send_nowhere : (w v : ℕ) → slice_get world.inboxes v ≡ None → next sim world (Send w v) ≡ refused world NotLawful
  unfolding next
  next-send_nowhere w v gone = at_cell-nowhere world w (with_inbox v) (send sim w v) (slice_get world.inboxes v) gone

  -- ---- the board

  pub next-report : (w : ℕ) (part : Part P) → slice_get world.parts w ≡ Some part → may_report w (report_least sim.end part) world.board ≡ true
      → (let board = with_report w (report_sent part) (report_got part) (report_least sim.end part) world.board in
      next sim world (Report w) ≡ replied (with_reported sim world w part board) (after_report sim.end board).reply)
  unfolding next report
  next-report w part there may =
      at_cell-found world w with_board (report sim w) (Some world.board) part world.board there refl
      ∙ ap (λ b. effect_in world w with_board (cond b (Some (reported sim part (with_report w (report_sent part) (report_got part) (report_least sim.end part) world.board))) None)) may

  -- ---- the book

  -- Commit, where the book is open
  commit-open : (w : ℕ) → world.book.is_closed ≡ false → next sim world (Commit w) ≡ at_cell world w with_book (commit sim w) (Some world.book)
  unfolding next
  commit-open w is_open = unless_closed-open world.book (refused world) (at_cell world w with_book (commit sim w) (Some world.book)) is_open

  pub next-commit : (w : ℕ) (part : Part P) → slice_get world.parts w ≡ Some part → world.book.is_closed ≡ false → may_commit (slice_get world.book.floors w) part.floor ≡ true
      → next sim world (Commit w) ≡ replied (record world { parts = slice_set world.parts w (part_after_commit part); book = with_rows w (rows_of_commit sim w part) part.floor world.book }) Done
  unfolding commit
  next-commit w part there is_open may =
      commit-open w is_open ∙ at_cell-found world w with_book (commit sim w) (Some world.book) part world.book there refl
      ∙ ap (λ b. effect_in world w with_book (cond b (Some (record { part = part_after_commit part; cell = with_rows w (rows_of_commit sim w part) part.floor world.book; reply = Done })) None)) may

  pub next-commit_closed : (w : ℕ) → world.book.is_closed ≡ true → next sim world (Commit w) ≡ refused world Closed
  unfolding next
  next-commit_closed w shut = unless_closed-shut world.book (refused world) (at_cell world w with_book (commit sim w) (Some world.book)) shut

  pub next-close_closed : world.book.is_closed ≡ true → next sim world Close ≡ refused world Closed
  unfolding next
  next-close_closed shut = unless_closed-shut world.book (refused world) (done_or_refused world (option_map (with_book world) (close sim world.book))) shut
