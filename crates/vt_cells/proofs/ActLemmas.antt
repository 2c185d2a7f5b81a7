-- The steps at a cell, by what they do to a part and to it.
use Rattle.std.proofs.Common.{◌≡◌, ℕ, true, false, cond, List, [], ◌++◌, ◌∙◌, ap, Some, None, Ok, slice_get}
use Rattle.std.specs.Option.{option_map}
use Rattle.vt_key.specs.declared.letter.Mail.{Mail}
use Rattle.vt_key.specs.declared.fault.Fault.TheVariants.{NotLawful, Closed}
use Rattle.vt_model.specs.promise.Simulation.{Simulation}
use Rattle.vt_steps.specs.declared.step.Step.TheVariants.{Send, Fetch, Cut, Report, Commit, Close}
use Rattle.vt_steps.specs.declared.step.Reply.TheVariants.{Done}
use Rattle.vt_steps.specs.promise.Letters.{is_empty}
use Rattle.vt_steps.specs.promise.World.{Part, Board, Book}
use Rattle.vt_steps.specs.promise.PartSteps.{part_after_send, mail_of_send, part_after_fetch, part_after_cut, report_sent, report_got, report_least, part_after_commit, rows_of_commit}
use Rattle.vt_steps.specs.promise.BoardSteps.{cut_board, may_report, with_report}
use Rattle.vt_steps.specs.promise.BookSteps.{may_commit, with_rows, may_close, closed_book}
use Rattle.vt_steps.specs.promise.CellSteps.{may_send, send, fetch, cut, reported, report, commit, close}
use Rattle.vt_steps.specs.inside.Cells.{in_inbox, on_board, in_book, Acted, left_alone, acted_at, acted_close, act}
use Rattle.vt_steps.proofs.steps.Outcomes.{unless_closed-open, unless_closed-shut}

module _ {S P : Type 0} (sim : Simulation S P) where
  pub act-send : (w v : ℕ) (part : Part P) (mails : List (Mail P)) → may_send sim.workers w v part.outbox ≡ true →
      act sim (Send w v) part (in_inbox mails) ≡ record { part = part_after_send sim v part; cell = in_inbox (mails ++ mail_of_send sim v part); answer = Ok Done }
  unfolding act send
  act-send w v part mails may =
      ap (λ b. acted_at part in_inbox mails (cond b (Some (record { part = part_after_send sim v part; cell = mails ++ mail_of_send sim v part; reply = Done })) None)) may

  pub act-not_send : (w v : ℕ) (part : Part P) (mails : List (Mail P)) → may_send sim.workers w v part.outbox ≡ false → act sim (Send w v) part (in_inbox mails) ≡ left_alone part (in_inbox mails) NotLawful
  unfolding act send
  act-not_send w v part mails may =
      ap (λ b. acted_at part in_inbox mails (cond b (Some (record { part = part_after_send sim v part; cell = mails ++ mail_of_send sim v part; reply = Done })) None)) may

  pub act-fetch : (w : ℕ) (part : Part P) (mails : List (Mail P)) → is_empty part.arrived ≡ true →
      act sim (Fetch w) part (in_inbox mails) ≡ record { part = part_after_fetch mails part; cell = in_inbox []; answer = Ok Done }
  unfolding act fetch
  act-fetch w part mails may =
      ap (λ b. acted_at part in_inbox mails (cond b (Some (record { part = part_after_fetch mails part; cell = []; reply = Done })) None)) may

  pub act-not_fetch : (w : ℕ) (part : Part P) (mails : List (Mail P)) → is_empty part.arrived ≡ false → act sim (Fetch w) part (in_inbox mails) ≡ left_alone part (in_inbox mails) NotLawful
  unfolding act fetch
  act-not_fetch w part mails may =
      ap (λ b. acted_at part in_inbox mails (cond b (Some (record { part = part_after_fetch mails part; cell = []; reply = Done })) None)) may

  pub act-cut : (w : ℕ) (part : Part P) (board new : Board) → cut_board sim.end w board ≡ Some new →
      act sim (Cut w) part (on_board board) ≡ record { part = part_after_cut sim.end board.announced part; cell = on_board new; answer = Ok Done }
  unfolding act cut
  act-cut w part board new is =
      ap (λ o. acted_at part on_board board (option_map (λ n. record { part = part_after_cut sim.end board.announced part; cell = n; reply = Done }) o)) is

  pub act-not_cut : (w : ℕ) (part : Part P) (board : Board) → cut_board sim.end w board ≡ None → act sim (Cut w) part (on_board board) ≡ left_alone part (on_board board) NotLawful
  unfolding act cut
  act-not_cut w part board none =
      ap (λ o. acted_at part on_board board (option_map (λ n. record { part = part_after_cut sim.end board.announced part; cell = n; reply = Done }) o)) none

  -- the part and the board after a lawful report on this board
  abbrev pub act_report : Part P → Board → Acted P
  act_report part board = acted_at part on_board board (Some (reported sim part board))

  pub act-report : (w : ℕ) (part : Part P) (board : Board) → may_report w (report_least sim.end part) board ≡ true →
      act sim (Report w) part (on_board board) ≡ act_report part (with_report w (report_sent part) (report_got part) (report_least sim.end part) board)
  unfolding act report
  act-report w part board may =
      ap (λ b. acted_at part on_board board (cond b (Some (reported sim part (with_report w (report_sent part) (report_got part) (report_least sim.end part) board))) None)) may

  pub act-not_report : (w : ℕ) (part : Part P) (board : Board) → may_report w (report_least sim.end part) board ≡ false → act sim (Report w) part (on_board board) ≡ left_alone part (on_board board) NotLawful
  unfolding act report
  act-not_report w part board may =
      ap (λ b. acted_at part on_board board (cond b (Some (reported sim part (with_report w (report_sent part) (report_got part) (report_least sim.end part) board))) None)) may

  pub act-commit : (w : ℕ) (part : Part P) (book : Book) → book.is_closed ≡ false → may_commit (slice_get book.floors w) part.floor ≡ true →
      act sim (Commit w) part (in_book book) ≡ record { part = part_after_commit part; cell = in_book (with_rows w (rows_of_commit sim w part) part.floor book); answer = Ok Done }
  unfolding act commit
  act-commit w part book open_is may =
      unless_closed-open book (left_alone part (in_book book)) (acted_at part in_book book (commit sim w part book)) open_is
      ∙ ap (λ b. acted_at part in_book book (cond b (Some (record { part = part_after_commit part; cell = with_rows w (rows_of_commit sim w part) part.floor book; reply = Done })) None)) may

  pub act-commit_closed : (w : ℕ) (part : Part P) (book : Book) → book.is_closed ≡ true → act sim (Commit w) part (in_book book) ≡ left_alone part (in_book book) Closed
  unfolding act
  act-commit_closed w part book closed = unless_closed-shut book (left_alone part (in_book book)) (acted_at part in_book book (commit sim w part book)) closed

  pub act-close : (part : Part P) (book : Book) → book.is_closed ≡ false → may_close sim.end book ≡ true →
      act sim Close part (in_book book) ≡ record { part = part; cell = in_book (closed_book book); answer = Ok Done }
  unfolding act close
  act-close part book open_is may =
      unless_closed-open book (left_alone part (in_book book)) (acted_close part book (close sim book)) open_is
      ∙ ap (λ b. acted_close part book (cond b (Some (closed_book book)) None)) may

  pub act-not_close : (part : Part P) (book : Book) → book.is_closed ≡ false → may_close sim.end book ≡ false → act sim Close part (in_book book) ≡ left_alone part (in_book book) NotLawful
  unfolding act close
  act-not_close part book open_is may =
      unless_closed-open book (left_alone part (in_book book)) (acted_close part book (close sim book)) open_is
      ∙ ap (λ b. acted_close part book (cond b (Some (closed_book book)) None)) may

  pub act-close_closed : (part : Part P) (book : Book) → book.is_closed ≡ true → act sim Close part (in_book book) ≡ left_alone part (in_book book) Closed
  unfolding act
  act-close_closed part book closed = unless_closed-shut book (left_alone part (in_book book)) (acted_close part book (close sim book)) closed
