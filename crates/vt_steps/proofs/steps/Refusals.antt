-- How a step ends: refused, with nothing changed, or done.
use Rattle.std.proofs.Common.{◌≡◌, ℕ, ◌⊎◌, inl, inr, ◌/◌, ◌%◌, true, refl, sym, ◌∙◌, ap, subst, Option, Some, None, Ok, Err, slice_get}
use Rattle.std.specs.Option.{option_map, option_and_then}
use Rattle.vt_key.specs.promise.Times.{Time}
use Rattle.vt_key.specs.declared.fault.Fault.{Fault}
use Rattle.vt_key.specs.declared.fault.Fault.TheVariants.{NotLawful, Closed}
use Rattle.vt_model.specs.promise.Simulation.{Simulation}
use Rattle.vt_steps.specs.declared.step.Step.{Step}
use Rattle.vt_steps.specs.declared.step.Step.TheVariants.{Execute, Undo, Cancel, Home, Send, Fetch, Accept, Cut, Report, Commit, Close}
use Rattle.vt_steps.specs.declared.step.Reply.{Reply}
use Rattle.vt_steps.specs.declared.step.Reply.TheVariants.{Done, Announced}
use Rattle.vt_steps.specs.promise.World.{Part, Board, World}
use Rattle.vt_steps.specs.promise.PartSteps.{execute, undo, cancel, home, accept, report_sent, report_got, report_least}
use Rattle.vt_steps.specs.promise.BoardSteps.{cut_board, may_report, with_report, after_report}
use Rattle.vt_steps.specs.promise.BookSteps.{may_commit, unless_closed}
use Rattle.vt_steps.specs.promise.CellSteps.{CellEffect, may_send, send, fetch, cut, report, commit, close}
use Rattle.vt_steps.specs.promise.Next.{Outcome, refused, replied, done_or_refused, with_part, with_inbox, with_board, with_book, locally, at_cell, next}
use Rattle.vt_steps.specs.inside.Cells.{inbox_of, board_cell, book_cell, cell_of}
use Rattle.vt_steps.specs.inside.Laws.{IsReportReply, IsReplyRight, IsRefusalRight}
use Rattle.vt_steps.specs.promise.Letters.{is_empty}
use Rattle.vt_steps.proofs.steps.Changes.{if_has, map_has}
use Rattle.vt_steps.proofs.steps.Outcomes.{at_cell-either, unless_closed-either, after_report-either, unless_closed-shut}

-- a step is refused as not lawful, or done
data Ends {P : Type 0} (world : World P) (outcome : Outcome P) : Type 0 where
  not_lawful : outcome ≡ refused world NotLawful → Ends world outcome
  done : (new : World P) → outcome ≡ replied new Done → Ends world outcome

done_or_refused-ends : {P : Type 0} (world : World P) (o : Option (World P)) → Ends world (done_or_refused world o)
done_or_refused-ends world None = not_lawful refl
done_or_refused-ends world (Some new) = done new refl

locally-ends : {P : Type 0} (world : World P) (w : ℕ) (step : Part P → Option (Part P)) → Ends world (locally world w step)
locally-ends world w step = done_or_refused-ends world (option_map (with_part world w) (option_and_then step (slice_get world.parts w)))

-- a step at a cell whose reply is that it is done
cell-ends : {P C : Type 0} (world : World P) (w : ℕ) (put : World P → C → World P) (step : Part P → C → Option (CellEffect P C)) (cell : Option C) →
    ((part : Part P) (held : C) (effect : CellEffect P C) → step part held ≡ Some effect → effect.reply ≡ Done) → Ends world (at_cell world w put step cell)
cell-ends world w put step cell replies_done =
    at_cell-either world w put step cell (Ends world) (not_lawful refl) (λ part held effect is holds e.
    done (put (with_part world w effect.part) effect.cell) (ap (replied _) (replies_done part held effect e)))

send-ends : {S P : Type 0} (sim : Simulation S P) (world : World P) (w v : ℕ) → Ends world (at_cell world w (with_inbox v) (send sim w v) (slice_get world.inboxes v))
unfolding send
send-ends sim world w v =
    cell-ends world w (with_inbox v) (send sim w v) (slice_get world.inboxes v) (λ part inbox effect e. ap (λ (x : CellEffect _ _). x.reply) (if_has (may_send sim.workers w v part.outbox) _ effect e).1)

fetch-ends : {P : Type 0} (world : World P) (w : ℕ) → Ends world (at_cell world w (with_inbox w) fetch (slice_get world.inboxes w))
unfolding fetch
fetch-ends world w =
    cell-ends world w (with_inbox w) fetch (slice_get world.inboxes w) (λ part inbox effect e. ap (λ (x : CellEffect _ _). x.reply) (if_has (is_empty part.arrived) _ effect e).1)

cut-ends : {S P : Type 0} (sim : Simulation S P) (world : World P) (w : ℕ) → Ends world (at_cell world w with_board (cut sim w) (Some world.board))
unfolding cut
cut-ends sim world w =
    cell-ends world w with_board (cut sim w) (Some world.board) (λ part board effect e. ap (λ (x : CellEffect _ _). x.reply) (map_has _ (cut_board sim.end w board) effect e).2)

commit-ends : {S P : Type 0} (sim : Simulation S P) (world : World P) (w : ℕ) → Ends world (at_cell world w with_book (commit sim w) (Some world.book))
unfolding commit
commit-ends sim world w =
    cell-ends world w with_book (commit sim w) (Some world.book) (λ part book effect e. ap (λ (x : CellEffect _ _). x.reply) (if_has (may_commit (slice_get book.floors w) part.floor) _ effect e).1)

-- a report is refused as not lawful, or answered by the board
data Reports {S P : Type 0} (sim : Simulation S P) (world : World P) (outcome : Outcome P) : Type 0 where
  not_reported : outcome ≡ refused world NotLawful → Reports sim world outcome
  reports : (new : World P) (board : Board) → board.announced ≡ world.board.announced → new.board ≡ (after_report sim.end board).board → outcome ≡ replied new (after_report sim.end board).reply → Reports sim world outcome

report-ends : {S P : Type 0} (sim : Simulation S P) (world : World P) (w : ℕ) → Reports sim world (at_cell world w with_board (report sim w) (Some world.board))
unfolding report with_report
report-ends {P = P} sim world w =
    at_cell-either world w with_board (report sim w) (Some world.board) (Reports sim world) (not_reported refl) (λ part board effect is holds e.
    (let same : world.board ≡ board = cc in
    let has = if_has (may_report w (report_least sim.end part) world.board) _ effect (ap (report sim w part) same ∙ e) in
    reports (with_board (with_part world w effect.part) effect.cell) (with_report w (report_sent part) (report_got part) (report_least sim.end part) world.board) refl
    (ap (λ (x : CellEffect P Board). x.cell) has.1) (ap (λ (x : CellEffect P Board). replied (with_board (with_part world w effect.part) effect.cell) x.reply) has.1)))

-- each step, by how it ends
data StepEnds {S P : Type 0} (sim : Simulation S P) (world : World P) (step : Step) : Type 0 where
  plain : ((w : ℕ) → step ≡ Report w → ⊥) → (cell_of sim step ≡ Some book_cell → ⊥) → Ends world (next sim world step) → StepEnds sim world step
  report_step : (w : ℕ) → step ≡ Report w → Reports sim world (next sim world step) → StepEnds sim world step
  book_step : ((w : ℕ) → step ≡ Report w → ⊥) → cell_of sim step ≡ Some book_cell → (outcome : Outcome P) → next sim world step ≡ unless_closed world.book (refused world) outcome → Ends world outcome → StepEnds sim world step

next-ends : {S P : Type 0} (sim : Simulation S P) (world : World P) (step : Step) → StepEnds sim world step
unfolding next
next-ends sim world (Execute p) = plain (λ w e. let h : Execute p ≡ Report w = e in cc) (λ e. let h : None ≡ Some book_cell = e in cc) (locally-ends world (p % sim.workers) (execute sim (p % sim.workers) (p / sim.workers)))
next-ends sim world (Undo p) = plain (λ w e. let h : Undo p ≡ Report w = e in cc) (λ e. let h : None ≡ Some book_cell = e in cc) (locally-ends world (p % sim.workers) (undo (p / sim.workers)))
next-ends sim world (Cancel p stamp) = plain (λ w e. let h : Cancel p stamp ≡ Report w = e in cc) (λ e. let h : None ≡ Some book_cell = e in cc) (locally-ends world (p % sim.workers) (cancel (p / sim.workers) stamp))
next-ends sim world (Home v) = plain (λ w e. let h : Home v ≡ Report w = e in cc) (λ e. let h : None ≡ Some book_cell = e in cc) (locally-ends world v (home sim v))
next-ends sim world (Accept v i) = plain (λ w e. let h : Accept v i ≡ Report w = e in cc) (λ e. let h : None ≡ Some book_cell = e in cc) (locally-ends world v (accept sim i))
next-ends sim world (Send v u) = plain (λ w e. let h : Send v u ≡ Report w = e in cc) (λ e. let h : Some (inbox_of u) ≡ Some book_cell = e in cc) (send-ends sim world v u)
next-ends sim world (Fetch v) = plain (λ w e. let h : Fetch v ≡ Report w = e in cc) (λ e. let h : Some (inbox_of v) ≡ Some book_cell = e in cc) (fetch-ends world v)
next-ends sim world (Cut v) = plain (λ w e. let h : Cut v ≡ Report w = e in cc) (λ e. let h : Some board_cell ≡ Some book_cell = e in cc) (cut-ends sim world v)
next-ends sim world (Report v) = report_step v refl (report-ends sim world v)
next-ends sim world (Commit v) = book_step (λ w e. let h : Commit v ≡ Report w = e in cc) refl (at_cell world v with_book (commit sim v) (Some world.book)) refl (commit-ends sim world v)
next-ends sim world Close = book_step (λ w e. let h : Close ≡ Report w = e in cc) refl (done_or_refused world (option_map (with_book world) (close sim world.book))) refl (done_or_refused-ends world (option_map (with_book world) (close sim world.book)))

-- ---- refusals

-- what is done is not refused
not_both : {P : Type 0} (outcome : Outcome P) (new : World P) (reply : Reply) (fault : Fault) → outcome ≡ replied new reply → outcome.answer ≡ Err fault → ⊥
not_both outcome new reply fault is e =
    let a : outcome.answer ≡ Ok reply = ap (λ o. o.answer) is in
    let h : Ok reply ≡ Err fault = sym a ∙ e in
    cc

abbrev Kept : {P : Type 0} → World P → Outcome P → Type 0
Kept world outcome = (fault : Fault) → outcome.answer ≡ Err fault → (outcome.world ≡ world) × ((fault ≡ NotLawful) ⊎ (fault ≡ Closed))

refused-keeps : {P : Type 0} (world : World P) (outcome : Outcome P) (why : Fault) → (why ≡ NotLawful) ⊎ (why ≡ Closed) → outcome ≡ refused world why → Kept world outcome
refused-keeps world outcome why one is fault e =
    let a : outcome.answer ≡ Err why = ap (λ o. o.answer) is in
    let h : Err why ≡ Err fault = sym a ∙ e in
    let same : why ≡ fault = cc in
    (ap (λ o. o.world) is, subst (λ f. (f ≡ NotLawful) ⊎ (f ≡ Closed)) same one)

ends-keep : {P : Type 0} (world : World P) (outcome : Outcome P) → Ends world outcome → Kept world outcome
ends-keep world outcome (not_lawful is) = refused-keeps world outcome NotLawful (inl refl) is
ends-keep world outcome (done new is) = λ fault e. absurd (not_both outcome new Done fault is e)

reports-keep : {S P : Type 0} (sim : Simulation S P) (world : World P) (outcome : Outcome P) → Reports sim world outcome → Kept world outcome
reports-keep sim world outcome (not_reported is) = refused-keeps world outcome NotLawful (inl refl) is
reports-keep sim world outcome (reports new board kept after is) = λ fault e. absurd (not_both outcome new (after_report sim.end board).reply fault is e)

-- a book that is closed refuses as closed; one that is open lets the step end
book-keeps : {P : Type 0} (world : World P) (outcome : Outcome P) → Ends world outcome → Kept world (unless_closed world.book (refused world) outcome)
book-keeps world outcome ends =
    unless_closed-either world.book (refused world) outcome (Kept world) (λ shut. refused-keeps world (refused world Closed) Closed (inr refl) refl) (λ is_open. ends-keep world outcome ends)

next-keeps : {S P : Type 0} (sim : Simulation S P) (world : World P) (step : Step) → StepEnds sim world step → Kept world (next sim world step)
next-keeps sim world step (plain apart off ends) = ends-keep world (next sim world step) ends
next-keeps sim world step (report_step w is ends) = reports-keep sim world (next sim world step) ends
next-keeps sim world step (book_step apart on outcome is ends) = subst (λ o. Kept world o) (sym is) (book-keeps world outcome ends)

-- which refusals are as closed
never_closed : {P : Type 0} (world : World P) (outcome : Outcome P) → Ends world outcome → outcome.answer ≡ Err Closed → ⊥
never_closed world outcome (not_lawful is) e =
    let a : outcome.answer ≡ Err NotLawful = ap (λ o. o.answer) is in
    let h : Err NotLawful ≡ Err Closed = sym a ∙ e in
    let same : NotLawful ≡ Closed = cc in
    absurd cc
never_closed world outcome (done new is) e = not_both outcome new Done Closed is e

report-never_closed : {S P : Type 0} (sim : Simulation S P) (world : World P) (outcome : Outcome P) → Reports sim world outcome → outcome.answer ≡ Err Closed → ⊥
report-never_closed sim world outcome (not_reported is) e = never_closed world outcome (not_lawful is) e
report-never_closed sim world outcome (reports new board kept after is) e = not_both outcome new (after_report sim.end board).reply Closed is e

closed-closes : {S P : Type 0} (sim : Simulation S P) (world : World P) (step : Step) → StepEnds sim world step → world.book.is_closed ≡ true → cell_of sim step ≡ Some book_cell → (next sim world step).answer ≡ Err Closed
closed-closes sim world step (plain apart off ends) closed on = absurd (off on)
closed-closes sim world step (report_step w is ends) closed on =
    absurd (let h : Some board_cell ≡ Some book_cell = ap (cell_of sim) (sym is) ∙ on in cc)
closed-closes sim world step (book_step apart on outcome is ends) closed also =
    ap (λ o. o.answer) (is ∙ unless_closed-shut world.book (refused world) outcome closed)

closed-only : {S P : Type 0} (sim : Simulation S P) (world : World P) (step : Step) → StepEnds sim world step → (next sim world step).answer ≡ Err Closed → (world.book.is_closed ≡ true) × (cell_of sim step ≡ Some book_cell)
closed-only sim world step (plain apart off ends) e = absurd (never_closed world (next sim world step) ends e)
closed-only sim world step (report_step w is ends) e = absurd (report-never_closed sim world (next sim world step) ends e)
closed-only sim world step (book_step apart on outcome is ends) e =
    unless_closed-either world.book (refused world) outcome (λ o. o.answer ≡ Err Closed → (world.book.is_closed ≡ true) × (cell_of sim step ≡ Some book_cell))
    (λ shut h. (shut, on)) (λ is_open h. absurd (never_closed world outcome ends h)) (ap (λ o. o.answer) (sym is) ∙ e)

pub refusals : {S P : Type 0} (sim : Simulation S P) (world : World P) (step : Step) → IsRefusalRight sim world step
refusals sim world step =
    let ends = next-ends sim world step in
    record {
      keeps = λ fault e. (next-keeps sim world step ends fault e).0;
      closed = closed-closes sim world step ends;
      not_closed = closed-only sim world step ends;
      other = λ fault e. (next-keeps sim world step ends fault e).1;
    }

-- ---- replies

-- whatever is replied is done
reply-done : {P : Type 0} (world : World P) (outcome : Outcome P) (reply : Reply) → Ends world outcome → outcome.answer ≡ Ok reply → reply ≡ Done
reply-done world outcome reply (not_lawful is) e =
    let a : outcome.answer ≡ Err NotLawful = ap (λ o. o.answer) is in
    absurd (let h : Ok reply ≡ Err NotLawful = sym e ∙ a in cc)
reply-done world outcome reply (done new is) e =
    let a : outcome.answer ≡ Ok Done = ap (λ o. o.answer) is in
    let h : Ok reply ≡ Ok Done = sym e ∙ a in
    cc

book-reply : {P : Type 0} (world : World P) (outcome : Outcome P) (reply : Reply) → Ends world outcome → (unless_closed world.book (refused world) outcome).answer ≡ Ok reply → reply ≡ Done
book-reply world outcome reply ends =
    unless_closed-either world.book (refused world) outcome (λ o. o.answer ≡ Ok reply → reply ≡ Done) (λ shut e. absurd (let h : Ok reply ≡ Err Closed = sym e in cc))
    (λ is_open. reply-done world outcome reply ends)

-- how a report is answered, by whether it was the last one and whether the counts are equal
board-replies : {P : Type 0} (end : Time) (old : World P) (new : World P) (board : Board) → board.announced ≡ old.board.announced → new.board ≡ (after_report end board).board →
    IsReportReply old new (after_report end board).reply
board-replies end old new board kept is =
    after_report-either end board (λ effect. new.board ≡ effect.board → IsReportReply old new effect.reply)
    (λ some e. inl (refl, ap (λ (b : Board). b.announced) e ∙ kept))
    (λ all same e. inr (inr (ap (λ t. Announced t) (sym (ap (λ (b : Board). b.announced) e)))))
    (λ all apart e. inr (inl (refl, ap (λ (b : Board). b.announced) e ∙ kept)))
    is

reports-reply : {S P : Type 0} (sim : Simulation S P) (world : World P) (outcome : Outcome P) (reply : Reply) → Reports sim world outcome → outcome.answer ≡ Ok reply → IsReportReply world outcome.world reply
reports-reply sim world outcome reply (not_reported is) e =
    absurd (let h : Ok reply ≡ Err NotLawful = sym e ∙ ap (λ o. o.answer) is in cc)
reports-reply sim world outcome reply (reports new board kept after is) e =
    let h : Ok (after_report sim.end board).reply ≡ Ok reply = sym (ap (λ o. o.answer) is) ∙ e in
    let same : (after_report sim.end board).reply ≡ reply = cc in
    subst (λ r. IsReportReply world outcome.world r) same
    (board-replies sim.end world outcome.world board kept (ap (λ o. o.world.board) is ∙ after))

pub replies : {S P : Type 0} (sim : Simulation S P) (world : World P) (step : Step) → IsReplyRight sim world step
replies sim world step = record {
  reported = λ w reply is e. reported_step (next-ends sim world step) w reply is e;
  others = λ reply apart e. other_step (next-ends sim world step) reply apart e;
}
  where
    reported_step : StepEnds sim world step → (w : ℕ) (reply : Reply) → step ≡ Report w → (next sim world step).answer ≡ Ok reply → IsReportReply world (next sim world step).world reply
    reported_step (plain apart off ends) w reply is e = absurd (apart w is)
    reported_step (report_step v same ends) w reply is e = reports-reply sim world (next sim world step) reply ends e
    reported_step (book_step apart on outcome same ends) w reply is e = absurd (apart w is)

    other_step : StepEnds sim world step → (reply : Reply) → ((w : ℕ) → step ≡ Report w → ⊥) → (next sim world step).answer ≡ Ok reply → reply ≡ Done
    other_step (plain away off ends) reply apart e = reply-done world (next sim world step) reply ends e
    other_step (report_step v same ends) reply apart e = absurd (apart v same)
    other_step (book_step away on outcome same ends) reply apart e = book-reply world outcome reply ends (ap (λ o. o.answer) (sym same) ∙ e)
