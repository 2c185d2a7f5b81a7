-- Refusals that are found in a claimed cell, as refusals of a world that cells and places showed.
use Rattle.std.proofs.Common.{◌≡◌, inl, inr, ℕ, false, List, [], ◌∷◌, ◌++◌, refl, sym, ◌∙◌, ap, subst, arith, Option, Some, None, Ok, Err, slice_get}
use Rattle.vt_key.specs.promise.Times.{Time, TimeAtMost}
use Rattle.vt_key.specs.declared.fault.Fault.{Fault}
use Rattle.vt_key.specs.declared.fault.Fault.TheVariants.{NotLawful}
use Rattle.vt_model.specs.declared.rows.Record.{Record}
use Rattle.vt_model.specs.promise.Sequential.{seq_records}
use Rattle.vt_model.specs.promise.Histories.{IsLawful}
use Rattle.vt_model.specs.promise.Simulation.{Simulation}
use Rattle.vt_steps.specs.declared.step.Step.{Step}
use Rattle.vt_steps.specs.declared.step.Step.TheVariants.{Cut, Report, Commit, Close}
use Rattle.vt_steps.specs.declared.step.Reply.{Reply}
use Rattle.vt_steps.specs.promise.World.{Part, Board, Book, World, book_floor, book_records}
use Rattle.vt_steps.specs.promise.BoardSteps.{cut_board}
use Rattle.vt_steps.specs.promise.Next.{Outcome, next, run}
use Rattle.vt_steps.specs.promise.CellSteps.{CellEffect, cut, report}
use Rattle.vt_steps.specs.promise.Cells.{worker_of}
use Rattle.vt_steps.specs.inside.Cells.{CellName, board_cell, book_cell, Cell, on_board, in_book, content, cell_of, acted_at, act, put_back, local_steps}
use Rattle.vt_steps.specs.inside.Laws.{IsAny}
use Rattle.vt_cells.specs.inside.Calls.{IsCellRefusal, IsHandInRefusal, IsClosingRefusal}
use Rattle.vt_cells.proofs.WorldLemmas.{next-put_back, refused-there}
use Rattle.vt_steps.specs.inside.Marked.{Marked, unmarked, marked, shown, DoesSo, made_done, has_cut_since, has_closed}
use Rattle.vt_steps.proofs.time.Floors.{reached-times}
use Rattle.vt_steps.proofs.steps.LocalLeads.{local-does}
use Rattle.vt_steps.proofs.marks.MarkedRuns.{shown-marked}
use Rattle.vt_steps.proofs.marks.OwnCloses.{closed-floors, unclosable-floor, closed-known}
use Rattle.vt_steps.proofs.book.ReachedBooks.{reached-falls, reached-accounted}
use Rattle.vt_steps.proofs.book.Records.{records-right}
use Rattle.vt_steps.proofs.marks.OwnCuts.{refused-cut-known}
use Rattle.vt_kernel.specs.promise.Refusals.{IsStepRefusal}
use Rattle.vt_places.specs.declared.view.View.{View}
use Rattle.vt_places.specs.inside.Calls.{Known, IsRefusedByShown, IsCutRefusal, IsReportRefusal, IsCommitRefusal, IsCloseRefusal, IsFloorLeft, AreRecordsShown}
use Rattle.vt_steps.proofs.steps.MemoryLemmas.{run-append}
use Rattle.vt_steps.proofs.steps.CellLemmas.{map-none}

-- a list of one step
run-one : {S P : Type 0} (sim : Simulation S P) (world : World P) (step : Step) → run sim world (step ∷ []) ≡ (next sim world step).world
unfolding run
run-one sim world step = refl

module _ {S P : Type 0} {sim : Simulation S P} {v : View P} {k : ℕ} {cell : Cell P} (known : Known sim v k cell) (steps : List Step) (before : Part P) (led : local_steps sim v.worker steps v.part ≡ Some before) where
  -- the world that was shown, and the same after the place's local steps
  abbrev there : World P
  there = shown sim known.log

  abbrev then_there : World P
  then_there = run sim (shown sim known.log) steps

  board-does : DoesSo sim v.worker board_cell steps there before (on_board there.board) (made_done steps)
  board-does = local-does sim v.worker there board_cell steps v.part before (on_board there.board) led known.part refl

  book-does : DoesSo sim v.worker book_cell steps there before (in_book there.book) (made_done steps)
  book-does = local-does sim v.worker there book_cell steps v.part before (in_book there.book) led known.part refl

  -- they change neither the board nor the book, and lead to the part before the step
  pub then-part : slice_get then_there.parts v.worker ≡ Some before
  then-part = board-does.part

  pub then-board : then_there.board ≡ there.board
  then-board = let h : ◌≡◌ {A = Option (Cell P)} (Some (on_board then_there.board)) (Some (on_board there.board)) = board-does.cell in let e : then_there.board ≡ there.board = cc in e

  pub then-book : then_there.book ≡ there.book
  then-book = let h : ◌≡◌ {A = Option (Cell P)} (Some (in_book then_there.book)) (Some (in_book there.book)) = book-does.cell in let e : then_there.book ≡ there.book = cc in e

  pub refused-by : (step : Step) (fault : Fault) → IsStepRefusal sim step then_there fault → IsRefusedByShown sim v step fault
  refused-by step fault is = record { log = known.log; right = known.right; part = known.part; mine = known.mine; grows = known.grows; own = known.own; steps = steps; before = before; led = led; refused = is }

  -- a step that is refused on the place's part and on what a cell held
  module _ (step : Step) (whose : IsAny (worker_of sim step) v.worker) {fault : Fault} where
    refused-at : (name : CellName) (held : Cell P) → cell_of sim step ≡ Some name → content then_there name ≡ Some held → IsCellRefusal sim step before held fault → IsRefusedByShown sim v step fault
    refused-at name held named holds why = refused-by step fault (refused-there sim then_there step v.worker whose named then-part holds why)

    refused-at-board : cell_of sim step ≡ Some board_cell → IsCellRefusal sim step before (on_board there.board) fault → IsRefusedByShown sim v step fault
    refused-at-board named = refused-at board_cell (on_board there.board) named (ap (λ (b : Board). (let o : Option (Cell P) = Some (on_board b) in o)) then-board)

    refused-at-book : cell_of sim step ≡ Some book_cell → IsCellRefusal sim step before (in_book there.book) fault → IsRefusedByShown sim v step fault
    refused-at-book named = refused-at book_cell (in_book there.book) named (ap (λ (b : Book). (let o : Option (Cell P) = Some (in_book b) in o)) then-book)

  -- where the definitions refuse it, it is not lawful
  acted-none : (held : Board) (o : Option (CellEffect P Board)) (fault : Fault) → (acted_at before on_board held o).answer ≡ Err fault → (o ≡ None) × (fault ≡ NotLawful)
  acted-none held None fault e = let h : Err NotLawful ≡ Err fault = e in let s : fault ≡ NotLawful = cc in (refl, s)
  acted-none held (Some effect) fault e = absurd (let h : Ok effect.reply ≡ Err fault = e in cc)

  uncut : (fault : Fault) → (act sim (Cut v.worker) before (on_board there.board)).answer ≡ Err fault → (cut_board sim.end v.worker there.board ≡ None) × (fault ≡ NotLawful)
  unfolding act cut
  uncut fault e = let n = acted-none there.board (cut sim v.worker before there.board) fault e in (map-none _ (cut_board sim.end v.worker there.board) n.0, n.1)

  unreported : (fault : Fault) → (act sim (Report v.worker) before (on_board there.board)).answer ≡ Err fault → fault ≡ NotLawful
  unfolding act
  unreported fault e = (acted-none there.board (report sim v.worker before there.board) fault e).1

  pub cut-refused : IsLawful sim → (fault : Fault) → IsCellRefusal sim (Cut v.worker) before (on_board there.board) fault → IsCutRefusal sim v fault
  cut-refused lawful fault why =
      inr (
        refused-at-board (Cut v.worker) refl refl why,
        elim why [
          | inl e ↦ (let u = uncut fault e in inl (u.1, ap (has_cut_since false) (sym known.mine) ∙ refused-cut-known sim v.worker lawful known.log known.right known.within u.0))
          | inr h ↦ elim h.2 [ inl b ↦ inr b.0 | inr b ↦ absurd b.1 ]
        ],
      )

  pub report-refused : (fault : Fault) → IsCellRefusal sim (Report v.worker) before (on_board there.board) fault → IsReportRefusal sim v fault
  report-refused fault why =
      inr (
        refused-at-board (Report v.worker) refl refl why,
        elim why [
          | inl e ↦ unreported fault e
          | inr h ↦ elim h.2 [ inl b ↦ absurd b.1 | inr b ↦ absurd b.1 ]
        ],
      )

  -- ---- the book

  -- the world after the place's local steps, as one that marked steps lead to
  abbrev pub marks : List Marked
  marks = known.log ++ marked v.worker steps

  whole : shown sim marks ≡ then_there
  whole = shown-marked sim known.log v.worker steps

  pub part-there : slice_get (shown sim marks).parts v.worker ≡ Some before
  part-there = ap (λ (n : World P). slice_get n.parts v.worker) whole ∙ then-part

  pub book-there : (shown sim marks).book ≡ there.book
  book-there = ap (λ (n : World P). n.book) whole ∙ then-book

  module _ (lawful : IsLawful sim) where
    pub commit-refused : (fault : Fault) → IsHandInRefusal there.book fault → IsCellRefusal sim (Commit v.worker) before (in_book there.book) fault → IsCommitRefusal sim v fault
    commit-refused fault why at =
        inr (
          refused-at-book (Commit v.worker) refl refl at,
          elim why [
            | inl c ↦ inl (c.0, closed-floors sim lawful known.log v.worker v.part c.1 known.part)
            | inr c ↦ inr c.0
          ],
        )

    pub close-refused : (fault : Fault) (handed_out : ℕ) → IsClosingRefusal (record { end = sim.end; book = there.book; handed_out = handed_out }) fault → (act sim Close before (in_book there.book)).answer ≡ Err fault → IsCloseRefusal sim v fault
    close-refused fault handed_out why at =
        inr (
          refused-at-book Close tt refl (inl at),
          elim why [
            | inl c ↦ inl (c.0, closed-floors sim lawful known.log v.worker v.part c.1 known.part)
            | inr c ↦ (let before_end = unclosable-floor sim lawful known.log c.2 in let low = known.seen in inr (c.0, omega arith))
          ],
        )

    -- the floor that a step at the book leaves
    pub floor-left : (step : Step) → IsAny (worker_of sim step) v.worker → cell_of sim step ≡ Some book_cell → {new : Part P} {left : Book} {reply : Reply}
        → act sim step before (in_book there.book) ≡ record { part = new; cell = in_book left; answer = Ok reply } → (floor : Time) → floor ≡ book_floor sim.end left → IsFloorLeft sim v step floor
    floor-left step whose named {left = left} does floor is =
        let after : (next sim then_there step).world.book ≡ left =
        ap (λ (o : Outcome P). o.world.book) (next-put_back sim then_there step v.worker whose named then-part (ap (λ (b : Book). (let o : Option (Cell P) = Some (in_book b) in o)) then-book) ∙ ap (put_back then_there v.worker book_cell) does) in
        let falls = reached-falls sim lawful 0 (unmarked known.log) (steps ++ step ∷ []) in
        let same : run sim there (steps ++ step ∷ []) ≡ (next sim then_there step).world = run-append sim there steps (step ∷ []) ∙ run-one sim then_there step in
        let up : TimeAtMost (book_floor sim.end there.book) (book_floor sim.end (next sim then_there step).world.book) =
        subst (λ (n : World P). TimeAtMost (book_floor sim.end there.book) (book_floor sim.end n.book)) same falls.floor in
        let floor_is : floor ≡ book_floor sim.end (next sim then_there step).world.book = is ∙ ap (book_floor sim.end) (sym after) in
        let low = known.seen in
        record {
          log = known.log;
          right = known.right;
          mine = known.mine;
          grows = known.grows;
          own = known.own;
          steps = steps;
          before = before;
          led = led;
          floor_is = floor_is;
          rises = omega (arith, up, floor_is, low);
        }

    -- ---- records

    pub records-shown : (floor : Time) (records : List Record) → floor ≡ book_floor sim.end there.book → records ≡ book_records sim.end there.book → AreRecordsShown sim v floor records
    records-shown floor records floor_is records_are =
        let right = records-right sim lawful there (reached-accounted sim lawful 0 (unmarked known.log)) in
        let low = known.seen in
        record {
          log = known.log;
          right = known.right;
          mine = known.mine;
          grows = known.grows;
          own = known.own;
          floor_is = floor_is;
          records_are = records_are ∙ right.records ∙ ap (seq_records sim) (sym floor_is);
          rises = omega (arith, low, floor_is);
          closed = λ h. floor_is ∙ (reached-times sim lawful 0 (unmarked known.log)).floors.closed (closed-known sim v.worker known.log known.right (ap has_closed known.mine ∙ h));
        }
