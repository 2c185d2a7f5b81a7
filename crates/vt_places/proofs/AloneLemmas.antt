-- Where there is one worker, a call is refused as the definitions refuse its step after the place's own steps.
use Rattle.std.proofs.Common.{◌≡◌, ◌⊎◌, inl, inr, ℕ, ◌<◌, Bool, true, false, cond, List, [], ◌∷◌, ◌++◌, map, refl, sym, ◌∙◌, ap, subst, arith, Option, Some, None, Result, Ok, Err, MatchResult, IfErr, slice_get}
use Rattle.std.specs.Option.{option_map}
use Rattle.std.specs.List.{AllByRecursion}
use Rattle.vt_key.specs.declared.fault.Fault.{Fault}
use Rattle.vt_key.specs.declared.fault.Fault.TheVariants.{Memory, NotLawful, Closed, Exhausted}
use Rattle.vt_key.specs.promise.Times.{Time}
use Rattle.vt_model.specs.declared.settings.Config.{Config}
use Rattle.vt_model.specs.promise.Handler.{Handlers}
use Rattle.vt_model.specs.promise.Histories.{IsLawful}
use Rattle.vt_model.specs.promise.Simulation.{Simulation, simulation_of}
use Rattle.vt_steps.specs.declared.step.Step.{Step}
use Rattle.vt_steps.specs.declared.step.Step.TheVariants.{Cut, Report, Commit, Close}
use Rattle.vt_steps.specs.declared.step.Reply.{Reply}
use Rattle.vt_steps.specs.declared.step.Reply.TheVariants.{Done}
use Rattle.vt_steps.specs.promise.BoardSteps.{all_set, cut_board, may_report, with_report}
use Rattle.vt_steps.specs.promise.PartSteps.{part_after_cut, report_sent, report_got, report_least}
use Rattle.vt_steps.specs.promise.World.{Part, Board, Book, World, opening_world}
use Rattle.vt_steps.specs.promise.Cells.{worker_of}
use Rattle.vt_steps.specs.inside.Cells.{board_cell, book_cell, CellName, Cell, on_board, in_book, content, cell_of, Acted, left_alone, acted_at, acted_close, act, local_steps}
use Rattle.vt_steps.specs.promise.CellSteps.{CellEffect, cut, reported, report, commit, close}
use Rattle.vt_steps.specs.inside.Claims.{DoGuardsPass}
use Rattle.vt_steps.specs.inside.Laws.{IsAny}
use Rattle.vt_steps.specs.inside.Marked.{Marked, Made, Answered, answered, unmarked, own_steps_of, shown}
use Rattle.vt_steps.specs.promise.Next.{Outcome, next, run, reached}
use Rattle.vt_steps.proofs.steps.CellLemmas.{next-acts_on_one_cell}
use Rattle.vt_steps.proofs.steps.Outcomes.{unless_closed-shut}
use Rattle.vt_steps.proofs.book.HeadlineTheorem.{guards-pass}
use Rattle.vt_steps.proofs.steps.LocalLeads.{local-does}
use Rattle.vt_kernel.specs.inside.Held.{HeldWorker}
use Rattle.vt_places.specs.declared.view.View.{View}
use Rattle.vt_places.specs.inside.Slots.{cell_at}
use Rattle.vt_places.specs.inside.Calls.{Known, Closes, Reaches, Visited, IsRefusedByShown, IsCutRefusal, IsReportRefusal, IsCommitRefusal, IsCloseRefusal, IsRefusedAlone}
use Rattle.vt_places.proofs.OneList.{steps-own, steps-told}
use Rattle.vt_steps.proofs.steps.MemoryLemmas.{run-append}
use Rattle.vt_steps.proofs.time.Flags.{may-tells}

same-fault : {X : Type 0} (r : Result X Fault) (a b : Fault) → r ≡ Err a → r ≡ Err b → a ≡ b
same-fault r a b e f = let h : ◌≡◌ {A = Result _ Fault} (Err a) (Err b) = sym e ∙ f in cc

not-both : {X Y : Type 0} (r : Result Y Fault) (x : Y) (a : Fault) → r ≡ Ok x → r ≡ Err a → X
not-both r x a e f = absurd (let h : Ok x ≡ Err a = sym e ∙ f in cc)

module _ {S P : Type 0} (sim : Simulation S P) (v : View P) where
  -- a list of the place's own steps alone leads where these lead
  shown-alone : (log : List Marked) → own_steps_of sim v.worker log ≡ map answered v.mine → AllByRecursion (λ m. m.worker ≡ v.worker) log → shown sim log ≡ reached sim 0 (map (λ m. m.step) v.mine)
  shown-alone log mine own =
      ap (reached sim 0) (sym (steps-own v.worker log own) ∙ steps-told sim v.worker log v.mine mine)

  -- after local steps a step is answered by the part and what its cell held before them
  module _ (world : World P) (is : slice_get world.parts v.worker ≡ Some v.part) (steps : List Step) (part : Part P) (led : local_steps sim v.worker steps v.part ≡ Some part) where
    answered-there : (name : CellName) (cell : Cell P) (step : Step) → content world name ≡ Some cell → IsAny (worker_of sim step) v.worker → IsAny (cell_of sim step) name → (next sim (run sim world steps) step).answer ≡ (act sim step part cell).answer
    answered-there name cell step holds whose at =
        let d = local-does sim v.worker world name steps v.part part cell led is holds in
        ap (λ (o : Outcome P). o.answer) ((next-acts_on_one_cell sim (run sim world steps) step).acts v.worker name part cell whose at d.part d.cell)

-- ---- what a step on a board or a book is answered

module _ {S P : Type 0} (sim : Simulation S P) where
  -- a cut whatever the part is
  cut-any : (w : ℕ) (board : Board) (part other : Part P) → (act sim (Cut w) part (on_board board)).answer ≡ (act sim (Cut w) other (on_board board)).answer
  unfolding act cut
  cut-any w board part other = by_cut (cut_board sim.end w board)
    where
      after_cut : Part P → Option Board → Option (CellEffect P Board)
      after_cut own o = option_map (λ new. record { part = part_after_cut sim.end board.announced own; cell = new; reply = Done }) o

      by_cut : (o : Option Board) → (acted_at part on_board board (after_cut part o)).answer ≡ (acted_at other on_board board (after_cut other o)).answer
      by_cut None = refl
      by_cut (Some new) = refl

  close-any : (book : Book) (part other : Part P) → (act sim Close part (in_book book)).answer ≡ (act sim Close other (in_book book)).answer
  unfolding act
  close-any book part other = by_case book.is_closed (close sim book)
    where
      by_case : (b : Bool) (o : Option Book) → (let x : Acted P = cond b (left_alone part (in_book book) Closed) (acted_close part book o) in x.answer)
          ≡ (let x : Acted P = cond b (left_alone other (in_book book) Closed) (acted_close other book o) in x.answer)
      by_case true o = refl
      by_case false None = refl
      by_case false (Some new) = refl

  -- a report is refused as not lawful alone
  report-refused : (w : ℕ) (board : Board) (part : Part P) (fault : Fault) → (act sim (Report w) part (on_board board)).answer ≡ Err fault → fault ≡ NotLawful
  unfolding act
  report-refused w board part fault = by_case (report sim w part board)
    where
      by_case : (o : Option (CellEffect P Board)) → (acted_at part on_board board o).answer ≡ Err fault → fault ≡ NotLawful
      by_case None h = let k : ◌≡◌ {A = Result Reply Fault} (Err NotLawful) (Err fault) = h in cc
      by_case (Some effect) h = absurd (let k : Ok effect.reply ≡ Err fault = h in cc)

  -- it is refused where the board doesn't take it
  report-not : (w : ℕ) (board : Board) (part : Part P) → may_report w (report_least sim.end part) board ≡ false → (act sim (Report w) part (on_board board)).answer ≡ Err NotLawful
  unfolding act report
  report-not w board part may =
      ap (λ b. (let x : Acted P = acted_at part on_board board (cond b (Some (reported sim part (with_report w (report_sent part) (report_got part) (report_least sim.end part) board))) None) in x.answer)) may

  -- on a closed book a commit is refused as closed
  commit-on_closed : (w : ℕ) (book : Book) (part : Part P) → book.is_closed ≡ true → (act sim (Commit w) part (in_book book)).answer ≡ Err Closed
  unfolding act
  commit-on_closed w book part closed =
      ap (λ (a : Acted P). a.answer) (unless_closed-shut book (left_alone part (in_book book)) (acted_at part in_book book (commit sim w part book)) closed)

-- ---- the calls

-- a fault of a guard
abbrev OfGuard : Fault → Type 0
OfGuard fault = (fault ≡ NotLawful) ⊎ (fault ≡ Closed)

not-spent : {X : Type 0} (fault : Fault) → OfGuard fault → (fault ≡ Exhausted) ⊎ (fault ≡ Memory) → X
not-spent fault (inl a) (inl b) = absurd (let h : NotLawful ≡ Exhausted = sym a ∙ b in cc)
not-spent fault (inl a) (inr b) = absurd (let h : NotLawful ≡ Memory = sym a ∙ b in cc)
not-spent fault (inr a) (inl b) = absurd (let h : Closed ≡ Exhausted = sym a ∙ b in cc)
not-spent fault (inr a) (inr b) = absurd (let h : Closed ≡ Memory = sym a ∙ b in cc)

module _ {S P : Type 0} (sim : Simulation S P) (v : View P) where
  -- the world that the place's own steps lead to, and then these local steps
  abbrev own_world : List Step → World P
  own_world steps = run sim (reached sim 0 (map (λ m. m.step) v.mine)) steps

  -- a refusal by a world that was shown, and local steps of the place
  module _ (step : Step) (fault : Fault) (one : sim.workers ≡ 1) (b : IsRefusedByShown sim v step fault) (steps : List Step) (part : Part P) (led : local_steps sim v.worker steps v.part ≡ Some part)
      (whose : IsAny (worker_of sim step) v.worker) where
    -- the world that refused it
    abbrev refusing : World P
    refusing = run sim (shown sim b.log) b.steps

    same-world : shown sim b.log ≡ reached sim 0 (map (λ m. m.step) v.mine)
    same-world = shown-alone sim v b.log b.mine (b.own one)

    passing : IsLawful sim → DoGuardsPass sim refusing
    passing lawful = subst (DoGuardsPass sim) (run-append sim (opening_world sim 0) (unmarked b.log) b.steps) (guards-pass sim lawful 0 (unmarked b.log ++ b.steps))

    -- a guard of the definitions refused it
    by-guard : OfGuard fault → (next sim refusing step).answer ≡ Err fault
    by-guard guard = elim b.refused [
      | inl x ↦ x
      | inr x ↦ elim x.2 [ inl y ↦ not-spent fault guard (inl y.0) | inr y ↦ not-spent fault guard (inr y.0) ]
    ]

    -- after these local steps it is refused as it was there, where the answer is the same whatever the local steps were
    refused-here : (name : CellName) (cell : Cell P) (f : Fault) → content (shown sim b.log) name ≡ Some cell → IsAny (cell_of sim step) name
        → (act sim step part cell).answer ≡ Err f → (next sim (own_world steps) step).answer ≡ Err f
    refused-here name cell f holds at refused =
        ap (λ (n : World P). (next sim (run sim n steps) step).answer) (sym same-world) ∙ answered-there sim v (shown sim b.log) b.part steps part led name cell step holds whose at ∙ refused

    guarded-here : (name : CellName) (cell : Cell P) → content (shown sim b.log) name ≡ Some cell → IsAny (cell_of sim step) name
        → (act sim step b.before cell).answer ≡ (act sim step part cell).answer → OfGuard fault → (next sim (own_world steps) step).answer ≡ Err fault
    guarded-here name cell holds at same guard =
        refused-here name cell fault holds at (sym same ∙ sym (answered-there sim v (shown sim b.log) b.part b.steps b.before b.led name cell step holds whose at) ∙ by-guard guard)

    -- the definitions' refusal after these local steps
    module _ (f : Fault) (no_step : (next sim (own_world steps) step).answer ≡ Err f) where
      no-step : (next sim (run sim (shown sim b.log) steps) step).answer ≡ Err f
      no-step = ap (λ (n : World P). (next sim (run sim n steps) step).answer) same-world ∙ no_step

      -- they are one where the answer is the same whatever the local steps were
      same-refusal : (name : CellName) (cell : Cell P) → content (shown sim b.log) name ≡ Some cell → IsAny (cell_of sim step) name
          → (act sim step b.before cell).answer ≡ (act sim step part cell).answer → fault ≡ f
      same-refusal name cell holds at same =
          let there = answered-there sim v (shown sim b.log) b.part b.steps b.before b.led name cell step holds whose at in
          let here = answered-there sim v (shown sim b.log) b.part steps part led name cell step holds whose at in
          let refused : (next sim refusing step).answer ≡ Err f = there ∙ same ∙ sym here ∙ no-step in
          elim b.refused [
            | inl x ↦ same-fault (next sim refusing step).answer fault f x refused
            | inr x ↦ not-both (next sim refusing step).answer x.0 f x.1 refused
          ]

      -- the book is as it was
      same-book : (own_world steps).book ≡ (shown sim b.log).book
      same-book =
          let book = (shown sim b.log).book in
          let d = local-does sim v.worker (shown sim b.log) book_cell steps v.part part (in_book book) led b.part refl in
          let there : (run sim (shown sim b.log) steps).book ≡ book = (let h : ◌≡◌ {A = Option (Cell P)} (Some (in_book (run sim (shown sim b.log) steps).book)) (Some (in_book book)) = d.cell in cc) in
          ap (λ (n : World P). (run sim n steps).book) (sym same-world) ∙ there

    -- nor did the steps there change the board or the book
    there-board : refusing.board ≡ (shown sim b.log).board
    there-board =
        let board = (shown sim b.log).board in
        let d = local-does sim v.worker (shown sim b.log) board_cell b.steps v.part b.before (on_board board) b.led b.part refl in
        let h : ◌≡◌ {A = Option (Cell P)} (Some (on_board refusing.board)) (Some (on_board board)) = d.cell in
        let e : refusing.board ≡ board = cc in e

    there-book : refusing.book ≡ (shown sim b.log).book
    there-book =
        let book = (shown sim b.log).book in
        let d = local-does sim v.worker (shown sim b.log) book_cell b.steps v.part b.before (in_book book) b.led b.part refl in
        let h : ◌≡◌ {A = Option (Cell P)} (Some (in_book refusing.book)) (Some (in_book book)) = d.cell in
        let e : refusing.book ≡ book = cc in e

  -- what was done was not refused
  done-alone : (steps : List Step) (part : Part P) (step : Step) (reply : Reply) (cell : ℕ) (found : Cell P) (known : Known sim v cell found) → sim.workers ≡ 1 → local_steps sim v.worker steps v.part ≡ Some part
      → IsAny (worker_of sim step) v.worker → IsAny (cell_of sim step) (cell_at sim.workers cell) → (act sim step part found).answer ≡ Ok reply → (next sim (own_world steps) step).answer ≡ Ok reply
  done-alone steps part step reply cell found known one led whose at does =
      ap (λ (n : World P). (next sim (run sim n steps) step).answer) (sym (shown-alone sim v known.log known.mine (known.own one)))
      ∙ answered-there sim v (shown sim known.log) known.part steps part led (cell_at sim.workers cell) found step known.shows whose at ∙ does

  by-answer : {X : Type 0} (result : Result X Fault) (steps : List Step) (step : Step) (DoneSo : X → Type 0) (Kept : Type 0) (Why : Fault → Type 0) → MatchResult result DoneSo (λ _. Kept) → IfErr result Why
      → (sim.workers ≡ 1 → (x : X) → DoneSo x → (reply : Reply) × ((next sim (own_world steps) step).answer ≡ Ok reply))
      → (sim.workers ≡ 1 → (fault f : Fault) → Why fault → (next sim (own_world steps) step).answer ≡ Err f → fault ≡ f)
      → (sim.workers ≡ 1 → (fault : Fault) → Why fault → OfGuard fault → (next sim (own_world steps) step).answer ≡ Err fault)
      → IsRefusedAlone sim v steps step result
  by-answer {X} (Ok x) steps step DoneSo Kept Why done why goes stops guards one f = (
    λ no_step. (let d = goes one x done in not-both (next sim (own_world steps) step).answer d.0 f d.1 no_step),
    λ guard is. absurd (let h : ◌≡◌ {A = Result X Fault} (Ok x) (Err f) = is in cc),
  )
  by-answer {X} (Err fault) steps step DoneSo Kept Why done why goes stops guards one f = (
    λ no_step. ap (λ (g : Fault). Err g) (stops one fault f why no_step),
    λ guard is.
        (let h : ◌≡◌ {A = Result X Fault} (Err fault) (Err f) = is in
        let same : fault ≡ f = cc in
        guards one fault why (subst OfGuard (sym same) guard) ∙ ap (λ (g : Fault). Err g) same),
  )

  pub close-alone : {X : Type 0} (result : Result X Fault) (seen : Time) (w : View P) (Kept : Type 0) → MatchResult result (λ _. Closes sim v seen w) (λ _. Kept) → IfErr result (λ fault. IsCloseRefusal sim v fault) → IsRefusedAlone sim v [] Close result
  close-alone result seen w Kept done why =
      by-answer result [] Close (λ _. Closes sim v seen w) Kept (λ fault. IsCloseRefusal sim v fault) done why
      (λ one x d. (Done, done-alone [] v.part Close Done d.at.cell d.at.found d.at.known one refl tt d.at.about (ap (λ (a : Acted P). a.answer) d.at.gives))) stops guards
    where
      stops : sim.workers ≡ 1 → (fault f : Fault) → IsCloseRefusal sim v fault → (next sim (own_world []) Close).answer ≡ Err f → fault ≡ f
      stops one fault f (inl busy) no_step = absurd (let more = busy.1 in omega arith)
      stops one fault f (inr x) no_step =
          let b = x.0 in
          let book = (shown sim b.log).book in
          same-refusal Close fault one b [] v.part refl tt f no_step book_cell (in_book book) refl refl (close-any sim book b.before v.part)

      guards : sim.workers ≡ 1 → (fault : Fault) → IsCloseRefusal sim v fault → OfGuard fault → (next sim (own_world []) Close).answer ≡ Err fault
      guards one fault (inl busy) guard = absurd (let more = busy.1 in omega arith)
      guards one fault (inr x) guard =
          let b = x.0 in
          let book = (shown sim b.log).book in
          guarded-here Close fault one b [] v.part refl tt book_cell (in_book book) refl refl (close-any sim book b.before v.part) guard

module _ {S P K : Type 0} (handlers : Handlers S P K) (config : Config) (v w : View P) (before left : HeldWorker S P K) (r : Reaches handlers config v before) (Kept : Type 0) {worker : ℕ} (own : v.worker ≡ worker) where
  abbrev sim : Simulation S P
  sim = simulation_of handlers config

  went : (step : Step) (reply : Reply) (seen : Time) → IsAny (worker_of sim step) v.worker → sim.workers ≡ 1 → Visited handlers config v before step reply left seen w
      → (answer : Reply) × ((next sim (own_world sim v r.steps) step).answer ≡ Ok answer)
  went step reply seen whose one d =
      let at = d.visits.at in
      (reply, done-alone sim v r.steps r.part step reply at.cell at.found at.known one r.led whose at.about (ap (λ (a : Acted P). a.answer) (d.visits.does.acts r.part r.stands).1))

  pub cut-alone : {X : Type 0} (result : Result X Fault) (seen : Time) → MatchResult result (λ _. Visited handlers config v before (Cut worker) Done left seen w) (λ _. Kept)
      → IfErr result (λ fault. IsCutRefusal sim v fault) → IsRefusedAlone sim v r.steps (Cut worker) result
  cut-alone result seen done why =
      subst (λ (u : ℕ). MatchResult result (λ _. Visited handlers config v before (Cut u) Done left seen w) (λ _. Kept) → IsRefusedAlone sim v r.steps (Cut u) result) own
      (λ at. by-answer sim v result r.steps (Cut v.worker) (λ _. Visited handlers config v before (Cut v.worker) Done left seen w) Kept (λ fault. IsCutRefusal sim v fault) at why (λ one x d. went (Cut v.worker) Done seen refl one d) stops guards) done
    where
      stops : sim.workers ≡ 1 → (fault f : Fault) → IsCutRefusal sim v fault → (next sim (own_world sim v r.steps) (Cut v.worker)).answer ≡ Err f → fault ≡ f
      stops one fault f (inl busy) no_step = absurd (let more = busy.1 in omega arith)
      stops one fault f (inr x) no_step =
          let b = x.0 in
          let board = (shown sim b.log).board in
          same-refusal sim v (Cut v.worker) fault one b r.steps r.part r.led refl f no_step board_cell (on_board board) refl refl (cut-any sim v.worker board b.before r.part)

      guards : sim.workers ≡ 1 → (fault : Fault) → IsCutRefusal sim v fault → OfGuard fault → (next sim (own_world sim v r.steps) (Cut v.worker)).answer ≡ Err fault
      guards one fault (inl busy) guard = absurd (let more = busy.1 in omega arith)
      guards one fault (inr x) guard =
          let b = x.0 in
          let board = (shown sim b.log).board in
          guarded-here sim v (Cut v.worker) fault one b r.steps r.part r.led refl board_cell (on_board board) refl refl (cut-any sim v.worker board b.before r.part) guard

  pub report-alone : {X : Type 0} (result : Result X Fault) (seen : Time) (reply : X → Reply) → IsLawful sim → MatchResult result (λ x. Visited handlers config v before (Report worker) (reply x) left seen w) (λ _. Kept)
      → IfErr result (λ fault. IsReportRefusal sim v fault) → IsRefusedAlone sim v r.steps (Report worker) result
  report-alone result seen reply lawful done why =
      subst (λ (u : ℕ). MatchResult result (λ x. Visited handlers config v before (Report u) (reply x) left seen w) (λ _. Kept) → IsRefusedAlone sim v r.steps (Report u) result) own
      (λ at. by-answer sim v result r.steps (Report v.worker) (λ x. Visited handlers config v before (Report v.worker) (reply x) left seen w) Kept (λ fault. IsReportRefusal sim v fault) at why (λ one x d. went (Report v.worker) (reply x) seen refl one d) stops guards) done
    where
      stops : sim.workers ≡ 1 → (fault f : Fault) → IsReportRefusal sim v fault → (next sim (own_world sim v r.steps) (Report v.worker)).answer ≡ Err f → fault ≡ f
      stops one fault f (inl busy) no_step = absurd (let more = busy.1 in omega arith)
      stops one fault f (inr x) no_step =
          let b = x.0 in
          let board = (shown sim b.log).board in
          let here = answered-there sim v (shown sim b.log) b.part r.steps r.part r.led board_cell (on_board board) (Report v.worker) refl refl refl in
          x.1 ∙ sym (report-refused sim v.worker board r.part f (sym here ∙ no-step sim v (Report v.worker) fault one b r.steps r.part r.led refl f no_step))

      -- only the board can have refused it, since no worker's value is below the announced time
      guards : sim.workers ≡ 1 → (fault : Fault) → IsReportRefusal sim v fault → OfGuard fault → (next sim (own_world sim v r.steps) (Report v.worker)).answer ≡ Err fault
      guards one fault (inl busy) guard = absurd (let more = busy.1 in omega arith)
      guards one fault (inr x) guard = by_may (may_report v.worker (report_least sim.end r.part) (shown sim x.0.log).board) refl
        where
          by_may : (may : Bool) → may_report v.worker (report_least sim.end r.part) (shown sim x.0.log).board ≡ may → (next sim (own_world sim v r.steps) (Report v.worker)).answer ≡ Err fault
          by_may false is =
              let board = (shown sim x.0.log).board in
              refused-here sim v (Report v.worker) fault one x.0 r.steps r.part r.led refl board_cell (on_board board) fault refl refl
              (report-not sim v.worker board r.part is ∙ ap (λ (f : Fault). Err f) (sym x.1))
          by_may true is =
              let same = there-board sim v (Report v.worker) fault one x.0 r.steps r.part r.led refl in
              let h = may-tells v.worker (report_least sim.end r.part) (shown sim x.0.log).board is in
              let taken = (passing sim v (Report v.worker) fault one x.0 r.steps r.part r.led refl lawful).reports v.worker
              (ap (λ (y : Board). y.is_open) same ∙ h.0) (ap (λ (y : Board). all_set y.has_cut) same ∙ h.1) (ap (λ (y : Board). slice_get y.has_reported v.worker) same ∙ h.2) in
              not-both (next sim (refusing sim v (Report v.worker) fault one x.0 r.steps r.part r.led refl) (Report v.worker)).answer taken.0 fault taken.1
              (by-guard sim v (Report v.worker) fault one x.0 r.steps r.part r.led refl guard)

  pub commit-alone : {X : Type 0} (result : Result X Fault) → IsLawful sim → v.worker < sim.workers → MatchResult result (λ _. (seen : Time) × Visited handlers config v before (Commit worker) Done left seen w) (λ _. Kept)
      → IfErr result (λ fault. IsCommitRefusal sim v fault) → IsRefusedAlone sim v r.steps (Commit worker) result
  commit-alone result lawful known done why =
      subst (λ (u : ℕ). MatchResult result (λ _. (seen : Time) × Visited handlers config v before (Commit u) Done left seen w) (λ _. Kept) → IsRefusedAlone sim v r.steps (Commit u) result) own
      (λ at. by-answer sim v result r.steps (Commit v.worker) (λ _. (seen : Time) × Visited handlers config v before (Commit v.worker) Done left seen w) Kept (λ fault. IsCommitRefusal sim v fault) at why (λ one x d. went (Commit v.worker) Done d.0 refl one d.1) stops guards) done
    where
      by_closed : (fault f : Fault) → sim.workers ≡ 1 → (b : IsRefusedByShown sim v (Commit v.worker) fault) → (next sim (own_world sim v r.steps) (Commit v.worker)).answer ≡ Err f → (c : Bool) → (shown sim b.log).book.is_closed ≡ c → fault ≡ f
      by_closed fault f one b no_step true is =
          let book = (shown sim b.log).book in
          same-refusal sim v (Commit v.worker) fault one b r.steps r.part r.led refl f no_step book_cell (in_book book) refl refl
          (commit-on_closed sim v.worker book b.before is ∙ sym (commit-on_closed sim v.worker book r.part is))
      by_closed fault f one b no_step false is =
          let own = map (λ (m : Made). m.step) v.mine in
          let whole : run sim (reached sim 0 own) r.steps ≡ reached sim 0 (own ++ r.steps) = sym (run-append sim (opening_world sim 0) own r.steps) in
          let open_is = ap (λ (n : World P). n.book.is_closed) (sym whole) ∙ ap (λ (k : Book). k.is_closed) (same-book sim v (Commit v.worker) fault one b r.steps r.part r.led refl f no_step) ∙ is in
          not-both (next sim (own_world sim v r.steps) (Commit v.worker)).answer Done f (ap (λ (n : World P). (next sim n (Commit v.worker)).answer) whole ∙ (guards-pass sim lawful 0 (own ++ r.steps)).commits v.worker known open_is) no_step

      stops : sim.workers ≡ 1 → (fault f : Fault) → IsCommitRefusal sim v fault → (next sim (own_world sim v r.steps) (Commit v.worker)).answer ≡ Err f → fault ≡ f
      stops one fault f (inl busy) no_step = absurd (let more = busy.1 in omega arith)
      stops one fault f (inr x) no_step = by_closed fault f one x.0 no_step (shown sim x.0.log).book.is_closed refl

      by_book : (fault : Fault) → sim.workers ≡ 1 → (b : IsRefusedByShown sim v (Commit v.worker) fault) → OfGuard fault → (c : Bool) → (shown sim b.log).book.is_closed ≡ c → (next sim (own_world sim v r.steps) (Commit v.worker)).answer ≡ Err fault
      by_book fault one b guard true is =
          let book = (shown sim b.log).book in
          guarded-here sim v (Commit v.worker) fault one b r.steps r.part r.led refl book_cell (in_book book) refl refl
          (commit-on_closed sim v.worker book b.before is ∙ sym (commit-on_closed sim v.worker book r.part is)) guard
      by_book fault one b guard false is =
          let open_is = ap (λ (k : Book). k.is_closed) (there-book sim v (Commit v.worker) fault one b r.steps r.part r.led refl) ∙ is in
          not-both (next sim (refusing sim v (Commit v.worker) fault one b r.steps r.part r.led refl) (Commit v.worker)).answer Done fault
          ((passing sim v (Commit v.worker) fault one b r.steps r.part r.led refl lawful).commits v.worker known open_is) (by-guard sim v (Commit v.worker) fault one b r.steps r.part r.led refl guard)

      guards : sim.workers ≡ 1 → (fault : Fault) → IsCommitRefusal sim v fault → OfGuard fault → (next sim (own_world sim v r.steps) (Commit v.worker)).answer ≡ Err fault
      guards one fault (inl busy) guard = absurd (let more = busy.1 in omega arith)
      guards one fault (inr x) guard = by_book fault one x.0 guard (shown sim x.0.log).book.is_closed refl
