-- A worker that has cut in the open round has cut since it was last told of an announcement: so its cut is refused only then.
use Rattle.std.proofs.Common.{◌≡◌, inl, inr, ℕ, zero, suc, ◌<◌, Bool, true, false, cond, List, [], ◌∷◌, ◌++◌, length, replicate, refl, sym, ◌∙◌, ap, subst, arith, Option, Some, None, Result, Ok, slice_get, slice_set, nat_eq}
use Rattle.std.specs.Option.{option_map}
use Rattle.std.specs.List.{AllByRecursion}
use Rattle.std.proofs.lemmas.Bool.Decides.{eqb_tells}
use Rattle.std.proofs.lemmas.Bool.{and_parts}
use Rattle.vt_key.specs.promise.Times.{Time, opening_time}
use Rattle.vt_key.specs.declared.fault.Fault.{Fault}
use Rattle.vt_model.specs.promise.Histories.{IsLawful}
use Rattle.vt_model.specs.promise.Simulation.{Simulation}
use Rattle.vt_steps.specs.declared.step.Step.{Step}
use Rattle.vt_steps.specs.declared.step.Step.TheVariants.{Execute, Undo, Cancel, Home, Send, Fetch, Accept, Cut, Report, Commit, Close}
use Rattle.vt_steps.specs.declared.step.Reply.{Reply}
use Rattle.vt_steps.specs.declared.step.Reply.TheVariants.{Done}
use Rattle.vt_steps.specs.promise.BoardSteps.{is_clear, with_open_round, cut_board, may_report, with_report, after_report}
use Rattle.vt_steps.specs.promise.Cells.{worker_of}
use Rattle.vt_steps.specs.inside.Laws.{IsAny}
use Rattle.vt_steps.specs.inside.Marked.{Marked, Answered, unmarked, IsMarkedRight, own_steps, shown, own_steps_of, cut_by_now, has_cut_since}
use Rattle.vt_steps.specs.promise.CellSteps.{CellEffect, send, fetch, cut, report, commit, close}
use Rattle.vt_steps.specs.promise.Next.{effect_in, Outcome, next, refused, with_part, with_inbox, with_board, with_book, at_cell}
use Rattle.vt_steps.specs.promise.PartSteps.{report_sent, report_got, report_least}
use Rattle.vt_steps.specs.promise.World.{Part, Board, World, opening_world}
use Rattle.vt_steps.proofs.steps.Changes.{if_has, map_has}
use Rattle.vt_steps.proofs.steps.Outcomes.{at_cell-either, done_or_refused-either, unless_closed-either, with_open_round-either, after_report-either}
use Rattle.vt_steps.proofs.time.Flags.{none-set}
use Rattle.vt_steps.proofs.time.Floors.{reached-times}
use Rattle.vt_steps.proofs.steps.Locals.{local-changes_one_part}
use Rattle.vt_steps.proofs.marks.MarkedRuns.{own-keeps}
use Rattle.vt_steps.proofs.lists.Indices.{get-put_other, get-within}

-- ---- what a step does to the board

-- nothing, and it is no news to its worker; or it is a cut, or a report, which leaves who has cut, and is answered by an
-- announcement only where it ends the round
data OnBoard {P : Type 0} (end : Time) (old : Board) (step : Step) (outcome : Outcome P) : Type 0 where
  stays : outcome.world.board ≡ old → ((so_far : Bool) → cut_by_now so_far step outcome.answer ≡ so_far) → OnBoard end old step outcome
  cuts : (v : ℕ) → step ≡ Cut v → cut_board end v old ≡ Some outcome.world.board → outcome.answer ≡ Ok Done → OnBoard end old step outcome
  reports : old.is_open ≡ true → outcome.world.board.has_cut ≡ old.has_cut →
      (outcome.world.board.is_open ≡ true → (so_far : Bool) → cut_by_now so_far step outcome.answer ≡ so_far) → OnBoard end old step outcome

-- a report leaves who has cut
report-has_cut : (end : Time) (board : Board) → (after_report end board).board.has_cut ≡ board.has_cut
report-has_cut end board = after_report-either end board (λ effect. effect.board.has_cut ≡ board.has_cut) (λ some. refl) (λ all same. refl) (λ all apart. refl)

-- it is answered by an announcement only where it ends the round
report-open : (end : Time) (board : Board) (v : ℕ) → (after_report end board).board.is_open ≡ true → (so_far : Bool) →
    cut_by_now so_far (Report v) (Ok (after_report end board).reply) ≡ so_far
report-open end board v is_open so_far =
    after_report-either end board (λ effect. effect.board.is_open ≡ true → cut_by_now so_far (Report v) (Ok effect.reply) ≡ so_far)
    (λ some e. refl) (λ all same e. absurd (let h : false ≡ true = e in cc)) (λ all apart e. refl) is_open

module _ {S P : Type 0} (sim : Simulation S P) where
  -- a step at another cell than the board, which is no news to its worker
  elsewhere : {C : Type 0} (world : World P) (step : Step) (w : ℕ) (put : World P → C → World P) (does : Part P → C → Option (CellEffect P C)) (cell : Option C) →
      ((answer : Result Reply Fault) (so_far : Bool) → cut_by_now so_far step answer ≡ so_far) → ((new : World P) (c : C) → (put new c).board ≡ new.board) →
      OnBoard sim.end world.board step (at_cell world w put does cell)
  elsewhere world step w put does cell no_news leaves =
      at_cell-either world w put does cell (OnBoard sim.end world.board step) (stays refl (no_news _)) (λ part held effect is holds e.
      stays (leaves (with_part world w effect.part) effect.cell) (no_news _))

  cut-board : (world : World P) (v : ℕ) → OnBoard sim.end world.board (Cut v) (at_cell world v with_board (cut sim v) (Some world.board))
  unfolding cut
  cut-board world v =
      at_cell-either world v with_board (cut sim v) (Some world.board) (OnBoard sim.end world.board (Cut v)) (stays refl (λ so_far. refl)) (λ part board effect is holds e.
      (let same : world.board ≡ board = cc in
      let has = map_has _ (cut_board sim.end v world.board) effect (ap (cut sim v part) same ∙ e) in
      cuts v refl (has.1 ∙ ap (λ (x : CellEffect P Board). Some x.cell) (sym has.2)) (ap (λ (x : CellEffect P Board). Ok x.reply) has.2)))

  report-board : (world : World P) (v : ℕ) → OnBoard sim.end world.board (Report v) (at_cell world v with_board (report sim v) (Some world.board))
  unfolding report with_report
  report-board world v =
      at_cell-either world v with_board (report sim v) (Some world.board) (OnBoard sim.end world.board (Report v)) (stays refl (λ so_far. refl)) (λ part held effect is holds e.
      (let same : world.board ≡ held = cc in
      let has = if_has (may_report v (report_least sim.end part) world.board) _ effect (ap (report sim v part) same ∙ e) in
      let board = with_report v (report_sent part) (report_got part) (report_least sim.end part) world.board in
      subst (λ (x : CellEffect P Board). OnBoard sim.end world.board (Report v) (effect_in world v with_board (Some x))) (sym has.1)
      (reports (and_parts world.board.is_open _ has.0).0 (report-has_cut sim.end board) (report-open sim.end board v))))

  on-board : (world : World P) (step : Step) → OnBoard sim.end world.board step (next sim world step)
  unfolding next
  on-board world (Execute p) = stays (local-changes_one_part sim world (Execute p) refl).board (λ so_far. refl)
  on-board world (Undo p) = stays (local-changes_one_part sim world (Undo p) refl).board (λ so_far. refl)
  on-board world (Cancel p stamp) = stays (local-changes_one_part sim world (Cancel p stamp) refl).board (λ so_far. refl)
  on-board world (Home w) = stays (local-changes_one_part sim world (Home w) refl).board (λ so_far. refl)
  on-board world (Accept w i) = stays (local-changes_one_part sim world (Accept w i) refl).board (λ so_far. refl)
  on-board world (Send w v) = elsewhere world (Send w v) w (with_inbox v) (send sim w v) (slice_get world.inboxes v) (λ answer so_far. refl) (λ new c. refl)
  on-board world (Fetch w) = elsewhere world (Fetch w) w (with_inbox w) fetch (slice_get world.inboxes w) (λ answer so_far. refl) (λ new c. refl)
  on-board world (Cut w) = cut-board world w
  on-board world (Report w) = report-board world w
  on-board world (Commit w) =
      unless_closed-either world.book (refused world) _ (OnBoard sim.end world.board (Commit w)) (λ shut. stays refl (λ so_far. refl))
      (λ is_open. elsewhere world (Commit w) w with_book (commit sim w) (Some world.book) (λ answer so_far. refl) (λ new c. refl))
  on-board world Close =
      unless_closed-either world.book (refused world) _ (OnBoard sim.end world.board Close) (λ shut. stays refl (λ so_far. refl))
      (λ is_open. done_or_refused-either world (option_map (with_book world) (close sim world.book)) (OnBoard sim.end world.board Close) (stays refl (λ so_far. refl)) (λ new e.
      stays (ap (λ (n : World P). n.board) (map_has (with_book world) (close sim world.book) new e).2) (λ so_far. refl)))

-- ---- the invariant

pub cut_since-append : (so_far : Bool) (xs ys : List Answered) → has_cut_since so_far (xs ++ ys) ≡ has_cut_since (has_cut_since so_far xs) ys
cut_since-append so_far [] ys = refl
cut_since-append so_far (x ∷ xs) ys = cut_since-append (cut_by_now so_far x.step x.answer) xs ys

module _ {S P : Type 0} (sim : Simulation S P) (w : ℕ) where
  -- where a round is open in which worker w has cut, it has cut since it was last told of an announcement
  abbrev CutKnown : World P → List Answered → Type 0
  CutKnown world own = world.board.is_open ≡ true → slice_get world.board.has_cut w ≡ Some true → has_cut_since false own ≡ true

  -- what the worker can tell after one more step
  told : (world : World P) (own : List Answered) (m : Marked) →
      has_cut_since false (own ++ own_steps sim w world (m ∷ [])) ≡ cond (nat_eq m.worker w) (cut_by_now (has_cut_since false own) m.step (next sim world m.step).answer) (has_cut_since false own)
  unfolding own_steps
  told world own m =
      cut_since-append false own (own_steps sim w world (m ∷ []))
      ∙ elim (nat_eq m.worker w) as (λ b. has_cut_since (has_cut_since false own) (cond b (record { step = m.step; answer = (next sim world m.step).answer } ∷ []) []) ≡ cond b (cut_by_now (has_cut_since false own) m.step (next sim world m.step).answer) (has_cut_since false own)) [
        | true ↦ refl
        | false ↦ refl
      ]

  same-either : (b : Bool) (x : Bool) → cond b x x ≡ x
  same-either true x = refl
  same-either false x = refl

  -- what is no news leaves what is known
  no-news : (world : World P) (own : List Answered) (m : Marked) → cut_by_now (has_cut_since false own) m.step (next sim world m.step).answer ≡ has_cut_since false own →
      has_cut_since false (own ++ own_steps sim w world (m ∷ [])) ≡ has_cut_since false own
  no-news world own m same =
      told world own m ∙ ap (λ x. cond (nat_eq m.worker w) x (has_cut_since false own)) same ∙ same-either (nat_eq m.worker w) (has_cut_since false own)

  -- a board with an open round in which another worker has cut
  another-cut : (end : Time) (v : ℕ) (old new : Board) → ¬ (w ≡ v) → cut_board end v old ≡ Some new → slice_get new.has_cut w ≡ Some true → (old.is_open ≡ true) × (slice_get old.has_cut w ≡ Some true)
  another-cut end v old new apart cut_is set =
      let opened = with_open_round end old in
      let has = if_has (is_clear (slice_get opened.has_cut v)) (record opened { has_cut = slice_set opened.has_cut v true }) new cut_is in
      let there : slice_get opened.has_cut w ≡ Some true = sym (get-put_other opened.has_cut v w true apart) ∙ sym (ap (λ (b : Board). slice_get b.has_cut w) has.1) ∙ set in
      with_open_round-either end old (λ (o : Board). slice_get o.has_cut w ≡ Some true → (old.is_open ≡ true) × (slice_get old.has_cut w ≡ Some true))
      (λ is h. (is, h)) (λ shut h. absurd (none-set (length old.has_cut) w h)) there

  cut-step : (world : World P) (own : List Answered) (m : Marked) → IsMarkedRight sim m → CutKnown world own → CutKnown (next sim world m.step).world (own ++ own_steps sim w world (m ∷ []))
  cut-step world own m right known = by_board (on-board sim world m.step)
    where
      by_board : OnBoard sim.end world.board m.step (next sim world m.step) → CutKnown (next sim world m.step).world (own ++ own_steps sim w world (m ∷ []))
      by_board (stays same news) is_open set =
          no-news world own m (news (has_cut_since false own))
          ∙ known (ap (λ (b : Board). b.is_open) (sym same) ∙ is_open) (ap (λ (b : Board). slice_get b.has_cut w) (sym same) ∙ set)
      by_board (reports was same news) is_open set =
          no-news world own m (news is_open (has_cut_since false own)) ∙ known was (ap (λ (flags : List Bool). slice_get flags w) (sym same) ∙ set)
      by_board (cuts v is board answer) is_open set =
          let mine : v ≡ m.worker = subst (λ s. IsAny (worker_of sim s) m.worker) is right in
          elim (eqb_tells m.worker w) [
            | inl e ↦
                told world own m
                ∙ ap (λ b. cond b (cut_by_now (has_cut_since false own) m.step (next sim world m.step).answer) (has_cut_since false own)) e.0
                ∙ ap (λ s. cut_by_now (has_cut_since false own) s (next sim world m.step).answer) is
                ∙ ap (cut_by_now (has_cut_since false own) (Cut v)) answer
            | inr e ↦
                (let before = another-cut sim.end v world.board (next sim world m.step).world.board (λ h. e.1 (sym mine ∙ sym h)) board set in
                told world own m
                ∙ ap (λ b. cond b (cut_by_now (has_cut_since false own) m.step (next sim world m.step).answer) (has_cut_since false own)) e.0
                ∙ known before.0 before.1)
          ]

  opening-known : CutKnown (opening_world sim 0) []
  unfolding opening_world
  opening-known is_open set = absurd (let h : false ≡ true = is_open in cc)

  -- it holds of every shown world
  pub cut-known : (marks : List Marked) → AllByRecursion (IsMarkedRight sim) marks → CutKnown (shown sim marks) (own_steps_of sim w marks)
  cut-known marks right = own-keeps sim w CutKnown cut-step marks (opening_world sim 0) [] right opening-known

  -- a board that refuses the cut of a worker has an open round in which it has cut
  refused-cut : (end : Time) (board : Board) → w < length board.has_cut → cut_board end w board ≡ None → (board.is_open ≡ true) × (slice_get board.has_cut w ≡ Some true)
  refused-cut end board within none =
      with_open_round-either end board (λ (o : Board). cond (is_clear (slice_get o.has_cut w)) (Some (record o { has_cut = slice_set o.has_cut w true })) None ≡ None →
      (board.is_open ≡ true) × (slice_get board.has_cut w ≡ Some true))
      (λ is h. (is, (let flag = get-within board.has_cut w within in flag.1 ∙ ap (λ f. Some f) (set_flag flag.0 (is-none (is_clear (slice_get board.has_cut w)) _ h) flag.1))))
      (λ shut h. absurd (clear-none (length board.has_cut) w within (is-none (is_clear (slice_get (replicate (length board.has_cut) false) w)) _ h)))
      none
    where
      is-none : {X : Type 0} (b : Bool) (x : X) → cond b (Some x) None ≡ None → b ≡ false
      is-none true x e = absurd (let h : Some x ≡ None = e in cc)
      is-none false x e = refl

      set_flag : (flag : Bool) → is_clear (slice_get board.has_cut w) ≡ false → slice_get board.has_cut w ≡ Some flag → flag ≡ true
      set_flag true h at = refl
      set_flag false h at = absurd (let k : true ≡ false = sym (ap is_clear at) ∙ h in cc)

      clear-none : (n i : ℕ) → i < n → is_clear (slice_get (replicate n false) i) ≡ false → ⊥
      clear-none zero i less h = absurd (omega arith)
      clear-none (suc n) zero less h = absurd (let k : true ≡ false = h in cc)
      clear-none (suc n) (suc i) less h = clear-none n i (omega arith) h

  -- a worker's cut is refused only where it has cut since it was last told of an announcement
  pub refused-cut-known : IsLawful sim → (marks : List Marked) → AllByRecursion (IsMarkedRight sim) marks → w < sim.workers → cut_board sim.end w (shown sim marks).board ≡ None → has_cut_since false (own_steps_of sim w marks) ≡ true
  refused-cut-known lawful marks right within none =
      let sound = ((reached-times sim lawful 0 (unmarked marks)).at opening_time) in
      let size = sound.round.cut_size in
      let parts = sound.shape.parts in
      let is = refused-cut sim.end (shown sim marks).board (omega arith) none in
      cut-known marks right is.0 is.1
