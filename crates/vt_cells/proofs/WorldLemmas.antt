-- A step on a part and on what a cell holds, in a world that has them.
use Rattle.std.proofs.Common.{◌≡◌, ℕ, ◌<◌, inl, inr, refl, sym, ◌∙◌, ap, subst, Option, Some, None, slice_get}
use Rattle.vt_key.specs.declared.fault.Fault.{Fault}
use Rattle.vt_key.specs.declared.limits.TheConstants.{MAX_COUNT}
use Rattle.vt_model.specs.promise.Simulation.{Simulation}
use Rattle.vt_steps.specs.declared.step.Step.{Step}
use Rattle.vt_steps.specs.declared.step.Step.TheVariants.{Execute, Undo, Cancel, Home, Send, Fetch, Accept, Cut, Report, Commit, Close}
use Rattle.vt_steps.specs.promise.World.{Part, World, Board}
use Rattle.vt_steps.specs.promise.CellSteps.{CellEffect, cut}
use Rattle.vt_steps.specs.promise.Next.{Outcome, next, with_part}
use Rattle.vt_steps.specs.promise.Cells.{worker_of}
use Rattle.vt_steps.specs.inside.Cells.{CellName, board_cell, Cell, on_board, content, with_content, cell_of, acted_at, act, put_back}
use Rattle.vt_steps.specs.inside.Laws.{IsAny}
use Rattle.vt_steps.proofs.steps.CellLemmas.{next-acts_on_one_cell}
use Rattle.vt_steps.proofs.steps.LocalLeads.{parts-put}
use Rattle.vt_steps.proofs.lists.Indices.{get-put_same}
use Rattle.vt_kernel.specs.promise.Refusals.{PassesIn, PassesLimit, IsStepRefusal}
use Rattle.vt_kernel.proofs.LimitLemmas.{passes-world, passes-part}
use Rattle.vt_cells.specs.inside.Calls.{rounds_of, IsCellRefusal}

-- each of two follows from the other
abbrev pub Both : Type 0 → Type 0 → Type 0
Both A B = (A → B) × (B → A)

-- the rounds of a board after a step at it
of-rounds : {P : Type 0} (world : World P) (part : Part P) (board : Board) (o : Option (CellEffect P Board)) →
    rounds_of (acted_at part on_board board o).cell ≡ (with_content world board_cell (acted_at part on_board board o).cell).board.rounds
of-rounds world part board None = refl
of-rounds world part board (Some effect) = refl

module _ {S P : Type 0} (sim : Simulation S P) (world : World P) (w : ℕ) (name : CellName) (part : Part P) (cell : Cell P)
    (there : slice_get world.parts w ≡ Some part) (holds : content world name ≡ Some cell) where
  -- the world after a step on the part and the cell
  abbrev after : Step → World P
  after step = (put_back world w name (act sim step part cell)).world

  -- a counter is past its limit in the part after a step of its worker exactly where it is in the world
  at-worker : (step : Step) → worker_of sim step ≡ Some w → Both (PassesIn sim step (act sim step part cell).part (after step).board.rounds) (PassesLimit sim step (after step))
  at-worker step whose =
      let acted = act sim step part cell in
      let at : slice_get (after step).parts w ≡ Some acted.part =
      ap (λ ps. slice_get ps w) (parts-put (with_part world w acted.part) name acted.cell) ∙ get-put_same world.parts w part acted.part there in
      (passes-world sim step (after step) whose at, passes-part sim step (after step) whose at)

  -- the rounds after a cut, on the board and in the world
  cut-rounds : (v : ℕ) → board_cell ≡ name → rounds_of (act sim (Cut v) part cell).cell ≡ (after (Cut v)).board.rounds
  unfolding act
  cut-rounds v is =
      let held : Some (on_board world.board) ≡ Some cell = ap (content world) is ∙ holds in
      let same : on_board world.board ≡ cell = cc in
      let found = act sim (Cut v) part (on_board world.board) in
      subst (λ (x : CellName × Cell P). rounds_of (act sim (Cut v) part x.1).cell ≡ (put_back world w x.0 (act sim (Cut v) part x.1)).world.board.rounds) (λ i. (is i, same i))
      (of-rounds (with_part world w found.part) part world.board (cut sim v part world.board))

  -- it is past its limit in the part and the cell exactly where it is in the world
  passes : (step : Step) → IsAny (worker_of sim step) w → cell_of sim step ≡ Some name
      → Both (PassesIn sim step (act sim step part cell).part (rounds_of (act sim step part cell).cell)) (PassesLimit sim step (after step))
  passes (Execute p) whose named = at-worker (Execute p) (ap Some whose)
  passes (Undo p) whose named = at-worker (Undo p) (ap Some whose)
  passes (Cancel p stamp) whose named = at-worker (Cancel p stamp) (ap Some whose)
  passes (Home v) whose named = at-worker (Home v) (ap Some whose)
  passes (Send v u) whose named = at-worker (Send v u) (ap Some whose)
  passes (Fetch v) whose named = at-worker (Fetch v) (ap Some whose)
  passes (Accept v i) whose named = at-worker (Accept v i) (ap Some whose)
  passes (Cut v) whose named =
      let is : board_cell ≡ name = (let h : Some board_cell ≡ Some name = named in cc) in
      let rounds = cut-rounds v is in
      let both = at-worker (Cut v) (ap Some whose) in
      (λ h. both.0 (subst (λ n. MAX_COUNT < n) rounds h), λ h. subst (λ n. MAX_COUNT < n) (sym rounds) (both.1 h))
  passes (Report v) whose named = at-worker (Report v) (ap Some whose)
  passes (Commit v) whose named = at-worker (Commit v) (ap Some whose)
  passes Close whose named = (λ h. h, λ h. h)

module _ {S P : Type 0} (sim : Simulation S P) (world : World P) (step : Step) (w : ℕ) {name : CellName} {part : Part P} {cell : Cell P}
    (whose : IsAny (worker_of sim step) w) (named : cell_of sim step ≡ Some name) (there : slice_get world.parts w ≡ Some part) (holds : content world name ≡ Some cell) where
  -- the step of the world is that on the part and the cell, put back
  pub next-put_back : next sim world step ≡ put_back world w name (act sim step part cell)
  next-put_back =
      (next-acts_on_one_cell sim world step).acts w name part cell whose (subst (λ o. IsAny o name) (sym named) refl) there holds

  both : Both (PassesIn sim step (act sim step part cell).part (rounds_of (act sim step part cell).cell)) (PassesLimit sim step (next sim world step).world)
  both =
      subst (λ (o : Outcome P). Both (PassesIn sim step (act sim step part cell).part (rounds_of (act sim step part cell).cell)) (PassesLimit sim step o.world)) (sym next-put_back)
      (passes sim world w name part cell there holds step whose named)

  -- where no counter is past its limit in the part and the cell, none is in the world
  pub limit-there : PassesLimit sim step (next sim world step).world → PassesIn sim step (act sim step part cell).part (rounds_of (act sim step part cell).cell)
  limit-there = both.1

  -- why the step of the world is refused
  pub refused-there : {fault : Fault} → IsCellRefusal sim step part cell fault → IsStepRefusal sim step world fault
  refused-there (inl e) = inl (ap (λ (o : Outcome P). o.answer) next-put_back ∙ e)
  refused-there (inr h) =
      inr (
        h.0,
        ap (λ (o : Outcome P). o.answer) next-put_back ∙ h.1,
        elim h.2 [
          | inl b ↦ inl (b.0, both.0 b.1)
          | inr b ↦ inr (b.0, b.1, λ past. b.2 (both.1 past))
        ],
      )
