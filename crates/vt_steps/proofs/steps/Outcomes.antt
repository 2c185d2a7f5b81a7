-- How a step comes out. A proof about `next` gives what holds of a refusal and what holds of each effect.
use Rattle.std.proofs.Common.{◌≡◌, inl, inr, ℕ, Bool, true, false, not, cond, nat_eq, refl, sym, ◌∙◌, ap, subst, Option, Some, None, slice_get}
use Rattle.std.specs.Option.{option_map, option_and_then}
use Rattle.std.proofs.lemmas.Bool.Decides.{eqb_tells}
use Rattle.vt_key.specs.promise.Times.{Time}
use Rattle.vt_key.specs.declared.fault.Fault.{Fault}
use Rattle.vt_key.specs.declared.fault.Fault.TheVariants.{NotLawful, Closed}
use Rattle.vt_steps.specs.declared.step.Reply.TheVariants.{Done, Waiting, Again, Announced}
use Rattle.vt_steps.specs.promise.World.{Part, Board, Book, World}
use Rattle.vt_steps.specs.promise.BoardSteps.{all_set, with_new_pass, with_new_round, with_announcement, with_open_round, BoardEffect, after_report}
use Rattle.vt_steps.specs.promise.BookSteps.{unless_closed}
use Rattle.vt_steps.specs.promise.CellSteps.{CellEffect}
use Rattle.vt_steps.specs.promise.Next.{Outcome, refused, replied, done_or_refused, with_part, locally, effect_in, at_cell}

-- ---- where the part and what the cell holds are not known

pub done_or_refused-either : {P : Type 0} (world : World P) (o : Option (World P)) (Q : Outcome P → Type 0) → Q (refused world NotLawful) →
    ((new : World P) → o ≡ Some new → Q (replied new Done)) → Q (done_or_refused world o)
done_or_refused-either world None Q refuses does = refuses
done_or_refused-either world (Some new) Q refuses does = does new refl

pub locally-either : {P : Type 0} (world : World P) (w : ℕ) (step : Part P → Option (Part P)) (Q : Outcome P → Type 0) → Q (refused world NotLawful) →
    ((part new : Part P) → slice_get world.parts w ≡ Some part → step part ≡ Some new → Q (replied (with_part world w new) Done)) → Q (locally world w step)
locally-either {P = P} world w step Q refuses does = by_part (slice_get world.parts w) refl
  where
    by_new : (part : Part P) (o : Option (Part P)) → slice_get world.parts w ≡ Some part → step part ≡ o → Q (done_or_refused world (option_map (with_part world w) o))
    by_new part None is e = refuses
    by_new part (Some new) is e = does part new is e

    by_part : (o : Option (Part P)) → slice_get world.parts w ≡ o → Q (done_or_refused world (option_map (with_part world w) (option_and_then step o)))
    by_part None is = refuses
    by_part (Some part) is = by_new part (step part) is refl

pub at_cell-either : {P C : Type 0} (world : World P) (w : ℕ) (put : World P → C → World P) (step : Part P → C → Option (CellEffect P C)) (cell : Option C) (Q : Outcome P → Type 0) →
    Q (refused world NotLawful) →
    ((part : Part P) (held : C) (effect : CellEffect P C) → slice_get world.parts w ≡ Some part → cell ≡ Some held → step part held ≡ Some effect →
    Q (replied (put (with_part world w effect.part) effect.cell) effect.reply)) →
    Q (at_cell world w put step cell)
at_cell-either {P = P} {C = C} world w put step cell Q refuses does = by_part (slice_get world.parts w) refl
  where
    by_effect : (part : Part P) (held : C) (o : Option (CellEffect P C)) → slice_get world.parts w ≡ Some part → cell ≡ Some held → step part held ≡ o → Q (effect_in world w put o)
    by_effect part held None is holds e = refuses
    by_effect part held (Some effect) is holds e = does part held effect is holds e

    by_held : (part : Part P) (o : Option C) → slice_get world.parts w ≡ Some part → cell ≡ o → Q (effect_in world w put (option_and_then (step part) o))
    by_held part None is holds = refuses
    by_held part (Some held) is holds = by_effect part held (step part held) is holds refl

    by_part : (o : Option (Part P)) → slice_get world.parts w ≡ o → Q (effect_in world w put (option_and_then (λ part. option_and_then (step part) cell) o))
    by_part None is = refuses
    by_part (Some part) is = by_held part cell is refl

pub unless_closed-either : {X : Type 0} (book : Book) (refuse : Fault → X) (open_step : X) (Q : X → Type 0) →
    (book.is_closed ≡ true → Q (refuse Closed)) → (book.is_closed ≡ false → Q open_step) → Q (unless_closed book refuse open_step)
unless_closed-either book refuse open_step Q shut is_open = by_test book.is_closed refl
  where
    by_test : (b : Bool) → book.is_closed ≡ b → Q (cond b (refuse Closed) open_step)
    by_test true e = shut e
    by_test false e = is_open e

-- ---- the board

-- a round is open, the one that was or a new one
pub with_open_round-either : (end : Time) (board : Board) (Q : Board → Type 0) → (board.is_open ≡ true → Q board) → (board.is_open ≡ false → Q (with_new_round end board)) →
    Q (with_open_round end board)
unfolding with_open_round
with_open_round-either end board Q was opens =
    elim board.is_open as (λ b. board.is_open ≡ b → Q (cond b board (with_new_round end board))) [ true ↦ was | false ↦ opens ] refl

-- what a report leaves, by whether it is the last one of its pass, and then by the sums
pub after_report-either : (end : Time) (board : Board) (Q : BoardEffect → Type 0) →
    (all_set board.has_reported ≡ false → Q (record { board = board; reply = Waiting })) →
    (all_set board.has_reported ≡ true → board.sent ≡ board.got → Q (record { board = with_announcement board; reply = Announced board.least })) →
    (all_set board.has_reported ≡ true → ¬ (board.sent ≡ board.got) → Q (record { board = with_new_pass end board; reply = Again })) →
    Q (after_report end board)
unfolding after_report
after_report-either end board Q waits announces again = by_flags (all_set board.has_reported) refl
  where
    by_sums : (b : Bool) → BoardEffect
    by_sums b = cond b (record { board = with_announcement board; reply = Announced board.least }) (record { board = with_new_pass end board; reply = Again })

    by_flags : (b : Bool) → all_set board.has_reported ≡ b → Q (cond (not b) (record { board = board; reply = Waiting }) (by_sums (nat_eq board.sent board.got)))
    by_flags false some = waits some
    by_flags true all =
        elim (eqb_tells board.sent board.got) [
          | inl e ↦ subst (λ b. Q (by_sums b)) (sym e.0) (announces all e.1)
          | inr e ↦ subst (λ b. Q (by_sums b)) (sym e.0) (again all e.1)
        ]

-- ---- where they are

-- both are there
pub at_cell-found : {P C : Type 0} (world : World P) (w : ℕ) (put : World P → C → World P) (step : Part P → C → Option (CellEffect P C)) (cell : Option C) (part : Part P) (held : C) →
    slice_get world.parts w ≡ Some part → cell ≡ Some held → at_cell world w put step cell ≡ effect_in world w put (step part held)
at_cell-found world w put step cell part held is holds =
    ap (λ o. effect_in world w put (option_and_then (λ part. option_and_then (step part) cell) o)) is
    ∙ ap (λ o. effect_in world w put (option_and_then (step part) o)) holds

-- the worker is not there
pub at_cell-nobody : {P C : Type 0} (world : World P) (w : ℕ) (put : World P → C → World P) (step : Part P → C → Option (CellEffect P C)) (cell : Option C) →
    slice_get world.parts w ≡ None → at_cell world w put step cell ≡ refused world NotLawful
at_cell-nobody world w put step cell gone = ap (λ o. effect_in world w put (option_and_then (λ part. option_and_then (step part) cell) o)) gone

-- the step takes no part with what the cell holds
pub at_cell-unlawful : {P C : Type 0} (world : World P) (w : ℕ) (put : World P → C → World P) (step : Part P → C → Option (CellEffect P C)) (cell : Option C) →
    ((part : Part P) → slice_get world.parts w ≡ Some part → (held : C) → cell ≡ Some held → step part held ≡ None) → at_cell world w put step cell ≡ refused world NotLawful
at_cell-unlawful {P = P} {C = C} world w put step cell none = by_part (slice_get world.parts w) refl
  where
    by_held : (part : Part P) (o : Option C) → slice_get world.parts w ≡ Some part → cell ≡ o → effect_in world w put (option_and_then (step part) o) ≡ refused world NotLawful
    by_held part None is holds = refl
    by_held part (Some held) is holds = ap (effect_in world w put) (none part is held holds)

    by_part : (o : Option (Part P)) → slice_get world.parts w ≡ o → effect_in world w put (option_and_then (λ part. option_and_then (step part) cell) o) ≡ refused world NotLawful
    by_part None is = refl
    by_part (Some part) is = by_held part cell is refl

-- the cell is not there
pub at_cell-nowhere : {P C : Type 0} (world : World P) (w : ℕ) (put : World P → C → World P) (step : Part P → C → Option (CellEffect P C)) (cell : Option C) →
    cell ≡ None → at_cell world w put step cell ≡ refused world NotLawful
at_cell-nowhere world w put step cell gone =
    at_cell-unlawful world w put step cell (λ part is held there. absurd (let h : None ≡ Some held = sym gone ∙ there in cc))

-- the book is open
pub unless_closed-open : {X : Type 0} (book : Book) (refuse : Fault → X) (open_step : X) → book.is_closed ≡ false → unless_closed book refuse open_step ≡ open_step
unless_closed-open book refuse open_step is_open = ap (λ b. cond b (refuse Closed) open_step) is_open

-- the book is closed
pub unless_closed-shut : {X : Type 0} (book : Book) (refuse : Fault → X) (open_step : X) → book.is_closed ≡ true → unless_closed book refuse open_step ≡ refuse Closed
unless_closed-shut book refuse open_step shut = ap (λ b. cond b (refuse Closed) open_step) shut
