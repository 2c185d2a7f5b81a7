-- A local step changes the part of one worker alone.
use Rattle.std.proofs.Common.{◌≡◌, ℕ, true, false, refl, sym, ◌∙◌, ap, Option, Some, None, slice_get, IsTrue}
use Rattle.std.specs.Option.{option_map, option_and_then, is_none}
use Rattle.vt_model.specs.promise.Simulation.{Simulation}
use Rattle.vt_steps.specs.declared.step.Step.{Step}
use Rattle.vt_steps.specs.promise.World.{Part, World}
use Rattle.vt_steps.specs.promise.Actions.{Action, on_part, at_inbox, at_board, at_book, on_book, action_of}
use Rattle.vt_steps.specs.promise.Next.{done_or_refused, with_part, locally, done_in, next}
use Rattle.vt_steps.specs.promise.Cells.{action_worker}
use Rattle.vt_steps.specs.inside.Cells.{action_cell, is_local}
use Rattle.vt_steps.specs.inside.Laws.{ChangesOnePart}
use Rattle.vt_steps.proofs.lists.Indices.{get-put_other}

-- only the part of w is another
record OnlyPart {P : Type 0} (world : World P) (w : ℕ) (new : World P) : Type 0 where
  others : (v : ℕ) → (v ≡ w → ⊥) → slice_get new.parts v ≡ slice_get world.parts v
  inboxes : new.inboxes ≡ world.inboxes
  board : new.board ≡ world.board
  book : new.book ≡ world.book

locally-only : {P : Type 0} (world : World P) (w : ℕ) (step : Part P → Option (Part P)) → OnlyPart world w (locally world w step).world
locally-only {P = P} world w step = by_result (option_and_then step (slice_get world.parts w))
  where
    by_result : (o : Option (Part P)) → OnlyPart world w (done_or_refused world (option_map (with_part world w) o)).world
    by_result None = record { others = λ v apart. refl; inboxes = refl; board = refl; book = refl }
    by_result (Some new) = record { others = λ v apart. get-put_other world.parts w v new apart; inboxes = refl; board = refl; book = refl }

done-only : {P : Type 0} (world : World P) (action : Action P) → IsTrue (is_none (action_cell action)) → (w : ℕ) × (action_worker action ≡ Some w) × OnlyPart world w (done_in world action).world
done-only world (on_part w step) local = (w, refl, locally-only world w step)
done-only world (at_inbox w v step) local = absurd (let h : false ≡ true = local in cc)
done-only world (at_board w step) local = absurd (let h : false ≡ true = local in cc)
done-only world (at_book w step) local = absurd (let h : false ≡ true = local in cc)
done-only world (on_book step) local = absurd (let h : false ≡ true = local in cc)

pub local-changes_one_part : {S P : Type 0} (sim : Simulation S P) (world : World P) (step : Step) → IsTrue (is_local sim step) → ChangesOnePart sim world step
unfolding next
local-changes_one_part sim world step local =
    let done = done-only world (action_of sim step) local in
    let only = done.2 in
    record {
      others = λ v apart. only.others v (λ same. apart (done.1 ∙ ap (λ n. Some n) (sym same)));
      inboxes = only.inboxes;
      board = only.board;
      book = only.book;
    }
