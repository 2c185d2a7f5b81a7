-- Steps of a world whose worker or inbox isn't there, and commits at a closed book.
use Rattle.std.proofs.Common.{◌≡◌, ℕ, zero, suc, ◌+◌, ◌≤◌, true, List, [], ◌∷◌, map, refl, sym, ◌∙◌, ap, subst, arith, Some, None, Result, Err, slice_get}
use Rattle.std.proofs.lemmas.Option.{slice_get_past}
use Rattle.vt_key.specs.promise.Times.{Time}
use Rattle.vt_key.specs.declared.fault.Fault.{Fault}
use Rattle.vt_key.specs.declared.fault.Fault.TheVariants.{NotLawful, Closed}
use Rattle.vt_model.specs.promise.Handler.{Handlers}
use Rattle.vt_model.specs.promise.Simulation.{simulation_of}
use Rattle.vt_steps.specs.declared.step.Step.{Step}
use Rattle.vt_steps.specs.declared.step.Step.TheVariants.{Send, Commit}
use Rattle.vt_steps.specs.declared.step.Reply.{Reply}
use Rattle.vt_steps.specs.promise.World.{World, Book}
use Rattle.vt_steps.specs.promise.Next.{Outcome, next, refused}
use Rattle.vt_steps.specs.inside.StandsFor.{GoesOn}
use Rattle.vt_kernel.specs.inside.Held.{HeldWorker, part_memory}
use Rattle.vt_steps.specs.promise.Cells.{worker_of}
use Rattle.vt_steps.specs.inside.Cells.{cell_of}
use Rattle.vt_steps.proofs.steps.CellSteps.{next-commit_closed, next-send_nowhere}
use Rattle.vt_steps.proofs.steps.CellLemmas.{IsOpenAt, next-nobody}
use Rattle.vt_world.specs.inside.Held.{HeldWorld, world_memory, StandsForWorld, IsWorldInside}
use Rattle.vt_world.proofs.WorldLemmas.{nobody-at, worker-at}

module _ {M S P K : Type 0} (handlers : Handlers S P K) (held : HeldWorld M S P K) where
  -- an outcome of the definitions, and what stands for its world
  pub goes : (world : World P) (step : Step) (outcome : Outcome P) (answer : Result Reply Fault) (new : HeldWorld M S P K)
      → next (simulation_of handlers held.config) world step ≡ outcome → outcome.answer ≡ answer → new.config ≡ held.config → StandsForWorld handlers new outcome.world
      → ((next (simulation_of handlers held.config) world step).answer ≡ answer) × StandsForWorld handlers new (next (simulation_of handlers held.config) world step).world
  goes world step outcome answer new is answers of stands =
      (ap (λ (o : Outcome P). o.answer) is ∙ answers, subst (λ (o : Outcome P). StandsForWorld handlers new o.world) (sym is) stands)

module _ {M S P K : Type 0} {handlers : Handlers S P K} {held : HeldWorld M S P K} {board_end book_end : Time} (inside : IsWorldInside handlers held board_end book_end) where
  -- the worker at its index is it
  pub who : {w : ℕ} {k : HeldWorker S P K} → slice_get held.workers w ≡ Some k → (k.worker ≡ w) × (k.config ≡ held.config)
  who {w} {k} at =
      let is = worker-at held.config 0 w held.workers k inside.own_workers at in
      let plain : 0 + w ≡ w = omega arith in
      (is.0 ∙ plain, is.1)

  -- Send of a worker to one that there is not
  pub send-nowhere : (w : ℕ) {v : ℕ} → held.config.workers ≤ v
      → GoesOn (simulation_of handlers held.config) (Send w v) (Err NotLawful) (world_memory handlers held) (world_memory handlers held)
  send-nowhere w {v} past world h =
      let none = slice_get_past held.inboxes v (let size = inside.all_inboxes in omega (arith, size, past)) in
      goes handlers held world (Send w v) (refused world NotLawful) (Err NotLawful) held
      (next-send_nowhere (simulation_of handlers held.config) world w v (ap (λ xs. slice_get xs v) h.inboxes ∙ none)) refl refl h

  pub commit-closed : (w : ℕ) → held.book.is_closed ≡ true
      → GoesOn (simulation_of handlers held.config) (Commit w) (Err Closed) (world_memory handlers held) (world_memory handlers held)
  commit-closed w closed world h =
      goes handlers held world (Commit w) (refused world Closed) (Err Closed) held (next-commit_closed (simulation_of handlers held.config) world w (ap (λ (b : Book). b.is_closed) h.book ∙ closed)) refl refl h

-- ---- steps of a worker that there is not

module _ {M S P K : Type 0} {handlers : Handlers S P K} {held : HeldWorld M S P K} {board_end book_end : Time} (inside : IsWorldInside handlers held board_end book_end)
    {w : ℕ} (past : held.config.workers ≤ w) where
  pub of-nobody : (step : Step) → worker_of (simulation_of handlers held.config) step ≡ Some w → IsOpenAt (cell_of (simulation_of handlers held.config) step) held.book
      → GoesOn (simulation_of handlers held.config) step (Err NotLawful) (world_memory handlers held) (world_memory handlers held)
  of-nobody step whose is_open world h =
      goes handlers held world step (refused world NotLawful) (Err NotLawful) held
      (next-nobody (simulation_of handlers held.config) world step w whose gone (subst (IsOpenAt (cell_of (simulation_of handlers held.config) step)) (sym h.book) is_open)) refl refl h
    where
      no-image : (xs : List (HeldWorker S P K)) (i : ℕ) → slice_get xs i ≡ None → slice_get (map (part_memory handlers) xs) i ≡ None
      no-image [] i is = refl
      no-image (x ∷ xs) zero is = absurd (let k : Some x ≡ None = is in cc)
      no-image (x ∷ xs) (suc i) is = no-image xs i is

      gone : slice_get world.parts w ≡ None
      gone =
          let none = slice_get_past held.workers w (let size = inside.all_workers in omega (arith, size, past)) in
          nobody-at (simulation_of handlers held.config) 0 w (map (part_memory handlers) held.workers) world.parts h.parts (no-image held.workers w none)
