-- A counter past its limit in the part of a step's worker, and in a world that has this part.
use Rattle.std.proofs.Common.{◌≡◌, ℕ, sym, ◌∙◌, ap, subst, Option, Some, None, slice_get}
use Rattle.std.specs.Option.{IsSomeAnd, option_and_then}
use Rattle.vt_model.specs.promise.Simulation.{Simulation}
use Rattle.vt_steps.specs.declared.step.Step.{Step}
use Rattle.vt_steps.specs.promise.World.{Part, World}
use Rattle.vt_steps.specs.promise.Cells.{worker_of}
use Rattle.vt_kernel.specs.promise.Refusals.{PassesIn, PassesLimit}

none-there : {X : Type 0} (Q : X → Type 0) (o : Option X) → ((x : X) → Q x → ⊥) → IsSomeAnd o Q → ⊥
none-there Q None none h = h
none-there Q (Some x) none h = none x h

-- a step that raises no counter takes none past its limit
pub passes-none : {S P : Type 0} (sim : Simulation S P) (step : Step) (world : World P) → ((part : Part P) (rounds : ℕ) → PassesIn sim step part rounds → ⊥) → PassesLimit sim step world → ⊥
passes-none sim step world none =
    none-there (λ part. PassesIn sim step part world.board.rounds) (option_and_then (slice_get world.parts) (worker_of sim step)) (λ part. none part world.board.rounds)

module _ {S P : Type 0} (sim : Simulation S P) (step : Step) (world : World P) {w : ℕ} {part : Part P} (whose : worker_of sim step ≡ Some w) (there : slice_get world.parts w ≡ Some part) where
  abbrev PassesSome : Option (Part P) → Type 0
  PassesSome found = IsSomeAnd found (λ (q : Part P). PassesIn sim step q world.board.rounds)

  its-part : option_and_then (slice_get world.parts) (worker_of sim step) ≡ Some part
  its-part = ap (option_and_then (slice_get world.parts)) whose ∙ there

  pub passes-world : PassesIn sim step part world.board.rounds → PassesLimit sim step world
  passes-world = subst PassesSome (sym its-part)

  pub passes-part : PassesLimit sim step world → PassesIn sim step part world.board.rounds
  passes-part = subst PassesSome its-part
