-- A step that is done passes no counter's limit: its worker and the board are within them afterwards.
use Rattle.std.proofs.Common.{◌≡◌, ℕ, ◌%◌, List, sym, ap, subst, Some, slice_get, slice_set}
use Rattle.vt_key.specs.promise.Times.{Time}
use Rattle.vt_key.specs.declared.letter.Mail.{Mail}
use Rattle.vt_model.specs.declared.settings.Config.{Config}
use Rattle.vt_model.specs.promise.Handler.{Handlers}
use Rattle.vt_model.specs.promise.Simulation.{simulation_of}
use Rattle.vt_steps.specs.declared.step.Step.TheVariants.{Execute}
use Rattle.vt_steps.specs.promise.World.{Part, World}
use Rattle.vt_kernel.specs.inside.Held.{HeldWorker, StandsFor as WorkerStandsFor}
use Rattle.vt_kernel.specs.promise.Refusals.{PassesIn, PassesLimit}
use Rattle.vt_kernel.proofs.LimitLemmas.{passes-part}
use Rattle.vt_steps.proofs.lists.Indices.{get-put_same}
use Rattle.vt_world.specs.inside.Held.{HeldWorld, StandsForWorld, IsWorldInside}
use Rattle.vt_world.proofs.WorldLemmas.{IsSame, found}
use Rattle.vt_world.proofs.WorldSteps.{who}
use Rattle.vt_world.proofs.Indices.{are-workers}

module _ {M S P K : Type 0} {handlers : Handlers S P K} {held : HeldWorld M S P K} {board_end book_end : Time} (inside : IsWorldInside handlers held board_end book_end)
    (w : ℕ) {k : HeldWorker S P K} (at : slice_get held.workers w ≡ Some k) (new : HeldWorker S P K) (same : IsSame new k) where
  module _ (inboxes : List (List (Mail P))) where
    -- the world with the worker and the inboxes that a step leaves
    abbrev pub stepped : HeldWorld M S P K
    stepped = record held { workers = slice_set held.workers w new; inboxes = inboxes }

    -- after an execution
    pub execute-within : (p : ℕ) → p % held.config.workers ≡ w → ((part : Part P) → WorkerStandsFor handlers new part → PassesIn (simulation_of handlers k.config) (Execute p) part 0 → ⊥)
        → (world : World P) → StandsForWorld handlers stepped world → PassesLimit (simulation_of handlers held.config) (Execute p) world → ⊥
    execute-within p own counted world h past =
        let f = found handlers stepped world w new (are-workers inside w at new same) h (get-put_same held.workers w k new at) in
        counted f.part f.stands
        (subst (λ (c : Config). PassesIn (simulation_of handlers c) (Execute p) f.part 0) (sym (who inside at).1)
        (passes-part (simulation_of handlers held.config) (Execute p) world (ap Some own) f.there past))
