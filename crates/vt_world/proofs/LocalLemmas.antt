-- The local steps of a worker as steps of the world.
use Rattle.std.proofs.Common.{◌≡◌, ℕ, ◌%◌, inl, inr, refl, sym, ◌∙◌, ap, subst, Option, Some, None, Result, Ok, Err, IsErrAnd, slice_get, slice_set}
use Rattle.std.proofs.Math.Logic.{∥∥₁_map}
use Rattle.std.specs.Option.{option_map}
use Rattle.vt_key.specs.promise.Times.{Time}
use Rattle.vt_key.specs.declared.fault.Fault.{Fault}
use Rattle.vt_key.specs.declared.fault.Fault.TheVariants.{NotLawful}
use Rattle.vt_model.specs.declared.settings.Config.{Config}
use Rattle.vt_model.specs.promise.Handler.{Handlers}
use Rattle.vt_model.specs.promise.Simulation.{Simulation, simulation_of}
use Rattle.vt_steps.specs.declared.step.Step.{Step}
use Rattle.vt_steps.specs.declared.step.Step.TheVariants.{Execute, Accept}
use Rattle.vt_steps.specs.declared.step.Reply.{Reply}
use Rattle.vt_steps.specs.declared.step.Reply.TheVariants.{Done}
use Rattle.vt_steps.specs.promise.World.{Part, World}
use Rattle.vt_steps.specs.promise.Next.{Outcome, next, reached, replied, with_part, done_or_refused}
use Rattle.vt_steps.specs.inside.StandsFor.{GoesOn}
use Rattle.vt_steps.specs.inside.Cells.{local_step}
use Rattle.vt_kernel.specs.inside.Held.{HeldWorker, StandsFor as WorkerStandsFor}
use Rattle.vt_kernel.specs.inside.Guards.{IsDone, IsExecuteRefusal, IsAcceptRefusal}
use Rattle.vt_kernel.specs.promise.Refusals.{IsStepRefusal, PassesIn, PassesLimit}
use Rattle.vt_kernel.proofs.LimitLemmas.{passes-none, passes-world, passes-part}
use Rattle.vt_steps.proofs.lists.Indices.{get-put_same}
use Rattle.vt_world.specs.inside.Held.{HeldWorld, world_memory, StandsForWorld, IsReached, IsHeldStepOf, IsWorldInside}
use Rattle.vt_world.proofs.WorldLemmas.{IsSame, IsLocalAt, IsFound, found, next-locally, local-done, local-refused}
use Rattle.vt_world.proofs.WorldSteps.{who}
use Rattle.vt_world.proofs.StepLemmas.{step-done, step-unlawful, inside-same}
use Rattle.vt_world.proofs.Indices.{inside-worker, put-back}

module _ {M S P K : Type 0} {handlers : Handlers S P K} {held : HeldWorld M S P K} {board_end book_end : Time} (inside : IsWorldInside handlers held board_end book_end) where
  -- what a local step of a worker comes to in a world
  locally-is : (world : World P) (w : ℕ) (step : Step) (part : Part P) (after : Option (Part P)) → IsLocalAt (simulation_of handlers held.config) w step → slice_get world.parts w ≡ Some part
      → local_step (simulation_of handlers held.config) w step part ≡ after → next (simulation_of handlers held.config) world step ≡ done_or_refused world (option_map (with_part world w) after)
  locally-is world w step part after is there e =
      next-locally (simulation_of handlers held.config) world w step part is there ∙ ap (λ s. done_or_refused world (option_map (with_part world w) s)) e

  -- why Execute is refused
  pub execute-why : (w : ℕ) {k : HeldWorker S P K} → slice_get held.workers w ≡ Some k → (p : ℕ) → p % held.config.workers ≡ w → (fault : Fault)
      → ((part : Part P) → WorkerStandsFor handlers k part → IsExecuteRefusal (simulation_of handlers k.config) p (local_step (simulation_of handlers k.config) k.worker (Execute p) part) fault)
      → (world : World P) → StandsForWorld handlers held world → IsStepRefusal (simulation_of handlers held.config) (Execute p) world fault
  execute-why w {k} at p own fault why world s = go (local_step sim w (Execute p) f.part) refl refusal
    where
      sim : Simulation S P
      sim = simulation_of handlers held.config

      f : IsFound handlers held world w k
      f = found handlers held world w k inside.own_workers s at

      refusal : IsExecuteRefusal sim p (local_step sim w (Execute p) f.part) fault
      refusal =
          let is = who inside at in
          subst (λ u. IsExecuteRefusal sim p (local_step sim u (Execute p) f.part) fault) is.0
          (subst (λ (c : Config). IsExecuteRefusal (simulation_of handlers c) p (local_step (simulation_of handlers c) k.worker (Execute p) f.part) fault) is.1 (why f.part f.stands))

      go : (after : Option (Part P)) → local_step sim w (Execute p) f.part ≡ after → IsExecuteRefusal sim p after fault → IsStepRefusal sim (Execute p) world fault
      go None e r = inl (ap (λ (o : Outcome P). o.answer) (locally-is world w (Execute p) f.part None own f.there e) ∙ ap Err (sym r))
      go (Some after) e r =
          let next_is : next sim world (Execute p) ≡ replied (with_part world w after) Done = locally-is world w (Execute p) f.part (Some after) own f.there e in
          let there : slice_get (with_part world w after).parts w ≡ Some after = get-put_same world.parts w f.part after f.there in
          inr (
            Done,
            ap (λ (o : Outcome P). o.answer) next_is,
            elim r [
              | inl a ↦ inl (a.0, subst (λ (o : Outcome P). PassesLimit sim (Execute p) o.world) (sym next_is) (passes-world sim (Execute p) (with_part world w after) (ap Some own) there a.1))
              | inr a ↦ inr (
                a.0,
                tt,
                λ past. a.1 (passes-part sim (Execute p) (with_part world w after) (ap Some own) there (subst (λ (o : Outcome P). PassesLimit sim (Execute p) o.world) next_is past)),
              )
            ],
          )

  -- why Accept is refused
  pub accept-why : (w : ℕ) {k : HeldWorker S P K} → slice_get held.workers w ≡ Some k → (i : ℕ) (fault : Fault)
      → ((part : Part P) → WorkerStandsFor handlers k part → IsAcceptRefusal (local_step (simulation_of handlers k.config) k.worker (Accept k.worker i) part) fault)
      → (world : World P) → StandsForWorld handlers held world → IsStepRefusal (simulation_of handlers held.config) (Accept w i) world fault
  accept-why w {k} at i fault why world s = go (local_step sim w (Accept w i) f.part) refl refusal
    where
      sim : Simulation S P
      sim = simulation_of handlers held.config

      f : IsFound handlers held world w k
      f = found handlers held world w k inside.own_workers s at

      refusal : IsAcceptRefusal (local_step sim w (Accept w i) f.part) fault
      refusal =
          let is = who inside at in
          subst (λ u. IsAcceptRefusal (local_step sim u (Accept u i) f.part) fault) is.0
          (subst (λ (c : Config). IsAcceptRefusal (local_step (simulation_of handlers c) k.worker (Accept k.worker i) f.part) fault) is.1 (why f.part f.stands))

      go : (after : Option (Part P)) → local_step sim w (Accept w i) f.part ≡ after → IsAcceptRefusal after fault → IsStepRefusal sim (Accept w i) world fault
      go None e r = inl (ap (λ (o : Outcome P). o.answer) (locally-is world w (Accept w i) f.part None refl f.there e) ∙ ap Err (sym r))
      go (Some after) e r =
          inr (
            Done,
            ap (λ (o : Outcome P). o.answer) (locally-is world w (Accept w i) f.part (Some after) refl f.there e),
            inr (r, tt, passes-none sim (Accept w i) (next sim world (Accept w i)).world (λ part rounds over. over)),
          )

module _ {M S P K : Type 0} {handlers : Handlers S P K} {held : HeldWorld M S P K} {board_end book_end : Time} (inside : IsWorldInside handlers held board_end book_end) (w : ℕ) {k : HeldWorker S P K} (at : slice_get held.workers w ≡ Some k) where
  -- what a world keeps to after a local step
  pub inside-local : (step : Step) → IsLocalAt (simulation_of handlers held.config) w step → (new : HeldWorker S P K) → IsSame new k
      → ((part : Part P) → WorkerStandsFor handlers k part → IsDone handlers new (local_step (simulation_of handlers k.config) k.worker step part))
      → IsWorldInside handlers (record held { workers = slice_set held.workers w new }) board_end book_end
  inside-local step is new same done = inside-worker inside w at new same step Done held.board held.book refl refl (local-done inside w at step is new same done)

  -- what it keeps to after a worker was left as it was
  pub inside-kept : {new : HeldWorker S P K} → new ≡ k → IsWorldInside handlers (record held { workers = slice_set held.workers w new }) board_end book_end
  inside-kept same = inside-same inside (put-back inside w at same refl) refl refl

  -- a worker stands for some part
  pub some-part : ∥ ((part : Part P) × WorkerStandsFor handlers k part) ∥₁
  some-part = ∥∥₁_map inside.is_reached (λ (x : (serial : ℕ) × IsReached handlers serial held).
      let f = found handlers held (reached (simulation_of handlers held.config) x.0 x.1.0) w k inside.own_workers x.1.1 at in
      (f.part, f.stands))

  -- what a worker says of a step of its own number, said of its index
  pub at-index : (step : ℕ → Step) (Said : Option (Part P) → Type 0) → ((part : Part P) → WorkerStandsFor handlers k part → Said (local_step (simulation_of handlers k.config) k.worker (step k.worker) part))
      → (part : Part P) → WorkerStandsFor handlers k part → Said (local_step (simulation_of handlers k.config) k.worker (step w) part)
  at-index step Said said part stands = subst (λ v. Said (local_step (simulation_of handlers k.config) k.worker (step v) part)) (who inside at).0 (said part stands)

-- what a call owes that does a local step at a worker
module _ {M S P K : Type 0} (meaning : M → Handlers S P K) {held seen : HeldWorld M S P K} (seen_is : held ≡ seen) {board_end book_end : Time} (inside : IsWorldInside (meaning held.model) held board_end book_end)
    (w : ℕ) {k : HeldWorker S P K} (at : slice_get held.workers w ≡ Some k) (step : Step) (is : IsLocalAt (simulation_of (meaning held.model) held.config) w step) (new : HeldWorker S P K) where
  -- the worker has done it, and no counter is past its limit
  pub does-locally : IsSame new k
      → ((part : Part P) → WorkerStandsFor (meaning held.model) k part → IsDone (meaning held.model) new (local_step (simulation_of (meaning held.model) k.config) k.worker step part))
      → ((after : World P) → StandsForWorld (meaning held.model) (record held { workers = slice_set held.workers w new }) after → PassesLimit (simulation_of (meaning held.model) held.config) step after → ⊥)
      → IsHeldStepOf (meaning seen.model) step seen (record held { workers = slice_set held.workers w new }) (Ok Done)
  does-locally same done few =
      let goes = local-done inside w at step is new same done in
      step-done meaning seen_is (record held { workers = slice_set held.workers w new }) step Done goes refl refl (λ world h. few (next (simulation_of (meaning held.model) held.config) world step).world (goes world h).1)

  -- it raises none
  pub does-quietly : IsSame new k
      → ((part : Part P) → WorkerStandsFor (meaning held.model) k part → IsDone (meaning held.model) new (local_step (simulation_of (meaning held.model) k.config) k.worker step part))
      → ((part : Part P) (rounds : ℕ) → PassesIn (simulation_of (meaning held.model) held.config) step part rounds → ⊥)
      → IsHeldStepOf (meaning seen.model) step seen (record held { workers = slice_set held.workers w new }) (Ok Done)
  does-quietly same done none = does-locally same done (λ after h. passes-none (simulation_of (meaning held.model) held.config) step after none)

  -- it isn't lawful for the worker
  pub refuses-locally : (fault : Fault) (result : Result Reply Fault) → IsErrAnd result (λ e. e ≡ fault) → (fault ≡ NotLawful) × (new ≡ k)
      → ((part : Part P) → WorkerStandsFor (meaning held.model) k part → local_step (simulation_of (meaning held.model) k.config) k.worker step part ≡ None)
      → IsHeldStepOf (meaning seen.model) step seen (record held { workers = slice_set held.workers w new }) result
  refuses-locally fault result err kept none =
      step-unlawful meaning seen_is (record held { workers = slice_set held.workers w new }) step fault result err (put-back inside w at kept.1 refl)
      (subst (λ f. GoesOn (simulation_of (meaning held.model) held.config) step (Err f) (world_memory (meaning held.model) held) (world_memory (meaning held.model) held)) (sym kept.0) (local-refused inside w at step is none))
