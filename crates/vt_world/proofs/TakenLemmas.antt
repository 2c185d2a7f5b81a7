-- What a step of a world in memory comes to, in the one world that it is known to stand for.
use Rattle.std.proofs.Common.{◌≡◌, ℕ, List, [], ◌∷◌, ◌++◌, inl, inr, refl, sym, ◌∙◌, ap, subst, Result, Ok, Err}
use Rattle.std.specs.Prelude.{IsTrue}
use Rattle.std.proofs.Math.Nat.{le_refl}
use Rattle.vt_key.specs.promise.Times.{TimeAtMost}
use Rattle.vt_key.specs.declared.fault.Fault.{Fault}
use Rattle.vt_key.specs.declared.fault.Fault.TheVariants.{Closed}
use Rattle.vt_model.specs.declared.settings.Config.{Config}
use Rattle.vt_model.specs.promise.Handler.{Handlers}
use Rattle.vt_model.specs.promise.Histories.{IsLawful}
use Rattle.vt_model.specs.promise.Simulation.{Simulation, simulation_of}
use Rattle.vt_model.specs.promise.Settings.{end_of}
use Rattle.vt_steps.specs.declared.step.Step.{Step}
use Rattle.vt_steps.specs.declared.step.Reply.{Reply}
use Rattle.vt_steps.specs.promise.World.{World, book_floor, opening_world}
use Rattle.vt_steps.specs.promise.Next.{next, run, reached}
use Rattle.vt_steps.specs.inside.StandsFor.{StandsFor}
use Rattle.vt_steps.specs.inside.Cells.{cell_of}
use Rattle.vt_steps.proofs.steps.MemoryLemmas.{run-append}
use Rattle.vt_steps.proofs.steps.Refusals.{refusals as refusal-laws}
use Rattle.vt_steps.proofs.book.ReachedBooks.{closed-stays, reached-falls}
use Rattle.vt_kernel.specs.promise.Refusals.{PassesLimit}
use Rattle.vt_world.specs.inside.Held.{HeldWorld, world_memory, StandsForWorld, IsHeldStepOf}
use Rattle.vt_world.specs.promise.Calls.{RunWorld, IsOfBook, IsStepOf}

-- ---- a closed book

-- it refuses a commit and a close
pub closed-answer : {S P : Type 0} (sim : Simulation S P) (step : Step) (old new : World P) (result : Result Reply Fault) → IsStepOf sim step old new result
    → IsTrue old.book.is_closed → IsOfBook step → result ≡ Err Closed
closed-answer sim step old new result is shut on_book = go result is
  where
    closed : (next sim old step).answer ≡ Err Closed
    closed = (refusal-laws sim old step).closed shut (elim on_book [ inl e ↦ ap (cell_of sim) e | inr e ↦ ap (cell_of sim) e.1 ])

    go : (result : Result Reply Fault) → IsStepOf sim step old new result → result ≡ Err Closed
    go (Ok reply) is = ap (λ o. o.answer) (sym is.0) ∙ closed
    go (Err fault) is = elim is.1 [
      | inl e ↦ sym e ∙ closed
      | inr a ↦ absurd (let k : ◌≡◌ {A = Result Reply Fault} (Ok a.0) (Err Closed) = sym a.1 ∙ closed in cc)
    ]

module _ {M S P K : Type 0} (meaning : M → Handlers S P K) where
  abbrev sim_of : RunWorld M P → Simulation S P
  sim_of v = simulation_of (meaning v.model) v.config

  -- the clauses of a call that does a step
  pub record TakesStep (this : Step) (old new : RunWorld M P) (result : Result Reply Fault) : Type 0 where
    pub step : IsStepOf (sim_of old) this old.world new.world result
    pub same : (new.model ≡ old.model) × (new.config ≡ old.config)
    pub announced : TimeAtMost old.world.board.announced new.world.board.announced
    pub floor : TimeAtMost (book_floor (end_of old.config) old.world.book) (book_floor (end_of new.config) new.world.book)
    pub closed : IsTrue old.world.book.is_closed → IsOfBook this → result ≡ Err Closed
    pub stays : IsTrue old.world.book.is_closed → new.world.book ≡ old.world.book

  -- what a contract sees of a world with this in memory, after these steps
  abbrev pub view_of : HeldWorld M S P K → ℕ → List Step → RunWorld M P
  view_of held serial steps = record { model = held.model; config = held.config; world = reached (simulation_of (meaning held.model) held.config) serial steps }

  module _ (held new : HeldWorld M S P K) (serial : ℕ) (steps : List Step) (step : Step) (stands : StandsForWorld (meaning held.model) held (view_of held serial steps).world) where
    abbrev sim : Simulation S P
    sim = simulation_of (meaning held.model) held.config

    abbrev old : World P
    old = reached sim serial steps

    -- it is done, and added to the steps
    module _ (reply : Reply) (is : IsHeldStepOf (meaning held.model) step held new (Ok reply)) (steps' : List Step) (more : steps' ≡ steps ++ step ∷ []) where
      went : (view_of new serial steps').world ≡ (next sim old step).world
      unfolding run
      went =
          (λ i. reached (simulation_of (meaning (is.same_model i)) (is.same_config i)) serial (more i))
          ∙ run-append sim (opening_world sim serial) steps (step ∷ [])

      pub inside-ok : StandsForWorld (meaning new.model) new (view_of new serial steps').world
      inside-ok =
          subst (λ (v : M × Config × World P). StandsFor (simulation_of (meaning v.0) v.1) (world_memory (meaning v.0) new) v.2)
          (λ i. (sym is.same_model i, sym is.same_config i, sym went i)) (is.done old stands).1

      does : IsStepOf sim step old (view_of new serial steps').world (Ok reply)
      does = (
        λ i. record { world = sym went i; answer = (is.done old stands).0 i },
        subst (λ (w : World P). PassesLimit sim step w → ⊥) (sym went) (is.within old stands),
      )

      pub taken-ok : IsLawful sim → {seen : RunWorld M P} → view_of held serial steps ≡ seen → TakesStep step seen (view_of new serial steps') (Ok reply)
      unfolding run
      taken-ok lawful seen_is =
          let up = reached-falls sim lawful serial steps (step ∷ []) in
          subst (λ (v : RunWorld M P). TakesStep step v (view_of new serial steps') (Ok reply)) seen_is
          (record {
            step = does;
            same = (is.same_model, is.same_config);
            announced = subst (λ (w : World P). TimeAtMost old.board.announced w.board.announced) (sym went) up.announced;
            floor = subst (λ (v : Config × World P). TimeAtMost (book_floor (end_of held.config) old.book) (book_floor (end_of v.0) v.1.book)) (λ i. (sym is.same_config i, sym went i)) up.floor;
            closed = closed-answer sim step old (view_of new serial steps').world (Ok reply) does;
            stays = λ shut. ap (λ (w : World P). w.book) went ∙ closed-stays sim old (step ∷ []) shut;
          })

    -- it is refused, and nothing has changed
    module _ (fault : Fault) (is : IsHeldStepOf (meaning held.model) step held new (Err fault)) where
      pub inside-err : StandsForWorld (meaning new.model) new (view_of new serial steps).world
      inside-err = subst (λ (h : HeldWorld M S P K). StandsForWorld (meaning h.model) h (view_of h serial steps).world) (sym is.unchanged) stands

      pub taken-err : {seen : RunWorld M P} → view_of held serial steps ≡ seen → TakesStep step seen (view_of new serial steps) (Err fault)
      taken-err seen_is =
          let does : IsStepOf sim step old old (Err fault) = (refl, is.refused old stands) in
          subst (λ (v : RunWorld M P × RunWorld M P). TakesStep step v.0 v.1 (Err fault)) (λ i. (seen_is i, view_of (sym is.unchanged i) serial steps))
          (record {
            step = does;
            same = (refl, refl);
            announced = le_refl _;
            floor = le_refl _;
            closed = closed-answer sim step old old (Err fault) does;
            stays = λ shut. refl;
          })
