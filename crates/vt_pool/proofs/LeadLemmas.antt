-- Lists of steps of one worker: none, one step, and one list after another.
use Rattle.std.proofs.Common.{◌≡◌, ◌∙◌, ℕ, List, [], ◌∷◌, ◌++◌, refl, sym, ap, Option, Some, None}
use Rattle.std.specs.Option.{option_and_then}
use Rattle.vt_model.specs.declared.settings.Config.{Config}
use Rattle.vt_model.specs.promise.Handler.{Handlers}
use Rattle.vt_model.specs.promise.Simulation.{Simulation, simulation_of}
use Rattle.vt_steps.specs.declared.step.Step.{Step}
use Rattle.vt_steps.specs.promise.World.{Part}
use Rattle.vt_steps.specs.inside.Cells.{local_step, local_steps}
use Rattle.vt_kernel.specs.inside.Held.{HeldWorker, StandsFor}
use Rattle.vt_kernel.specs.inside.Guards.{IsDone}
use Rattle.vt_kernel.specs.inside.Steps.{part_after}
use Rattle.vt_pool.specs.inside.Steps.{LeadsTo}

module _ {S P : Type 0} (sim : Simulation S P) (w : ℕ) where
  -- a list of steps and then another
  steps-both : (steps more : List Step) (part mid : Part P) → local_steps sim w steps part ≡ Some mid → local_steps sim w (steps ++ more) part ≡ local_steps sim w more mid
  steps-both [] more part mid led =
      let h : Some part ≡ Some mid = led in
      let same : part ≡ mid = cc in
      ap (local_steps sim w more) same
  steps-both (first ∷ rest) more part mid led = go (λ x h. steps-both rest more x mid h) (local_step sim w first part) led
    where
      go : ((x : Part P) → local_steps sim w rest x ≡ Some mid → local_steps sim w (rest ++ more) x ≡ local_steps sim w more mid) →
          (next : Option (Part P)) → option_and_then (local_steps sim w rest) next ≡ Some mid → option_and_then (local_steps sim w (rest ++ more)) next ≡ local_steps sim w more mid
      go both None h = absurd (let k : None ≡ Some mid = h in cc)
      go both (Some x) h = both x h

  one-step : (step : Step) (part after : Part P) → local_step sim w step part ≡ Some after → local_steps sim w (step ∷ []) part ≡ Some after
  one-step step part after is = ap (option_and_then (local_steps sim w [])) is

module _ {S P K : Type 0} (handlers : Handlers S P K) where
  pub leads-nothing : (held : HeldWorker S P K) → LeadsTo handlers held held
  leads-nothing held = record { worker = refl; config = refl; steps = λ part s. record { steps = []; after = part; led = refl; stands = s } }

  pub leads-step : (old new : HeldWorker S P K) (step : Step) → new.worker ≡ old.worker → new.config ≡ old.config
      → ((part : Part P) → StandsFor handlers old part → IsDone handlers new (part_after handlers old step part)) → LeadsTo handlers old new
  leads-step old new step worker config done = record {
    worker = worker;
    config = config;
    steps = λ part s.
        let d = done part s in
        record { steps = step ∷ []; after = d.part; led = one-step (simulation_of handlers old.config) old.worker step part d.part d.lawful; stands = d.stands };
  }

  pub leads-both : (old mid new : HeldWorker S P K) → LeadsTo handlers old mid → LeadsTo handlers mid new → LeadsTo handlers old new
  leads-both old mid new first second = record {
    worker = second.worker ∙ first.worker;
    config = second.config ∙ first.config;
    steps = λ part s.
        let a = first.steps part s in
        let b = second.steps a.after a.stands in
        let there = λ (c : Config) (w : ℕ). local_steps (simulation_of handlers c) w b.steps a.after in
        record {
          steps = a.steps ++ b.steps;
          after = b.after;
          led = steps-both (simulation_of handlers old.config) old.worker a.steps b.steps part a.after a.led
              ∙ (λ j. there (sym first.config j) (sym first.worker j)) ∙ b.led;
          stands = b.stands;
        };
  }
