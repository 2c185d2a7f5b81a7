-- The kernel of a place is reached by local steps from what the place left: at the opening, after a local step or several, after one
-- that was refused, after undoing and cancelling, and after a visit.
use Rattle.std.proofs.Common.{◌≡◌, ℕ, List, [], ◌∷◌, ◌++◌, refl, sym, ◌∙◌, ap, subst, Option, Some, None, Result, Ok, Err}
use Rattle.std.specs.Option.{option_and_then}
use Rattle.std.specs.Prelude.{IfOk, IfErr, MatchResult}
use Rattle.vt_key.specs.promise.Times.{Time}
use Rattle.vt_key.specs.declared.fault.Fault.{Fault}
use Rattle.vt_model.specs.promise.Handler.{Handlers}
use Rattle.vt_model.specs.declared.settings.Config.{Config}
use Rattle.vt_model.specs.promise.Simulation.{Simulation, simulation_of}
use Rattle.vt_steps.specs.declared.step.Step.{Step}
use Rattle.vt_steps.specs.declared.step.Reply.{Reply}
use Rattle.vt_steps.specs.promise.World.{Part, opening_part}
use Rattle.vt_steps.specs.inside.Cells.{local_step, local_steps}
use Rattle.vt_kernel.specs.inside.Held.{HeldWorker, StandsFor}
use Rattle.vt_kernel.specs.inside.Guards.{IsDone, SettlesTo}
use Rattle.vt_pool.specs.inside.Steps.{IsLedFrom}
use Rattle.vt_places.specs.declared.view.View.{View}
use Rattle.vt_places.specs.inside.Kept.{Sat}
use Rattle.vt_places.specs.inside.Making.{Opens}
use Rattle.vt_places.specs.inside.Calls.{HasSameSteps, Unvisited, Closes, Stays, Reaches, Visited}

module _ {S P : Type 0} (sim : Simulation S P) (w : ℕ) where
  -- a list of steps and then another
  pub steps-both : (steps more : List Step) (part mid : Part P) → local_steps sim w steps part ≡ Some mid
      → local_steps sim w (steps ++ more) part ≡ local_steps sim w more mid
  steps-both [] more part mid led =
      let same : part ≡ mid = (let h : Some part ≡ Some mid = led in cc) in
      ap (local_steps sim w more) same
  steps-both (first ∷ rest) more part mid led = go (λ x h. steps-both rest more x mid h) (local_step sim w first part) led
    where
      go : ((x : Part P) → local_steps sim w rest x ≡ Some mid → local_steps sim w (rest ++ more) x ≡ local_steps sim w more mid) →
          (next : Option (Part P)) → option_and_then (local_steps sim w rest) next ≡ Some mid → option_and_then (local_steps sim w (rest ++ more)) next ≡ local_steps sim w more mid
      go both None h = absurd (let k : None ≡ Some mid = h in cc)
      go both (Some x) h = both x h

  -- one step
  pub one-step : (step : Step) (part : Part P) → local_steps sim w (step ∷ []) part ≡ local_step sim w step part
  one-step step part = go (local_step sim w step part)
    where
      go : (next : Option (Part P)) → option_and_then (local_steps sim w []) next ≡ next
      go None = refl
      go (Some x) = refl

module _ {S P K : Type 0} (handlers : Handlers S P K) (config : Config) (v : View P) where
  module _ (k new : HeldWorker S P K) (same : (new.worker ≡ k.worker) × (new.config ≡ k.config)) (r : Reaches handlers config v k) where
    -- more steps, from the part that the kernel stood for
    further : (more : List Step) (part : Part P) → local_steps (simulation_of handlers k.config) k.worker more r.part ≡ Some part → StandsFor handlers new part → Reaches handlers config v new
    further more part led stands =
        record {
          worker = same.0 ∙ r.worker;
          config_is = same.1 ∙ r.config_is;
          steps = r.steps ++ more;
          part = part;
          led = steps-both (simulation_of handlers config) v.worker r.steps more v.part r.part r.led
              ∙ subst (λ (c : Config). local_steps (simulation_of handlers c) v.worker more r.part ≡ Some part) r.config_is
              (subst (λ (w : ℕ). local_steps (simulation_of handlers k.config) w more r.part ≡ Some part) r.worker led);
          stands = stands;
        }

    -- local steps were done
    pub reaches-led : ((part : Part P) → StandsFor handlers k part → IsLedFrom handlers k part new) → Reaches handlers config v new
    reaches-led leads =
        let l = leads r.part r.stands in
        further l.steps l.after l.led l.stands

    -- a local step was done
    pub reaches-done : (step : Step) → ((part : Part P) → StandsFor handlers k part → IsDone handlers new (local_step (simulation_of handlers k.config) k.worker step part)) → Reaches handlers config v new
    reaches-done step done =
        let d = done r.part r.stands in
        further (step ∷ []) d.part (one-step (simulation_of handlers k.config) k.worker step r.part ∙ d.lawful) d.stands

    -- it was done, or refused
    pub reaches-either : {X : Type 0} (step : Step) (result : Result X Fault)
        → ((part : Part P) → StandsFor handlers k part → IfOk result (λ _. IsDone handlers new (local_step (simulation_of handlers k.config) k.worker step part)))
        → ((part : Part P) → StandsFor handlers k part → IfErr result (λ _. new ≡ k)) → Reaches handlers config v new
    reaches-either step (Ok x) done kept = reaches-done step done
    reaches-either step (Err fault) done kept = subst (λ (h : HeldWorker S P K). Reaches handlers config v h) (sym (kept r.part r.stands)) r

    -- undone and cancelled as often as it was lawful
    pub reaches-settled : (p count : ℕ) → ((part : Part P) → StandsFor handlers k part → (to : Part P) × SettlesTo (simulation_of handlers k.config) k.worker p part to count × StandsFor handlers new to) → Reaches handlers config v new
    reaches-settled p count settles =
        let s = settles r.part r.stands in
        further s.1.steps s.0 s.1.led s.2

-- a refusal that left things as they were did so, whatever else is known of it
pub kept-of : {X K : Type 0} (k new : K) (result : Result X Fault) (why : Fault → Type 0) → IfErr result (λ fault. why fault × (new ≡ k)) → IfErr result (λ _. new ≡ k)
kept-of k new (Ok x) why h = tt
kept-of k new (Err fault) why h = h.1

module _ {S P K : Type 0} (handlers : Handlers S P K) (config : Config) (v w : View P) (k : HeldWorker S P K) (r : Reaches handlers config v k) where
  -- the place is the same worker's, and has the same part
  pub reaches-there : w.worker ≡ v.worker → w.part ≡ v.part → Reaches handlers config w k
  reaches-there worker part =
      record {
        worker = r.worker ∙ sym worker;
        config_is = r.config_is;
        steps = r.steps;
        part = r.part;
        led = ap (λ (x : ℕ). local_steps (simulation_of handlers config) x r.steps w.part) worker ∙ ap (local_steps (simulation_of handlers config) v.worker r.steps) part ∙ r.led;
        stands = r.stands;
      }

  reaches-steps : HasSameSteps v w → Reaches handlers config w k
  reaches-steps h = reaches-there h.same.worker h.part

  -- after a step at a cell
  pub reaches-visited : (left : HeldWorker S P K) (seen : Time) (step : Step) (reply : Reply) → Visited handlers config v k step reply left seen w → Reaches handlers config w left
  reaches-visited left seen step reply d =
      record {
        worker = d.visits.does.worker ∙ r.worker ∙ sym d.same.worker;
        config_is = d.visits.does.config_is ∙ r.config_is;
        steps = [];
        part = w.part;
        led = refl;
        stands = d.visits.stands;
      }

  -- done or refused
  pub reaches-tried : (left : HeldWorker S P K) (step : Step) (answer : Result Reply Fault) (Same : Type 0) → MatchResult answer (λ reply. Visited handlers config v k step reply left v.seen w) (λ _. Unvisited v v.seen w)
      → IfErr answer (λ _. (left ≡ k) × Same) → Reaches handlers config w left
  reaches-tried left step (Ok reply) Same d kept = reaches-visited left v.seen step reply d
  reaches-tried left step (Err fault) Same d kept = subst (λ (h : HeldWorker S P K). Reaches handlers config w h) (sym kept.0) (reaches-steps d.steps)

  -- after a close, done or refused
  pub reaches-closed : {S' X : Type 0} (sim : Simulation S' P) (seen : Time) (result : Result X Fault) → MatchResult result (λ _. Closes sim v seen w) (λ _. Stays v w) → Reaches handlers config w k
  reaches-closed sim seen (Ok x) h = reaches-there h.same.worker h.part
  reaches-closed sim seen (Err fault) h = reaches-steps h.0

  -- after a look at the records
  pub reaches-shown : {X : Type 0} (Are : Time → X → Type 0) (result : Result X Fault) → MatchResult result (λ x. (floor : Time) × Are floor x × Unvisited v floor w) (λ _. Stays v w) → Reaches handlers config w k
  reaches-shown Are (Ok x) h = reaches-steps h.2.steps
  reaches-shown Are (Err fault) h = reaches-steps h.0

-- after local steps from the opening
pub reaches-opening : {S P K : Type 0} (handlers : Handlers S P K) (config : Config) (w : ℕ) (m : Sat P) (k : HeldWorker S P K) → Opens (simulation_of handlers config) w m
    → k.worker ≡ w → k.config ≡ config → IsLedFrom handlers k (opening_part (simulation_of handlers config) 0 w) k → Reaches handlers config m.0 k
reaches-opening handlers config w m k opens worker config_is l =
    let sim = simulation_of handlers config in
    record {
      worker = worker ∙ sym opens.worker;
      config_is = config_is;
      steps = l.steps;
      part = l.after;
      led = (λ i. local_steps sim (opens.worker i) l.steps (opens.part i))
          ∙ subst (λ (x : Config × ℕ). local_steps (simulation_of handlers x.0) x.1 l.steps (opening_part sim 0 w) ≡ Some l.after) (λ i. (config_is i, worker i)) l.led;
      stands = l.stands;
    }
