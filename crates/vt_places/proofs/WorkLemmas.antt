-- A worker at its place is still at work after a local step, and after a call of its station.
use Rattle.std.proofs.Common.{◌≡◌, ℕ, List, [], refl, sym, ◌∙◌, subst, Result}
use Rattle.std.specs.Prelude.{IfOk, IfErr, MatchResult}
use Rattle.atomic_table.specs.Seated.{TableId}
use Rattle.vt_key.specs.declared.fault.Fault.{Fault}
use Rattle.vt_key.specs.declared.fault.Fault.TheVariants.{NotLawful}
use Rattle.vt_model.specs.declared.settings.Config.{Config}
use Rattle.vt_model.specs.promise.Handler.{Handlers}
use Rattle.vt_model.specs.promise.Settings.{end_of}
use Rattle.vt_model.specs.promise.Simulation.{simulation_of}
use Rattle.vt_steps.specs.declared.step.Step.{Step}
use Rattle.vt_steps.specs.inside.Finals.{worker_finals}
use Rattle.vt_steps.specs.promise.World.{Part, opening_part}
use Rattle.vt_steps.specs.inside.Cells.{local_step}
use Rattle.vt_kernel.specs.inside.Held.{HeldWorker, StandsFor}
use Rattle.vt_kernel.specs.inside.Guards.{IsDone, SettlesTo}
use Rattle.vt_pool.specs.inside.Steps.{IsLedFrom, LeadsTo}
use Rattle.vt_places.specs.declared.view.View.{View}
use Rattle.vt_places.specs.declared.place.Place.{Place}
use Rattle.vt_places.specs.inside.Told.{place_table, place_view, place_seat}
use Rattle.vt_places.specs.inside.Making.{IsNew}
use Rattle.vt_places.specs.inside.AtWork.{AtWork, IsAtWork}
use Rattle.vt_places.specs.inside.Calls.{Reaches, Closes, Stays, IsRefusedAlone}
use Rattle.vt_places.proofs.ReachLemmas.{reaches-opening, reaches-led, reaches-either, reaches-settled, reaches-closed, kept-of}

-- with a kernel after local steps from the opening, at a place as it was made
pub opens-led : {M S P K : Type 0} {handlers : M → Handlers S P K} {told model : M} {known config : Config} {table : TableId} {w : ℕ} {place : Place P} {kernel : HeldWorker S P K} → (told ≡ model) × (known ≡ config)
    → IsNew (simulation_of (handlers model) config) table w place → (kernel.worker ≡ w) × (kernel.config ≡ config) → IsLedFrom (handlers model) kernel (opening_part (simulation_of (handlers model) config) 0 w) kernel
    → IsAtWork handlers told config (place_table place) (record { model = model; config = known; table = table; view = place_view place; kernel = kernel })
opens-led {handlers = handlers} {model = model} {config = config} {w = w} {place} {kernel} same new made opening =
    record {
      config_is = sym same.1;
      table_is = new.table_is;
      model_is = same.0;
      reaches = subst (λ (c : Config). Reaches (handlers model) c (place_view place) kernel) (sym same.1) (reaches-opening (handlers model) config w (place_seat place) kernel new.opens made.0 made.1 opening);
    }

-- with a kernel at the opening
pub opens-at-work : {M S P K : Type 0} {handlers : M → Handlers S P K} {told model : M} {known config : Config} {table : TableId} {w : ℕ} {place : Place P} {kernel : HeldWorker S P K} → (told ≡ model) × (known ≡ config)
    → IsNew (simulation_of (handlers model) config) table w place → (kernel.worker ≡ w) × (kernel.config ≡ config) → StandsFor (handlers model) kernel (opening_part (simulation_of (handlers model) config) 0 w)
    → IsAtWork handlers told config (place_table place) (record { model = model; config = known; table = table; view = place_view place; kernel = kernel })
opens-at-work same new made stands = opens-led same new made (record { steps = []; after = _; led = refl; stands = stands })

module _ {M S P K : Type 0} {handlers : M → Handlers S P K} {told : M} {config : Config} {table : TableId} {w : AtWork M S P K} (i : IsAtWork handlers told config table w) where
  -- the kernel, as a call of the station asks for it
  pub kernel-ready : Reaches (handlers told) w.config w.view w.kernel
  kernel-ready = subst (λ (m : M). Reaches (handlers m) w.config w.view w.kernel) (sym i.model_is) i.reaches

  -- with a place of this table that knows this, and with this kernel
  pub stays-at-work : {after : TableId} {view : View P} {kernel : HeldWorker S P K} → after ≡ table → Reaches (handlers w.model) w.config view kernel → IsAtWork handlers told config after (record w { view = view; kernel = kernel })
  stays-at-work same reaches = record { config_is = i.config_is; table_is = same ∙ i.table_is; model_is = i.model_is; reaches = reaches }

  -- after a call of the station that leaves the place and the kernel so
  pub called-at-work : {after : TableId} {view : View P} {kernel : HeldWorker S P K} → after ≡ table → Reaches (handlers told) w.config view kernel → IsAtWork handlers told config after (record w { view = view; kernel = kernel })
  called-at-work {after} {view} {kernel} same ready = stays-at-work same (subst (λ (m : M). Reaches (handlers m) w.config view kernel) i.model_is ready)

  -- after a close, done or refused
  pub closed-at-work : {X : Type 0} {after : TableId} {view : View P} (result : Result X Fault) → after ≡ table
      → MatchResult result (λ _. Closes (simulation_of (handlers told) w.config) w.view (end_of w.config) view) (λ _. Stays w.view view) → IsAtWork handlers told config after (record w { view = view })
  closed-at-work {view = view} result same done =
      stays-at-work same (reaches-closed (handlers w.model) w.config w.view view w.kernel i.reaches (simulation_of (handlers told) w.config) (end_of w.config) result done)

  -- after the final values were made, or refused
  pub read-at-work : {after : TableId} {view : View P} → after ≡ table → view ≡ w.view → IsAtWork handlers told config after (record w { view = view })
  read-at-work same is = stays-at-work same (subst (λ (v : View P). Reaches (handlers w.model) w.config v w.kernel) (sym is) i.reaches)

  -- what the station says of the final values, in the words of the worker
  pub finals-at-work : {X : Type 0} (items : X → List ℕ) (result : Result X Fault) (number : ℕ) → w.view.worker ≡ number
      → IfOk result (λ v. items v ≡ worker_finals (simulation_of (handlers w.model) config) number)
      → IfOk result (λ v. items v ≡ worker_finals (simulation_of (handlers w.model) w.config) w.view.worker)
  finals-at-work items result number own there =
      subst (λ (z : Config × ℕ). IfOk result (λ v. items v ≡ worker_finals (simulation_of (handlers w.model) z.0) z.1)) (λ j. (i.config_is j, sym own j)) there

  -- what a call of the station says of a worker that is alone, in the words of the worker
  pub alone-at-work : {X : Type 0} (step : ℕ → Step) (result : Result X Fault) {o : AtWork M S P K} → w ≡ o → (number : ℕ) → w.view.worker ≡ number
      → ((r : Reaches (handlers told) w.config w.view w.kernel) → IsRefusedAlone (simulation_of (handlers told) w.config) w.view r.steps (step number) result)
      → (r : Reaches (handlers o.model) o.config o.view o.kernel) → IsRefusedAlone (simulation_of (handlers o.model) o.config) o.view r.steps (step o.kernel.worker) result
  alone-at-work step result seen number own alone =
      subst (λ (o : AtWork M S P K). (r : Reaches (handlers o.model) o.config o.view o.kernel) → IsRefusedAlone (simulation_of (handlers o.model) o.config) o.view r.steps (step o.kernel.worker) result) seen
      (subst (λ (z : M × ℕ). (r : Reaches (handlers z.0) w.config w.view w.kernel) → IsRefusedAlone (simulation_of (handlers z.0) w.config) w.view r.steps (step z.1) result)
      (λ j. (i.model_is j, (sym own ∙ sym i.reaches.worker) j)) alone)

  -- after local steps
  pub led-at-work : {new : HeldWorker S P K} → LeadsTo (handlers w.model) w.kernel new → IsAtWork handlers told config table (record w { kernel = new })
  led-at-work {new} leads = stays-at-work refl (reaches-led (handlers w.model) w.config w.view w.kernel new (leads.worker, leads.config) i.reaches leads.steps)

  -- after undoing and cancelling at a process
  pub settled-at-work : {new : HeldWorker S P K} → (new.worker ≡ w.kernel.worker) × (new.config ≡ w.kernel.config) → (p count : ℕ)
      → ((part : Part P) → StandsFor (handlers w.model) w.kernel part
      → (to : Part P) × SettlesTo (simulation_of (handlers w.model) w.kernel.config) w.kernel.worker p part to count × StandsFor (handlers w.model) new to) → IsAtWork handlers told config table (record w { kernel = new })
  settled-at-work {new} same p count settles =
      stays-at-work refl (reaches-settled (handlers w.model) w.config w.view w.kernel new same i.reaches p count settles)

  -- after a local step, done or refused
  module _ {X : Type 0} {new : HeldWorker S P K} (step : Step) (result : Result X Fault) (same : (new.worker ≡ w.kernel.worker) × (new.config ≡ w.kernel.config))
      (done : (part : Part P) → StandsFor (handlers w.model) w.kernel part → IfOk result (λ _. IsDone (handlers w.model) new (local_step (simulation_of (handlers w.model) w.kernel.config) w.kernel.worker step part))) where
    pub stepped-at-work : ((part : Part P) → StandsFor (handlers w.model) w.kernel part → IfErr result (λ _. new ≡ w.kernel)) → IsAtWork handlers told config table (record w { kernel = new })
    stepped-at-work kept = stays-at-work refl (reaches-either (handlers w.model) w.config w.view w.kernel new same i.reaches step result done kept)

    pub lawful-at-work : IfErr result (λ fault. (fault ≡ NotLawful) × (new ≡ w.kernel)) → IsAtWork handlers told config table (record w { kernel = new })
    lawful-at-work kept = stepped-at-work (λ _ _. kept-of w.kernel new result (λ fault. fault ≡ NotLawful) kept)
