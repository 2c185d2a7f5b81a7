-- A process that was settled, as steps of its worker.
use Rattle.std.proofs.Common.{◌≡◌, ℕ, ◌+◌, ◌-◌, ◌*◌, ◌/◌, ◌%◌, ◌≤◌, List, [], length, refl, sym, ◌∙◌, ap, subst, arith, Some, slice_get, slice_set}
use Rattle.std.proofs.Math.Nat.{div-add-mod'}
use Rattle.vt_key.specs.declared.letter.Letter.{Letter}
use Rattle.vt_model.specs.promise.Handler.{Handlers}
use Rattle.vt_model.specs.promise.Simulation.{simulation_of}
use Rattle.vt_steps.specs.promise.World.{LogicalProcess, Part, process_at}
use Rattle.vt_steps.specs.promise.ProcessSteps.{undo_process, cancel_process}
use Rattle.vt_steps.specs.promise.PartSteps.{with_effect}
use Rattle.vt_steps.proofs.lists.Indices.{get-put_same}
use Rattle.vt_lp.specs.inside.Held.{HeldProcess, StandsFor as ProcessStandsFor}
use Rattle.vt_kernel.specs.inside.Held.{HeldWorker, StandsFor, AreProcesses}
use Rattle.vt_kernel.specs.inside.Guards.{SettlesTo}
use Rattle.vt_kernel.specs.inside.Settled.{LedTo, IsSettledTo}
use Rattle.vt_kernel.proofs.ProcessLemmas.{stands-after}
use Rattle.vt_kernel.proofs.PartLemmas.{stands_along}
use Rattle.vt_kernel.proofs.OwnSteps.{IsFound}
use Rattle.vt_kernel.proofs.SettlingLemmas.{led-at, are-settling, settled-at}
use Rattle.vt_kernel.proofs.LocalLemmas.{IsOwnIndex, found-at, unknown-refused}

module _ {S P K : Type 0} (handlers : Handlers S P K) (held : HeldWorker S P K) (are : AreProcesses held.config held.worker 0 held.processes) (part : Part P) (h : StandsFor handlers held part) where
  -- at a process that is none of the worker's there is nothing to settle
  pub unknown-settled : (p : ℕ) → 1 ≤ held.config.workers → length held.processes ≡ (held.config.lps + (held.config.workers - 1) - held.worker) / held.config.workers
      → (p % held.config.workers ≡ held.worker → held.config.lps ≤ p) → SettlesTo (simulation_of handlers held.config) held.worker p part part 0
  unknown-settled p some all past = record {
    steps = [];
    settling = tt;
    led = refl;
    counted = refl;
    settled = record {
      no_undo = unknown-refused handlers held are part h p undo_process some all past;
      no_cancel = λ stamp. unknown-refused handlers held are part h p (cancel_process stamp) some all past;
    };
  }

  -- what settles the process that was found
  pub found-settled : (p count : ℕ) (q new : HeldProcess S P K) (outbox : List (Letter P)) → p % held.config.workers ≡ held.worker
      → (f : IsFound handlers held part p q) → new.lp ≡ q.lp → new.config ≡ q.config → IsSettledTo handlers f.process new held.outbox outbox count
      → (after : Part P) × SettlesTo (simulation_of handlers held.config) held.worker p part after count
      × StandsFor handlers (record held { processes = slice_set held.processes (p / held.config.workers) new; outbox = outbox }) after
  found-settled p count q new outbox own f same_lp same_config settled =
      let sim = simulation_of handlers held.config in
      let index = p / held.config.workers in
      let effect = settled.led.effect in
      let steps = settled.led.steps in
      let after = with_effect part index effect in
      let led : LedTo p f.process steps effect = subst (λ k. LedTo k f.process steps effect) (same_lp ∙ f.lp) settled.led.led in
      let number : p ≡ process_at sim held.worker index = sym (div-add-mod' p held.config.workers) ∙ ap (λ r. index * held.config.workers + r) own in
      let here : slice_get after.processes index ≡ Some effect.process = get-put_same part.processes index f.process effect.process f.there in (
        after,
        record {
          steps = steps;
          settling = are-settling sim held.worker p f.process steps effect led;
          led = led-at sim held.worker p f.process steps effect part led own f.there;
          counted = settled.led.counted;
          settled = settled-at sim held.worker p after effect.process own here settled.no_undo settled.no_cancel;
        },
        stands-after handlers held part index new effect outbox held.serial h (same_lp ∙ f.lp ∙ number) (same_config ∙ f.config) settled.led.stands settled.led.letters
            (let none = settled.led.serials in omega (arith, none)),
      )

  -- what settles the process at an index
  pub settled-worker : {p index : ℕ} (count : ℕ) {q : HeldProcess S P K} (new : HeldProcess S P K) (outbox : List (Letter P)) → IsOwnIndex held.config held.worker p index
      → slice_get held.processes index ≡ Some q → (new.lp ≡ q.lp) × (new.config ≡ q.config)
      → ((process : LogicalProcess P) → ProcessStandsFor handlers q process → IsSettledTo handlers process new held.outbox outbox count)
      → (after : Part P) × SettlesTo (simulation_of handlers held.config) held.worker p part after count
      × StandsFor handlers (record held { processes = slice_set held.processes index new; outbox = outbox }) after
  settled-worker {p} {index} count {q} new outbox own at same settled =
      let f = found-at handlers held are part h own at in
      subst (λ k. (after : Part P) × SettlesTo (simulation_of handlers held.config) held.worker p part after count
      × StandsFor handlers (record held { processes = slice_set held.processes k new; outbox = outbox }) after) (sym own.0)
      (found-settled p count q new outbox own.1 f same.0 same.1 (settled f.process f.stands))

-- the same of a worker as contracts see it
pub settled-seen : {S P K : Type 0} (handlers : Handlers S P K) {held seen : HeldWorker S P K} → held ≡ seen → AreProcesses held.config held.worker 0 held.processes → (part : Part P) → StandsFor handlers seen part
    → {p index : ℕ} (count : ℕ) {q : HeldProcess S P K} (new : HeldProcess S P K) (outbox : List (Letter P)) → IsOwnIndex held.config held.worker p index → slice_get held.processes index ≡ Some q → (new.lp ≡ q.lp) × (new.config ≡ q.config)
    → ((process : LogicalProcess P) → ProcessStandsFor handlers q process → IsSettledTo handlers process new held.outbox outbox count)
    → (after : Part P) × SettlesTo (simulation_of handlers seen.config) seen.worker p part after count
    × StandsFor handlers (record held { processes = slice_set held.processes index new; outbox = outbox }) after
settled-seen {S} {P} {K} handlers {held} seen_is are part s {p} {index} count new outbox own at same settled =
    subst (λ (v : HeldWorker S P K). (after : Part P) × SettlesTo (simulation_of handlers v.config) v.worker p part after count
    × StandsFor handlers (record held { processes = slice_set held.processes index new; outbox = outbox }) after) seen_is
    (settled-worker handlers held are part (stands_along seen_is handlers part s) count new outbox own at same settled)
