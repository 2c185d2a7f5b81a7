-- What a process sent, put behind all letters of the outbox.
use Rattle.std.proofs.Common.{◌≡◌, ◌∙◌, ◌≤◌, ℕ, List, [], ◌++◌, append-nil, sym, ap, subst, Option, Some, slice_get, slice_set}
use Rattle.std.proofs.lemmas.List.Elements.{All-append, All-nil}
use Rattle.vt_key.specs.declared.limits.TheConstants.{MAX_COUNT}
use Rattle.vt_key.specs.declared.letter.Letter.{Letter}
use Rattle.vt_key.specs.declared.letter.Mail.{Mail}
use Rattle.vt_model.specs.declared.settings.Config.{Config}
use Rattle.vt_model.specs.promise.Handler.{Handlers}
use Rattle.vt_model.specs.promise.Settings.{end_of}
use Rattle.vt_steps.specs.promise.Letters.{Counts}
use Rattle.vt_steps.specs.promise.World.{LogicalProcess}
use Rattle.vt_steps.specs.promise.ProcessSteps.{ProcessEffect}
use Rattle.vt_lp.specs.inside.Held.{HeldProcess, AllWithinRun, IsWithinRun}
use Rattle.vt_lp.specs.inside.Guards.{IsDone as ProcessIsDone}
use Rattle.vt_outbox.specs.inside.Outbox.{HeldOutbox}
use Rattle.vt_kernel.specs.inside.Held.{HeldWorker, IsWorkerInside}
use Rattle.vt_kernel.specs.inside.Settled.{IsSettledTo}
use Rattle.vt_kernel.proofs.ProcessLemmas.{process-at}
use Rattle.vt_kernel.proofs.LocalLemmas.{inside-changed, written-same}

module _ {P : Type 0} (outbox : HeldOutbox P) {put : HeldOutbox P} (sent : List (Letter P)) {empty : List (Letter P)} (none : empty ≡ []) (is : put ≡ record outbox { letters = outbox.letters ++ sent }) where
  behind : put.letters ≡ outbox.letters ++ sent
  behind = ap (λ (o : HeldOutbox P). o.letters) is

  -- where nothing was sent, it has the letters that it had
  pub put-kept : sent ≡ empty → put.letters ≡ outbox.letters
  put-kept same = behind ∙ ap (λ (ls : List (Letter P)). outbox.letters ++ ls) (same ∙ none) ∙ append-nil outbox.letters

  -- where the process was written as it was too, the worker is seen as before
  pub put-seen : {S K : Type 0} (held : HeldWorker S P K) (index : ℕ) {old new : HeldProcess S P K} {serial : ℕ} → slice_get held.processes index ≡ Some old → held.outbox ≡ outbox.letters
      → new ≡ old → sent ≡ empty → serial ≡ held.serial → record held { processes = slice_set held.processes index new; outbox = put.letters; serial = serial } ≡ held
  put-seen held index {old} {new} at same_outbox same kept still =
      λ j. record held { processes = written-same held.processes index old new at same j; outbox = (put-kept kept ∙ sym same_outbox) j; serial = still j }

  put-letters : (letters : List (Letter P)) → sent ≡ empty ++ letters → put.letters ≡ outbox.letters ++ letters
  put-letters letters made = behind ∙ ap (λ (ls : List (Letter P)). outbox.letters ++ ls) (made ∙ ap (λ (ls : List (Letter P)). ls ++ letters) none)

  -- what was done at the process with an empty list is done with the outbox
  pub put-done : {S K : Type 0} {handlers : Handlers S P K} {new : HeldProcess S P K} {step : Option (ProcessEffect P)} {serial next : ℕ}
      → ProcessIsDone handlers new step empty sent serial next → ProcessIsDone handlers new step outbox.letters put.letters serial next
  put-done done = record {
    effect = done.effect;
    lawful = done.lawful;
    stands = done.stands;
    letters = put-letters done.effect.letters done.letters;
    serials = done.serials;
  }

  pub put-settled : {S K : Type 0} {handlers : Handlers S P K} {process : LogicalProcess P} {new : HeldProcess S P K} {count : ℕ}
      → IsSettledTo handlers process new empty sent count → IsSettledTo handlers process new outbox.letters put.letters count
  put-settled settled = record {
    led = record {
      steps = settled.led.steps;
      effect = settled.led.effect;
      led = settled.led.led;
      stands = settled.led.stands;
      letters = put-letters settled.led.effect.letters settled.led.letters;
      serials = settled.led.serials;
      counted = settled.led.counted;
    };
    no_undo = settled.no_undo;
    no_cancel = settled.no_cancel;
  }

  -- how a worker's fields go together once one of its processes has changed
  module _ {S K : Type 0} {config : Config} {w : ℕ} {processes : List (HeldProcess S P K)} {arrived : List (Mail P)} {out got : Counts} {serial : ℕ}
      (h : IsWorkerInside config w processes outbox arrived out got serial) where
    pub inside-put : (index : ℕ) {old : HeldProcess S P K} (new : HeldProcess S P K) {next : ℕ}
        → slice_get processes index ≡ Some old → (new.lp ≡ old.lp) × (new.config ≡ old.config)
        → (AllWithinRun old.config empty → AllWithinRun old.config sent) → next ≤ MAX_COUNT → IsWorkerInside config w (slice_set processes index new) put arrived out got next
    inside-put index {old} new at same more few =
        let each = IsWithinRun {P = P} config.lps (end_of config) in
        let within = subst (λ (k : Config). AllWithinRun k empty → AllWithinRun k sent) (process-at config w 0 index processes old h.own_processes at).1 more in
        inside-changed h index new at same
        (subst (AllWithinRun config) (sym behind) (All-append each outbox.letters sent h.sendable (within (subst (AllWithinRun config) (sym none) (All-nil each)))))
        (ap (λ (o : HeldOutbox P). o.config) is ∙ h.by_worker) few
