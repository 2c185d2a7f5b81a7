-- Undo and Cancel at one process, again and again, as local steps of the part.
use Rattle.std.proofs.Common.{◌≡◌, ℕ, ◌+◌, ◌/◌, ◌%◌, ◌^◌, ◌⊎◌, inl, inr, Bool, true, false, List, [], ◌∷◌, ◌++◌, length, refl, sym, ◌∙◌, ap, subst, arith, Option, Some, None, Result, Ok, Err, IfOk, IfErr, slice_get}
use Rattle.std.specs.Option.{option_and_then, option_map}
use Rattle.std.specs.Result.{is_ok}
use Rattle.std.proofs.lemmas.List.{append_assoc, append-nil, length-append, set-set}
use Rattle.std.proofs.lemmas.List.Elements.{filter-append}
use Rattle.std.proofs.Math.Nat.{mod-add-mod}
use Rattle.std.specs.List.{filter}
use Rattle.vt_key.specs.declared.order.Stamp.{Stamp}
use Rattle.vt_key.specs.declared.letter.Letter.{Letter}
use Rattle.vt_model.specs.promise.Handler.{Handlers}
use Rattle.vt_model.specs.promise.Simulation.{Simulation}
use Rattle.vt_steps.specs.declared.step.Step.{Step}
use Rattle.vt_steps.specs.declared.step.Step.TheVariants.{Undo, Cancel}
use Rattle.vt_steps.specs.promise.World.{LogicalProcess, Part}
use Rattle.vt_steps.specs.promise.ProcessSteps.{ProcessEffect, undo_process, cancel_process, can_annihilate}
use Rattle.vt_steps.specs.promise.PartSteps.{with_effect}
use Rattle.vt_steps.specs.inside.Cells.{local_step, local_steps}
use Rattle.vt_steps.proofs.lists.Indices.{get-put_same}
use Rattle.vt_kernel.proofs.Written.{put-there}
use Rattle.vt_kernel.specs.inside.Local.{AreSettling, IsSettled, is_undo, count_undos}
use Rattle.vt_lp.specs.inside.Held.{HeldProcess, StandsFor as ProcessStandsFor}
use Rattle.vt_lp.specs.inside.Guards.{IsDone as ProcessIsDone}
use Rattle.vt_kernel.specs.inside.Settled.{and_then, nothing_done, LedTo, not_moved, undone, cancelled, IsLed, IsSettledTo}
use Rattle.vt_kernel.proofs.OwnSteps.{own-step}

-- one settling step more
pub settling-more : (p : ℕ) (steps : List Step) (step : Step) → AreSettling p steps → ((step ≡ Undo p) ⊎ ((stamp : Stamp) × (step ≡ Cancel p stamp))) → AreSettling p (steps ++ step ∷ [])
settling-more p [] step h k = (k, tt)
settling-more p (first ∷ rest) step h k = (h.0, settling-more p rest step h.1 k)

-- the undos of these steps and of those, together
pub undos-both : (steps more : List Step) → count_undos (steps ++ more) ≡ count_undos steps + count_undos more
undos-both steps more = ap length (filter-append is_undo steps more) ∙ length-append (filter is_undo steps) (filter is_undo more)

-- one undo more, counted modulo 2^64
pub counted-more : (steps : List Step) (p count next : ℕ) → count ≡ count_undos steps % 2 ^ 64 → next ≡ (count + 1) % 2 ^ 64 → next ≡ count_undos (steps ++ Undo p ∷ []) % 2 ^ 64
counted-more steps p count next is one =
    one ∙ ap (λ n. (n + 1) % 2 ^ 64) is ∙ mod-add-mod (count_undos steps) (2 ^ 64) 1 ∙ ap (λ n. n % 2 ^ 64) (sym (undos-both steps (Undo p ∷ [])))

-- a cancel isn't counted
pub counted-as-before : (steps : List Step) (p : ℕ) (stamp : Stamp) (count : ℕ) → count ≡ count_undos steps % 2 ^ 64 → count ≡ count_undos (steps ++ Cancel p stamp ∷ []) % 2 ^ 64
counted-as-before steps p stamp count is =
    is ∙ ap (λ n. n % 2 ^ 64) ((let h = undos-both steps (Cancel p stamp ∷ []) in let none : count_undos (Cancel p stamp ∷ []) ≡ 0 = refl in omega (arith, h, none)))

module _ {P : Type 0} where
  -- the part after two effects at an index
  pub with-both : (part : Part P) (index : ℕ) (first second : ProcessEffect P)
      → with_effect (with_effect part index first) index second ≡ with_effect part index (and_then first second)
  with-both part index first second = λ j. record part {
    processes = set-set part.processes index first.process second.process j;
    outbox = append_assoc part.outbox first.letters second.letters j;
    serial = (let same : (part.serial + first.serials) + second.serials ≡ part.serial + (first.serials + second.serials) = omega arith in same) j;
  }

module _ {S P : Type 0} (sim : Simulation S P) (w : ℕ) where
  -- a list of steps and then one more
  pub steps-more : (steps : List Step) (step : Step) (part mid : Part P) → local_steps sim w steps part ≡ Some mid
      → local_steps sim w (steps ++ step ∷ []) part ≡ local_step sim w step mid
  steps-more [] step part mid led =
      let same : part ≡ mid = (let h : Some part ≡ Some mid = led in cc) in
      and-then-some (local_step sim w step part) ∙ ap (local_step sim w step) same
    where
      and-then-some : (next : Option (Part P)) → option_and_then (local_steps sim w []) next ≡ next
      and-then-some None = refl
      and-then-some (Some x) = refl
  steps-more (first ∷ rest) step part mid led = go (λ x h. steps-more rest step x mid h) (local_step sim w first part) led
    where
      go : ((x : Part P) → local_steps sim w rest x ≡ Some mid → local_steps sim w (rest ++ step ∷ []) x ≡ local_step sim w step mid) →
          (next : Option (Part P)) → option_and_then (local_steps sim w rest) next ≡ Some mid → option_and_then (local_steps sim w (rest ++ step ∷ [])) next ≡ local_step sim w step mid
      go more None h = absurd (let k : None ≡ Some mid = h in cc)
      go more (Some x) h = more x h

  -- nothing done at a process leaves its part
  pub not-moved : (part : Part P) (index : ℕ) (process : LogicalProcess P) → slice_get part.processes index ≡ Some process
      → part ≡ with_effect part index (nothing_done process)
  not-moved part index process there = λ j. record part {
    processes = sym (put-there part.processes index process there) j;
    outbox = sym (append-nil part.outbox) j;
    serial = (let same : part.serial ≡ part.serial + 0 = omega arith in same) j;
  }

  -- steps that lead a process lead its part
  pub led-at : (p : ℕ) (process : LogicalProcess P) (steps : List Step) (effect : ProcessEffect P) (part : Part P) → LedTo p process steps effect
      → p % sim.workers ≡ w → slice_get part.processes (p / sim.workers) ≡ Some process
      → local_steps sim w steps part ≡ Some (with_effect part (p / sim.workers) effect)
  led-at p process _ _ part not_moved own there = ap Some (not-moved part (p / sim.workers) process there)
  led-at p process _ _ part (undone steps so_far effect led lawful) own there =
      let index = p / sim.workers in
      let mid = with_effect part index so_far in
      let before = led-at p process steps so_far part led own there in
      let here : slice_get mid.processes index ≡ Some so_far.process = get-put_same part.processes index process so_far.process there in
      steps-more steps (Undo p) part mid before
      ∙ own-step sim w p undo_process mid so_far.process own here
      ∙ ap (option_map (with_effect mid index)) lawful
      ∙ ap Some (with-both part index so_far effect)
  led-at p process _ _ part (cancelled stamp steps so_far effect led lawful) own there =
      let index = p / sim.workers in
      let mid = with_effect part index so_far in
      let before = led-at p process steps so_far part led own there in
      let here : slice_get mid.processes index ≡ Some so_far.process = get-put_same part.processes index process so_far.process there in
      steps-more steps (Cancel p stamp) part mid before
      ∙ own-step sim w p (cancel_process stamp) mid so_far.process own here
      ∙ ap (option_map (with_effect mid index)) lawful
      ∙ ap Some (with-both part index so_far effect)

  -- they are steps Undo and Cancel
  pub are-settling : (p : ℕ) (process : LogicalProcess P) (steps : List Step) (effect : ProcessEffect P) → LedTo p process steps effect → AreSettling p steps
  are-settling p process _ _ not_moved = tt
  are-settling p process _ _ (undone steps so_far effect led lawful) = settling-more p steps (Undo p) (are-settling p process steps so_far led) (inl refl)
  are-settling p process _ _ (cancelled stamp steps so_far effect led lawful) = settling-more p steps (Cancel p stamp) (are-settling p process steps so_far led) (inr (stamp, refl))

  -- a part is settled where its process is
  pub settled-at : (p : ℕ) (part : Part P) (process : LogicalProcess P) → p % sim.workers ≡ w → slice_get part.processes (p / sim.workers) ≡ Some process
      → undo_process process ≡ None → ((stamp : Stamp) → cancel_process stamp process ≡ None) → IsSettled sim w p part
  settled-at p part process own there no_undo no_cancel = record {
    no_undo = own-step sim w p undo_process part process own there ∙ ap (option_map (with_effect part (p / sim.workers))) no_undo;
    no_cancel = λ stamp. own-step sim w p (cancel_process stamp) part process own there ∙ ap (option_map (with_effect part (p / sim.workers))) (no_cancel stamp);
  }

-- ---- a process that is being settled

-- letters that do not annihilate each other are not cancelled
pub cannot-cancel : {P : Type 0} (stamp : Stamp) (process : LogicalProcess P) → can_annihilate stamp process.pending process.waiting ≡ false → cancel_process stamp process ≡ None
unfolding cancel_process
cannot-cancel stamp process not_opposite = rw not_opposite refl

module _ {S P K : Type 0} (handlers : Handlers S P K) where
  -- nothing is done yet
  pub led-start : (process : LogicalProcess P) (q : HeldProcess S P K) (outbox : List (Letter P)) → ProcessStandsFor handlers q process → IsLed handlers process q outbox outbox 0
  led-start process q outbox stands = record {
    steps = [];
    effect = nothing_done process;
    led = not_moved;
    stands = stands;
    letters = sym (append-nil outbox);
    serials = refl;
    counted = refl;
  }

  -- one undo more
  pub led-undone : (process : LogicalProcess P) (q new : HeldProcess S P K) (outbox now new_outbox : List (Letter P)) (count next : ℕ) (so_far : IsLed handlers process q outbox now count)
      → new.lp ≡ q.lp → next ≡ (count + 1) % 2 ^ 64 → ProcessIsDone handlers new (undo_process so_far.effect.process) now new_outbox 0 0 → IsLed handlers process new outbox new_outbox next
  led-undone process q new outbox now new_outbox count next so_far same one done = record {
    counted = counted-more so_far.steps new.lp count next so_far.counted one;
    steps = so_far.steps ++ Undo new.lp ∷ [];
    effect = and_then so_far.effect done.effect;
    led = undone so_far.steps so_far.effect done.effect (subst (λ p. LedTo p process so_far.steps so_far.effect) (sym same) so_far.led) done.lawful;
    stands = done.stands;
    letters = done.letters ∙ ap (λ ls. ls ++ done.effect.letters) so_far.letters ∙ append_assoc outbox so_far.effect.letters done.effect.letters;
    serials = (let a = so_far.serials in let b = done.serials in omega (arith, a, b));
  }

  -- one cancel more
  pub led-cancelled : (stamp : Stamp) (process : LogicalProcess P) (q new : HeldProcess S P K) (outbox now : List (Letter P)) (count : ℕ) (so_far : IsLed handlers process q outbox now count)
      → new.lp ≡ q.lp → ProcessIsDone handlers new (cancel_process stamp so_far.effect.process) [] [] 0 0 → IsLed handlers process new outbox now count
  led-cancelled stamp process q new outbox now count so_far same done = record {
    counted = counted-as-before so_far.steps new.lp stamp count so_far.counted;
    steps = so_far.steps ++ Cancel new.lp stamp ∷ [];
    effect = and_then so_far.effect done.effect;
    led = cancelled stamp so_far.steps so_far.effect done.effect (subst (λ p. LedTo p process so_far.steps so_far.effect) (sym same) so_far.led) done.lawful;
    stands = done.stands;
    letters = so_far.letters ∙ ap (λ ls. outbox ++ ls) (sym (append-nil so_far.effect.letters) ∙ ap (λ ls. so_far.effect.letters ++ ls) done.letters);
    serials = (let a = so_far.serials in let b = done.serials in omega (arith, a, b));
  }

  -- a process that stays as it is
  pub led-same : (process : LogicalProcess P) (q new : HeldProcess S P K) (outbox now new_outbox : List (Letter P)) (count : ℕ) → IsLed handlers process q outbox now count
      → new ≡ q → new_outbox ≡ now → IsLed handlers process new outbox new_outbox count
  led-same process q new outbox now new_outbox count so_far same_q same_outbox =
      subst (λ ls. IsLed handlers process new outbox ls count) (sym same_outbox) (subst (λ x. IsLed handlers process x outbox now count) (sym same_q) so_far)

  -- neither is lawful any more
  pub settled-now : (process : LogicalProcess P) (q new : HeldProcess S P K) (outbox now new_outbox : List (Letter P)) (count : ℕ) (so_far : IsLed handlers process q outbox now count)
      → new ≡ q → new_outbox ≡ now → undo_process so_far.effect.process ≡ None → ((stamp : Stamp) → can_annihilate stamp new.pending new.waiting ≡ false)
      → IsSettledTo handlers process new outbox new_outbox count
  settled-now process q new outbox now new_outbox count so_far same_q same_outbox no_undo apart =
      let here : IsSettledTo handlers process q outbox now count = record {
        led = so_far;
        no_undo = no_undo;
        no_cancel = λ stamp. cannot-cancel stamp so_far.effect.process
            ((λ j. can_annihilate stamp (so_far.stands.pending j) (so_far.stands.waiting j))
            ∙ ap (λ (x : HeldProcess S P K). can_annihilate stamp x.pending x.waiting) (sym same_q) ∙ apart stamp);
      } in
      subst (λ ls. IsSettledTo handlers process new outbox ls count) (sym same_outbox) (subst (λ x. IsSettledTo handlers process x outbox now count) (sym same_q) here)

-- ---- results that are known

pub in-ok : {A E : Type 0} {Q : Type 0} (result : Result A E) → is_ok result ≡ true → IfOk result (λ _. Q) → Q
in-ok (Ok a) ok h = h
in-ok (Err e) ok h = absurd (let k : false ≡ true = ok in cc)

pub in-err : {A E : Type 0} {Q : Type 0} (result : Result A E) → is_ok result ≡ false → IfErr result (λ _. Q) → Q
in-err (Ok a) ok h = absurd (let k : true ≡ false = ok in cc)
in-err (Err e) ok h = h

-- what is refused only where a test fails is done where it holds
pub cannot-err : {A E : Type 0} (result : Result A E) (test : Bool) → IfErr result (λ _. test ≡ false) → test ≡ true → is_ok result ≡ true
cannot-err (Ok a) test h holds = refl
cannot-err (Err e) test h holds = absurd (let k : test ≡ false = h in cc)
