-- A local step at one process: what stays of how a worker's fields go together, and what the step does to the part.
use Rattle.std.proofs.Common.{◌≡◌, ℕ, Bool, nat_eq, zero, suc, ◌+◌, ◌-◌, ◌*◌, ◌/◌, ◌%◌, ◌<◌, ◌≤◌, inl, inr, List, [], ◌∷◌, ◌++◌, append-nil, map, length, refl, sym, ◌∙◌, ap, subst, arith, Option, Some, None, Result, Ok, Err, IfOk, IfErr, if◌then◌else◌, slice_get, slice_set, slice_index_or}
use Rattle.std.proofs.Math.ListN.{length-set}
use Rattle.std.proofs.Math.Nat.{div-add-mod}
use Rattle.std.proofs.lemmas.Bool.{eq-eqb}
use Rattle.std.proofs.lemmas.Bool.Decides.{eqb_tells}
use Rattle.std.proofs.lemmas.List.{length-map}
use Rattle.std.proofs.lemmas.Option.{slice_get_past}
use Rattle.vt_key.specs.declared.limits.TheConstants.{MAX_COUNT}
use Rattle.vt_key.specs.declared.letter.Letter.{Letter}
use Rattle.vt_key.specs.declared.letter.Mail.{Mail}
use Rattle.vt_model.specs.declared.settings.Config.{Config}
use Rattle.vt_model.specs.promise.Handler.{Handlers}
use Rattle.vt_model.specs.promise.Simulation.{Simulation, simulation_of}
use Rattle.vt_steps.specs.promise.Letters.{Counts}
use Rattle.vt_steps.specs.promise.World.{LogicalProcess, Part, process_at}
use Rattle.vt_steps.specs.promise.ProcessSteps.{ProcessEffect, execute_process}
use Rattle.vt_steps.specs.promise.PartSteps.{at_process}
use Rattle.vt_steps.specs.inside.StandsFor.{ProcessMemory, StandForProcesses}
use Rattle.vt_lp.specs.inside.Held.{HeldProcess, process_memory, AllWithinRun, StandsFor as ProcessStandsFor}
use Rattle.vt_lp.specs.inside.Guards.{IsDone as ProcessIsDone}
use Rattle.vt_steps.proofs.lists.Indices.{get-put_other}
use Rattle.vt_kernel.proofs.Written.{put-there}
use Rattle.vt_outbox.specs.inside.Outbox.{HeldOutbox}
use Rattle.vt_kernel.specs.inside.Held.{HeldWorker, IsWorkerInside, StandsFor, AreProcesses, process_of}
use Rattle.vt_kernel.specs.inside.Guards.{IsDone}
use Rattle.vt_kernel.specs.declared.kernel.Kernel.TheInside.{Inside}
use Rattle.vt_kernel.proofs.ProcessLemmas.{process-at, processes-changed, index-known, index-unknown}
use Rattle.vt_kernel.proofs.OwnSteps.{at_own, not-own, no-process, found, done-at, refused-at, IsFound}

-- what a contract sees of a worker with this inside
abbrev pub view_of : {M S P K : Type 0} → Inside M S P K → HeldWorker S P K
view_of i = record {
  worker = i.worker;
  config = i.config;
  processes = i.processes.items;
  outbox = i.outbox.letters;
  arrived = i.arrived.items;
  colour = i.colour;
  sent = i.sent;
  got = i.got;
  red_minimum = i.red_minimum;
  floor = i.floor;
  serial = i.serial;
}

-- what an index finds is there
pub index-get : {X : Type 0} (xs : List X) (i : ℕ) (x : X) → i < length xs → slice_index_or xs i x ≡ x → slice_get xs i ≡ Some x
index-get [] i x within is = absurd (omega arith)
index-get (y ∷ ys) zero x within is = ap Some is
index-get (y ∷ ys) (suc i) x within is = index-get ys i x (omega arith) is

-- this is the index of a process of this number, which is one of the worker's
abbrev pub IsOwnIndex : Config → ℕ → ℕ → ℕ → Type 0
IsOwnIndex config w p index = (index ≡ p / config.workers) × (p % config.workers ≡ w) × (p < config.lps)

module _ {S P K : Type 0} {config : Config} {w : ℕ} {processes : List (HeldProcess S P K)} {outbox : HeldOutbox P} {arrived : List (Mail P)} {sent got : Counts} {serial : ℕ}
    (h : IsWorkerInside config w processes outbox arrived sent got serial) where
  -- the index of one of the worker's processes is within
  pub index-within : {p index : ℕ} → IsOwnIndex config w p index → index < length processes
  index-within {p} own =
      let some : 1 ≤ config.workers = (let few = h.known in omega (arith, few)) in
      let known = index-known config.lps config.workers w p some own.2 own.1 in
      let all = h.all_there in
      let is = own.0 in
      omega (arith, known, all, is)

  -- a process that has changed, with what was made by it
  pub inside-changed : (index : ℕ) {q : HeldProcess S P K} (new : HeldProcess S P K) {letters : HeldOutbox P} {next : ℕ}
      → slice_get processes index ≡ Some q → (new.lp ≡ q.lp) × (new.config ≡ q.config)
      → AllWithinRun config letters.letters → letters.config ≡ config → next ≤ MAX_COUNT
      → IsWorkerInside config w (slice_set processes index new) letters arrived sent got next
  inside-changed index {q} new at same within by few =
      let who = process-at config w 0 index processes q h.own_processes at in
      record {
        known = h.known;
        all_there = length-set processes index new ∙ h.all_there;
        own_processes = processes-changed config w 0 index processes new h.own_processes (same.0 ∙ who.0) (same.1 ∙ who.1);
        sendable = within;
        by_worker = by;
        own_mail = h.own_mail;
        few_sent = h.few_sent;
        few_got = h.few_got;
        few_made = few;
      }

-- as many processes stand for as there are
stand-length : {S P : Type 0} (sim : Simulation S P) (w base : ℕ) (memories : List (ProcessMemory S P)) (processes : List (LogicalProcess P)) → StandForProcesses sim w base memories processes
    → length processes ≡ length memories
stand-length sim w base [] [] h = refl
stand-length sim w base [] (q ∷ qs) h = absurd h
stand-length sim w base (m ∷ ms) [] h = absurd h
stand-length sim w base (m ∷ ms) (q ∷ qs) h = (let rest = stand-length sim w (base + 1) ms qs h.1 in omega (arith, rest))

-- a step that takes no serial leaves any serial
pub no-serial : {S P K : Type 0} (handlers : Handlers S P K) (new : HeldProcess S P K) (step : Option (ProcessEffect P)) (outbox new_outbox : List (Letter P)) (serial : ℕ)
    → ProcessIsDone handlers new step outbox new_outbox 0 0 → ProcessIsDone handlers new step outbox new_outbox serial serial
no-serial handlers new step outbox new_outbox serial done = record {
  effect = done.effect;
  lawful = done.lawful;
  stands = done.stands;
  letters = done.letters;
  serials = (let none = done.serials in omega (arith, none));
}

-- a step that sends nothing and takes no serial leaves the outbox and the serial
pub plain-done : {S P K : Type 0} (handlers : Handlers S P K) (new : HeldProcess S P K) (step : Option (ProcessEffect P)) (outbox : List (Letter P)) (serial : ℕ)
    → ProcessIsDone handlers new step [] [] 0 0 → ProcessIsDone handlers new step outbox outbox serial serial
plain-done handlers new step outbox serial done = no-serial handlers new step outbox outbox serial (record {
  effect = done.effect;
  lawful = done.lawful;
  stands = done.stands;
  letters = sym (append-nil outbox) ∙ ap (λ ls. outbox ++ ls) done.letters;
  serials = done.serials;
})

-- a process past the last one would have its index behind the worker's processes
index-beyond : {S P K : Type 0} (held : HeldWorker S P K) (p : ℕ) → 1 ≤ held.config.workers → length held.processes ≡ (held.config.lps + (held.config.workers - 1) - held.worker) / held.config.workers
    → held.config.lps ≤ p → p % held.config.workers ≡ held.worker → length held.processes ≤ p / held.config.workers
index-beyond held p some all past own =
    let beyond : (p / held.config.workers < length held.processes → ⊥) =
    λ less. index-unknown held.config.lps held.config.workers held.worker p some past own (subst (λ n. p / held.config.workers < n) all less) in
    omega (arith, beyond)

-- what is none of the worker's processes isn't there
pub unknown-none : {S P K : Type 0} (held : HeldWorker S P K) (p : ℕ) → 1 ≤ held.config.workers → length held.processes ≡ (held.config.lps + (held.config.workers - 1) - held.worker) / held.config.workers
    → (p % held.config.workers ≡ held.worker → held.config.lps ≤ p) → process_of held p ≡ None
unknown-none held p some all past =
    elim (eqb_tells (p % held.config.workers) held.worker) [
      | inl e ↦
          ap (λ (b : Bool). if b then slice_get held.processes (p / held.config.workers) else None) e.0
          ∙ slice_get_past held.processes (p / held.config.workers) (index-beyond held p some all (past e.1) e.1)
      | inr e ↦ ap (λ (b : Bool). if b then slice_get held.processes (p / held.config.workers) else None) e.0
    ]

module _ {S P K : Type 0} (handlers : Handlers S P K) (held : HeldWorker S P K) (are : AreProcesses held.config held.worker 0 held.processes) (part : Part P) (h : StandsFor handlers held part) where
  -- a step at an index past the worker's processes is not lawful
  pub past-refused : (p : ℕ) (step : LogicalProcess P → Option (ProcessEffect P)) → length held.processes ≤ p / held.config.workers
      → at_own (simulation_of handlers held.config) held.worker p (at_process step (p / held.config.workers) part) ≡ None
  past-refused p step past =
      let size : length part.processes ≡ length held.processes = stand-length (simulation_of handlers held.config) held.worker 0 (map (process_memory handlers) held.processes) part.processes h.processes ∙ length-map held.processes (process_memory handlers) in
      no-process (simulation_of handlers held.config) held.worker p step part (slice_get_past part.processes (p / held.config.workers) (omega (arith, size, past)))

  -- nor is one at a process that is none of the worker's
  pub unknown-refused : (p : ℕ) (step : LogicalProcess P → Option (ProcessEffect P)) → 1 ≤ held.config.workers
      → length held.processes ≡ (held.config.lps + (held.config.workers - 1) - held.worker) / held.config.workers → (p % held.config.workers ≡ held.worker → held.config.lps ≤ p)
      → at_own (simulation_of handlers held.config) held.worker p (at_process step (p / held.config.workers) part) ≡ None
  unknown-refused p step some all past =
      elim (eqb_tells (p % held.config.workers) held.worker) [
        | inl e ↦ past-refused p step (index-beyond held p some all (past e.1) e.1)
        | inr e ↦ not-own (simulation_of handlers held.config) held.worker p (at_process step (p / held.config.workers) part) e.1
      ]

  -- the process at its index, in memory and in the part
  pub found-at : {p index : ℕ} {q : HeldProcess S P K} → IsOwnIndex held.config held.worker p index → slice_get held.processes index ≡ Some q → IsFound handlers held part p q
  found-at {p} {index} {q} own at = found handlers held part p q h are own.1 (subst (λ k. slice_get held.processes k ≡ Some q) own.0 at)

  -- what is done at the process that was found is done at the worker
  pub at-found-done : {p index : ℕ} {q : HeldProcess S P K} (new : HeldProcess S P K) (outbox : List (Letter P)) (serial : ℕ) (step : LogicalProcess P → Option (ProcessEffect P))
      → IsOwnIndex held.config held.worker p index → (f : IsFound handlers held part p q) → (new.lp ≡ q.lp) × (new.config ≡ q.config)
      → ProcessIsDone handlers new (step f.process) held.outbox outbox held.serial serial
      → IsDone handlers (record held { processes = slice_set held.processes index new; outbox = outbox; serial = serial })
      (at_own (simulation_of handlers held.config) held.worker p (at_process step (p / held.config.workers) part))
  at-found-done {p} {index} {q} new outbox serial step own f same done =
      subst (λ k. IsDone handlers (record held { processes = slice_set held.processes k new; outbox = outbox; serial = serial }) (at_own (simulation_of handlers held.config) held.worker p (at_process step (p / held.config.workers) part)))
      (sym own.0) (done-at handlers held part p q new outbox serial step h own.1 f same.0 same.1 done)

  -- what is done at a process, with no serial and nothing sent, is done at the worker
  pub changed-done : {p index : ℕ} {q : HeldProcess S P K} (new : HeldProcess S P K) (step : LogicalProcess P → Option (ProcessEffect P))
      → IsOwnIndex held.config held.worker p index → slice_get held.processes index ≡ Some q → (new.lp ≡ q.lp) × (new.config ≡ q.config)
      → ((process : LogicalProcess P) → ProcessStandsFor handlers q process → ProcessIsDone handlers new (step process) [] [] 0 0)
      → IsDone handlers (record held { processes = slice_set held.processes index new })
      (at_own (simulation_of handlers held.config) held.worker p (at_process step (p / held.config.workers) part))
  changed-done new step own at same done =
      let f = found-at own at in
      at-found-done new held.outbox held.serial step own f same (plain-done handlers new (step f.process) held.outbox held.serial (done f.process f.stands))

  -- what is not lawful at a process is not at the worker
  pub changed-refused : {p index : ℕ} {q : HeldProcess S P K} (step : LogicalProcess P → Option (ProcessEffect P))
      → IsOwnIndex held.config held.worker p index → slice_get held.processes index ≡ Some q
      → ((process : LogicalProcess P) → ProcessStandsFor handlers q process → step process ≡ None)
      → at_own (simulation_of handlers held.config) held.worker p (at_process step (p / held.config.workers) part) ≡ None
  changed-refused {p} {index} {q} step own at none =
      let f = found-at own at in
      refused-at handlers held part p q step own.1 f (none f.process f.stands)

-- a process that was written as it was leaves them all
pub written-same : {X : Type 0} (xs : List X) (i : ℕ) (old new : X) → slice_get xs i ≡ Some old → new ≡ old → slice_set xs i new ≡ xs
written-same xs i old new there same = ap (λ x. slice_set xs i x) same ∙ put-there xs i old there

-- the process that was found is that of its number
pub own-process : {S P K : Type 0} (held : HeldWorker S P K) {p index : ℕ} {q : HeldProcess S P K} → IsOwnIndex held.config held.worker p index → slice_get held.processes index ≡ Some q → process_of held p ≡ Some q
own-process held {p} own there =
    ap (λ (b : Bool). if b then slice_get held.processes (p / held.config.workers) else None) (eq-eqb (p % held.config.workers) held.worker own.1)
    ∙ ap (λ k. slice_get held.processes k) (sym own.0) ∙ there

-- two numbers with one remainder and one quotient are one
one-number : (k p q : ℕ) → p % k ≡ q % k → p / k ≡ q / k → p ≡ q
one-number k p q rest times = sym (div-add-mod p k) ∙ (λ j. k * times j + rest j) ∙ div-add-mod q k

-- a write at the index of one process leaves the process of each other number
pub other-process : {S P K : Type 0} (held : HeldWorker S P K) {lp index : ℕ} (new : HeldProcess S P K) (letters : List (Letter P)) (serial p : ℕ) → IsOwnIndex held.config held.worker lp index → (p ≡ lp → ⊥)
    → process_of (record held { processes = slice_set held.processes index new; outbox = letters; serial = serial }) p ≡ process_of held p
other-process held {lp} {index} new letters serial p own apart =
    elim (eqb_tells (p % held.config.workers) held.worker) [
      | inl e ↦
          ap (λ (o : Option (HeldProcess _ _ _)). if nat_eq (p % held.config.workers) held.worker then o else None)
          (get-put_other held.processes index (p / held.config.workers) new (λ same. apart (one-number held.config.workers p lp (e.1 ∙ sym own.1) (same ∙ own.0))))
      | inr e ↦
          ap (λ (b : Bool). if b then slice_get (slice_set held.processes index new) (p / held.config.workers) else None) e.0
          ∙ ap (λ (b : Bool). if b then slice_get held.processes (p / held.config.workers) else None) (sym e.0)
    ]

-- ---- results

-- what holds after either answer
pub either-way : {A E : Type 0} {Q : A → Type 0} {R : E → Type 0} {T : Type 0} (result : Result A E) → ((a : A) → Q a → T) → ((e : E) → R e → T) → IfOk result Q → IfErr result R → T
either-way (Ok a) done refused h k = done a h
either-way (Err e) done refused h k = refused e k

pub both-errors : {A E : Type 0} {Q R T : E → Type 0} (result : Result A E) → ((e : E) → Q e → R e → T e) → IfErr result Q → IfErr result R → IfErr result T
both-errors (Ok a) more h k = h
both-errors (Err e) more h k = more e h k

-- Execute at a process, as the worker's step has it
abbrev pub execute-step : {S P K : Type 0} → Handlers S P K → HeldWorker S P K → Part P → ℕ → LogicalProcess P → Option (ProcessEffect P)
execute-step handlers held part p process =
    execute_process (simulation_of handlers held.config) (process_at (simulation_of handlers held.config) held.worker (p / held.config.workers)) held.worker part.serial process
