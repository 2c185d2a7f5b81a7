-- A step at one process of a worker as a step of the worker's part.
use Rattle.std.proofs.Common.{◌≡◌, ℕ, ◌+◌, ◌*◌, ◌/◌, ◌%◌, ◌<◌, ◌≤◌, inl, inr, Bool, List, map, sym, ◌∙◌, ap, subst, arith, Option, Some, None, slice_get, slice_set, if◌then◌else◌}
use Rattle.std.specs.Option.{IsSomeAnd, option_and_then, option_map}
use Rattle.std.proofs.lemmas.Bool.Decides.{eqb_tells}
use Rattle.std.proofs.Math.Nat.{div-add-mod'}
use Rattle.vt_key.specs.declared.letter.Letter.{Letter}
use Rattle.vt_key.specs.declared.fault.Fault.{Fault}
use Rattle.vt_key.specs.declared.limits.TheConstants.{MAX_COUNT}
use Rattle.vt_model.specs.declared.settings.Config.{Config}
use Rattle.vt_model.specs.promise.Handler.{Handlers}
use Rattle.vt_model.specs.promise.Simulation.{Simulation, Triple, simulation_of}
use Rattle.vt_steps.specs.promise.World.{LogicalProcess, Part, process_at}
use Rattle.vt_steps.specs.promise.ProcessSteps.{ProcessEffect, execute_process}
use Rattle.vt_steps.specs.promise.PartSteps.{with_effect, at_process, execute}
use Rattle.vt_steps.specs.declared.step.Step.TheVariants.{Execute}
use Rattle.vt_steps.specs.inside.StandsFor.{StandsForProcess}
use Rattle.vt_steps.specs.inside.Cells.{if_own, local_step}
use Rattle.vt_steps.proofs.lists.Indices.{get-put_same}
use Rattle.vt_steps.proofs.steps.MemoryLemmas.{is_where}
use Rattle.vt_lp.specs.inside.Held.{HeldProcess, process_memory, StandsFor as ProcessStandsFor}
use Rattle.vt_lp.specs.promise.Guards.{number_of}
use Rattle.vt_lp.specs.inside.Guards.{IsDone as ProcessIsDone, IsExecuteRefusal as ProcessIsExecuteRefusal}
use Rattle.vt_kernel.specs.inside.Held.{HeldWorker, StandsFor, AreProcesses}
use Rattle.vt_kernel.specs.inside.Guards.{IsDone, IsExecuteRefusal}
use Rattle.vt_kernel.specs.promise.Refusals.{PassesIn}
use Rattle.vt_kernel.proofs.ProcessLemmas.{get-map_of, stands-at, process-at, stands-after}

module _ {S P : Type 0} (sim : Simulation S P) (w : ℕ) where
  -- a step at process p, where it is one of worker w
  abbrev pub at_own : ℕ → Option (Part P) → Option (Part P)
  at_own p step = if_own sim w (Some (p % sim.workers)) step

  -- a step of another worker's process is not lawful
  pub not-own : (p : ℕ) (step : Option (Part P)) → (p % sim.workers ≡ w → ⊥) → at_own p step ≡ None
  not-own p step apart = elim (eqb_tells (p % sim.workers) w) [ inl e ↦ absurd (apart e.1) | inr e ↦ ap (λ (b : Bool). if b then step else None) e.0 ]

  pub own : (p : ℕ) (step : Option (Part P)) → p % sim.workers ≡ w → at_own p step ≡ step
  own p step is = elim (eqb_tells (p % sim.workers) w) [ inl e ↦ ap (λ (b : Bool). if b then step else None) e.0 | inr e ↦ absurd (e.1 is) ]

  -- Execute of the worker, by the worker's number
  pub own-execute : (p : ℕ) (part : Part P) → local_step sim w (Execute p) part ≡ at_own p (execute sim w (p / sim.workers) part)
  own-execute p part =
      elim (eqb_tells (p % sim.workers) w) [
        | inl e ↦ ap (λ v. at_own p (execute sim v (p / sim.workers) part)) e.1
        | inr e ↦ not-own p (execute sim (p % sim.workers) (p / sim.workers) part) e.1 ∙ sym (not-own p (execute sim w (p / sim.workers) part) e.1)
      ]

  -- a step at a process that is not there is not lawful
  pub no-process : (p : ℕ) (step : LogicalProcess P → Option (ProcessEffect P)) (part : Part P) → slice_get part.processes (p / sim.workers) ≡ None
      → at_own p (at_process step (p / sim.workers) part) ≡ None
  no-process p step part gone =
      let none = ap (λ q. option_map (with_effect part (p / sim.workers)) (option_and_then step q)) gone in
      elim (eqb_tells (p % sim.workers) w) [ inl e ↦ ap (λ (b : Bool). if b then at_process step (p / sim.workers) part else None) e.0 ∙ none | inr e ↦ ap (λ (b : Bool). if b then at_process step (p / sim.workers) part else None) e.0 ]

  -- a step at a process that is there is what it is at the process
  pub own-step : (p : ℕ) (step : LogicalProcess P → Option (ProcessEffect P)) (part : Part P) (process : LogicalProcess P) → p % sim.workers ≡ w
      → slice_get part.processes (p / sim.workers) ≡ Some process
      → at_own p (at_process step (p / sim.workers) part) ≡ option_map (with_effect part (p / sim.workers)) (step process)
  own-step p step part process is there =
      own p (at_process step (p / sim.workers) part) is ∙ ap (λ q. option_map (with_effect part (p / sim.workers)) (option_and_then step q)) there

module _ {S P K : Type 0} (handlers : Handlers S P K) where
  -- the process at the index of p, in memory and in the part
  pub record IsFound (held : HeldWorker S P K) (part : Part P) (p : ℕ) (q : HeldProcess S P K) : Type 0 where
    pub process : LogicalProcess P
    pub there : slice_get part.processes (p / held.config.workers) ≡ Some process
    pub stands : ProcessStandsFor handlers q process
    pub lp : q.lp ≡ p
    pub config : q.config ≡ held.config

  pub found : (held : HeldWorker S P K) (part : Part P) (p : ℕ) (q : HeldProcess S P K)
      → StandsFor handlers held part → AreProcesses held.config held.worker 0 held.processes → p % held.config.workers ≡ held.worker
      → slice_get held.processes (p / held.config.workers) ≡ Some q → IsFound held part p q
  found held part p q h are own at =
      let index = p / held.config.workers in
      let sim = simulation_of handlers held.config in
      let here = stands-at sim held.worker 0 index (map (process_memory handlers) held.processes) part.processes (process_memory handlers q) h.processes (get-map_of (process_memory handlers) held.processes index q at) in
      let who = process-at held.config held.worker 0 index held.processes q are at in
      let plain : 0 + index ≡ index = omega arith in
      let number : process_at sim held.worker (0 + index) ≡ p = ap (λ k. k * held.config.workers + held.worker) plain ∙ ap (λ r. index * held.config.workers + r) (sym own) ∙ div-add-mod' p held.config.workers in
      let lp : q.lp ≡ p = who.0 ∙ number in
      let stands : StandsForProcess sim q.lp (process_memory handlers q) here.0 = subst (λ k. StandsForProcess sim k (process_memory handlers q) here.0) (sym who.0) here.2 in
      record {
        process = here.0;
        there = here.1;
        stands = subst (λ (c : Config). StandsForProcess (simulation_of handlers c) q.lp (process_memory handlers q) here.0) (sym who.1) stands;
        lp = lp;
        config = who.1;
      }

  -- the counters of a part, by those of the worker that stands for it
  pub within-limits : (held : HeldWorker S P K) (part : Part P) (p : ℕ) (q : HeldProcess S P K) → StandsFor handlers held part → IsFound held part p q
      → q.triple.number ≤ MAX_COUNT → held.serial ≤ MAX_COUNT → PassesIn (simulation_of handlers held.config) (Execute p) part 0 → ⊥
  within-limits held part p q h at few_sends few_made (inl over) = let serial = h.serial in omega (arith, over, serial, few_made)
  within-limits held part p q h at few_sends few_made (inr over) =
      let sim = simulation_of handlers held.config in
      let is : number_of (simulation_of handlers q.config) q.lp at.process ≡ q.triple.number =
      ap (λ (t : Triple S). t.number) (is_where (simulation_of handlers q.config) q.lp (process_memory handlers q) at.process at.stands) in
      let of : number_of (simulation_of handlers q.config) q.lp at.process ≡ number_of sim p at.process =
      ap (λ (c : Config). number_of (simulation_of handlers c) q.lp at.process) at.config ∙ ap (λ k. number_of sim k at.process) at.lp in
      let past : MAX_COUNT < number_of sim p at.process = subst (λ o. IsSomeAnd o (λ process. MAX_COUNT < number_of sim p process)) at.there over in
      omega (arith, past, is, of, few_sends)

  -- the worker after a step at the process of p
  abbrev pub with_process : HeldWorker S P K → ℕ → HeldProcess S P K → List (Letter P) → ℕ → HeldWorker S P K
  with_process held p q outbox serial = record held { processes = slice_set held.processes (p / held.config.workers) q; outbox = outbox; serial = serial }

  -- a step that is done at the process is done at the worker
  pub done-at : (held : HeldWorker S P K) (part : Part P) (p : ℕ) (q new : HeldProcess S P K) (outbox : List (Letter P)) (serial : ℕ)
      (step : LogicalProcess P → Option (ProcessEffect P))
      → StandsFor handlers held part → p % held.config.workers ≡ held.worker → (at : IsFound held part p q)
      → new.lp ≡ q.lp → new.config ≡ q.config
      → ProcessIsDone handlers new (step at.process) held.outbox outbox held.serial serial
      → IsDone handlers (with_process held p new outbox serial) (at_own (simulation_of handlers held.config) held.worker p (at_process step (p / held.config.workers) part))
  done-at held part p q new outbox serial step h own at same_lp same_config done =
      let sim = simulation_of handlers held.config in
      let index = p / held.config.workers in
      let number : p ≡ process_at sim held.worker index = sym (div-add-mod' p held.config.workers) ∙ ap (λ r. index * held.config.workers + r) own in
      record {
        part = with_effect part index done.effect;
        lawful = own-step sim held.worker p step part at.process own at.there ∙ ap (option_map (with_effect part index)) done.lawful;
        stands = stands-after handlers held part index new done.effect outbox serial h (same_lp ∙ at.lp ∙ number) (same_config ∙ at.config) done.stands done.letters done.serials;
      }

  -- a step that is not lawful at the process is not at the worker
  pub refused-at : (held : HeldWorker S P K) (part : Part P) (p : ℕ) (q : HeldProcess S P K) (step : LogicalProcess P → Option (ProcessEffect P))
      → p % held.config.workers ≡ held.worker → (at : IsFound held part p q) → step at.process ≡ None
      → at_own (simulation_of handlers held.config) held.worker p (at_process step (p / held.config.workers) part) ≡ None
  refused-at held part p q step own at none =
      own-step (simulation_of handlers held.config) held.worker p step part at.process own at.there ∙ ap (option_map (with_effect part (p / held.config.workers))) none

  -- the step Execute, as the process and as the worker know it
  pub same-execute : (held : HeldWorker S P K) (part : Part P) (p : ℕ) (q : HeldProcess S P K) (process : LogicalProcess P) → StandsFor handlers held part
      → p % held.config.workers ≡ held.worker → q.lp ≡ p → q.config ≡ held.config
      → execute_process (simulation_of handlers q.config) q.lp (q.lp % q.config.workers) held.serial process
      ≡ execute_process (simulation_of handlers held.config) (process_at (simulation_of handlers held.config) held.worker (p / held.config.workers)) held.worker part.serial process
  same-execute held part p q process h own lp config =
      let number : p ≡ process_at (simulation_of handlers held.config) held.worker (p / held.config.workers) = sym (div-add-mod' p held.config.workers) ∙ ap (λ r. p / held.config.workers * held.config.workers + r) own in
      let worker : q.lp % q.config.workers ≡ held.worker = ap (λ k. k % q.config.workers) lp ∙ ap (λ (c : Config). p % c.workers) config ∙ own in
      ap (λ (c : Config). execute_process (simulation_of handlers c) q.lp (q.lp % q.config.workers) held.serial process) config
      ∙ ap (λ k. execute_process (simulation_of handlers held.config) k (q.lp % q.config.workers) held.serial process) (lp ∙ number)
      ∙ ap (λ k. execute_process (simulation_of handlers held.config) (process_at (simulation_of handlers held.config) held.worker (p / held.config.workers)) k held.serial process) worker
      ∙ ap (λ k. execute_process (simulation_of handlers held.config) (process_at (simulation_of handlers held.config) held.worker (p / held.config.workers)) held.worker k process) (sym h.serial)

  -- why Execute is refused at the process is why it is refused at the worker
  pub refusal-at : (held : HeldWorker S P K) (part : Part P) (p : ℕ) (step : Option (ProcessEffect P)) (process : LogicalProcess P) (fault : Fault)
      → StandsFor handlers held part → slice_get part.processes (p / held.config.workers) ≡ Some process
      → ProcessIsExecuteRefusal (simulation_of handlers held.config) p held.serial step fault
      → IsExecuteRefusal (simulation_of handlers held.config) p (option_map (with_effect part (p / held.config.workers)) step) fault
  refusal-at held part p None process fault h there why = why
  refusal-at held part p (Some effect) process fault h there why =
      let sim = simulation_of handlers held.config in
      let index = p / held.config.workers in
      let is : slice_get (with_effect part index effect).processes index ≡ Some effect.process = get-put_same part.processes index process effect.process there in
      let serial : part.serial + effect.serials ≡ held.serial + effect.serials = ap (λ k. k + effect.serials) h.serial in
      elim why [
        | inl e ↦ inl (
          e.0,
          elim e.1 [
            | inl a ↦ inr (subst (λ o. IsSomeAnd o (λ x. MAX_COUNT < number_of sim p x)) (sym is) a)
            | inr b ↦ inl (subst (λ k. MAX_COUNT < k) (sym serial) b)
          ],
        )
        | inr e ↦ inr (
          e.0,
          λ over. e.1 (elim over [
            | inl b ↦ inr (subst (λ k. MAX_COUNT < k) serial b)
            | inr a ↦ inl (subst (λ o. IsSomeAnd o (λ x. MAX_COUNT < number_of sim p x)) is a)
          ]),
        )
      ]
