-- Execute is lawful exactly at the processes that are ready in the contest.
use Rattle.std.proofs.Common.{◌≡◌, ℕ, zero, suc, ◌+◌, ◌*◌, ◌/◌, ◌%◌, ◌≤◌, inl, inr, Bool, true, false, List, [], ◌∷◌, map, length, refl, sym, ◌∙◌, ap, subst, arith, if◌then◌else◌, Option, Some, None, slice_get}
use Rattle.std.specs.List.{last_or}
use Rattle.std.specs.Option.{option_map}
use Rattle.std.proofs.lemmas.Bool.Decides.{eqb_tells}
use Rattle.vt_key.specs.declared.order.Rank.{Rank}
use Rattle.vt_key.specs.declared.letter.Letter.{Letter}
use Rattle.vt_model.specs.promise.Handler.{Handlers}
use Rattle.vt_model.specs.promise.Simulation.{Simulation, simulation_of}
use Rattle.vt_steps.specs.declared.step.Step.TheVariants.{Execute}
use Rattle.vt_steps.specs.promise.World.{LogicalProcess, Part}
use Rattle.vt_steps.specs.promise.ProcessSteps.{ProcessEffect, effect_of_execute, execute_least, execute_process}
use Rattle.vt_steps.specs.promise.PartSteps.{with_effect}
use Rattle.vt_steps.specs.inside.Cells.{local_step}
use Rattle.vt_lp.specs.inside.Held.{HeldProcess, StandsFor as ProcessStandsFor}
use Rattle.vt_lp.specs.inside.Guards.{may_come_after, ready_rank}
use Rattle.vt_kernel.specs.inside.Choosing.{ready_of}
use Rattle.vt_kernel.specs.inside.Held.{HeldWorker, StandsFor, AreProcesses}
use Rattle.vt_kernel.proofs.OwnSteps.{own-execute, not-own, own-step, found, refused-at}
use Rattle.vt_kernel.proofs.LocalLemmas.{past-refused, execute-step}
use Rattle.vt_kernel.proofs.ProcessLemmas.{get-map_of}
use Rattle.vt_lp.proofs.ExecuteLemmas.{may-is}

-- ---- lists and options

if-true : {A : Type 0} (b : Bool) (x y : A) → (if b then Some x else None) ≡ Some y → b ≡ true
if-true true x y e = refl
if-true false x y e = absurd (let h : None ≡ Some y = e in cc)

if-false : {A : Type 0} (b : Bool) (x : A) → (if b then Some x else None) ≡ None → b ≡ false
if-false true x e = absurd (let h : Some x ≡ None = e in cc)
if-false false x e = refl

-- what is mapped at an index is what is there
get-mapped : {X Y : Type 0} (f : X → Y) (xs : List X) (i : ℕ) (y : Y) → slice_get (map f xs) i ≡ Some y → (x : X) × (slice_get xs i ≡ Some x) × (f x ≡ y)
get-mapped f [] i y at = absurd (let h : None ≡ Some y = at in cc)
get-mapped f (x ∷ xs) zero y at = (x, refl, (let h : Some (f x) ≡ Some y = at in cc))
get-mapped f (x ∷ xs) (suc i) y at = get-mapped f xs i y at

past-get : {X : Type 0} (xs : List X) (i : ℕ) → slice_get xs i ≡ None → length xs ≤ i
past-get [] i gone = omega arith
past-get (x ∷ xs) zero gone = absurd (let h : Some x ≡ None = gone in cc)
past-get (x ∷ xs) (suc i) gone = (let rest = past-get xs i gone in omega (arith, rest))

-- either it is there or not
one-of : {X Q : Type 0} (o : Option X) → (o ≡ None → Q) → ((x : X) → o ≡ Some x → Q) → Q
one-of None none some = none refl
one-of (Some x) none some = some x refl

module _ {S P K : Type 0} (handlers : Handlers S P K) where
  -- ---- at a process

  -- Execute is lawful where a rank is ready
  pub ready-lawful : (sim : Simulation S P) (p w serial : ℕ) (held : HeldProcess S P K) (process : LogicalProcess P) (rank : Rank) → ProcessStandsFor handlers held process
      → ready_of held ≡ Some rank → (effect : ProcessEffect P) × (execute_process sim p w serial process ≡ Some effect)
  ready-lawful sim p w serial held process rank s ready =
      subst (λ ls. (effect : ProcessEffect P) × (execute_least sim p w serial process ls ≡ Some effect)) (sym s.pending) (go held.pending ready)
    where
      go : (ls : List (Letter P)) → ready_rank ls held.past ≡ Some rank → (effect : ProcessEffect P) × (execute_least sim p w serial process ls ≡ Some effect)
      go [] is = absurd (let h : None ≡ Some rank = is in cc)
      go (l ∷ ls) is = (
        effect_of_execute sim p w serial process l ls,
        ap (λ b. if b then Some (effect_of_execute sim p w serial process l ls) else None)
            (may-is handlers held process l.event s ∙ if-true (may_come_after (last_or None held.past) l.event.rank) l.event.rank rank is),
      )

  -- and where none is it is not
  pub none-ready : (sim : Simulation S P) (p w serial : ℕ) (held : HeldProcess S P K) (process : LogicalProcess P) → ProcessStandsFor handlers held process
      → ready_of held ≡ None → execute_process sim p w serial process ≡ None
  none-ready sim p w serial held process s ready =
      subst (λ ls. execute_least sim p w serial process ls ≡ None) (sym s.pending) (go held.pending ready)
    where
      go : (ls : List (Letter P)) → ready_rank ls held.past ≡ None → execute_least sim p w serial process ls ≡ None
      go [] is = refl
      go (l ∷ ls) is =
          ap (λ b. if b then Some (effect_of_execute sim p w serial process l ls) else None)
          (may-is handlers held process l.event s ∙ if-false (may_come_after (last_or None held.past) l.event.rank) l.event.rank is)

  -- ---- at a worker

  module _ (held : HeldWorker S P K) (are : AreProcesses held.config held.worker 0 held.processes) (part : Part P) (h : StandsFor handlers held part) where
    pub lawful-at : (p : ℕ) (rank : Rank) → p % held.config.workers ≡ held.worker → slice_get (map ready_of held.processes) (p / held.config.workers) ≡ Some (Some rank)
        → (after : Part P) × (local_step (simulation_of handlers held.config) held.worker (Execute p) part ≡ Some after)
    lawful-at p rank own at =
        let sim = simulation_of handlers held.config in
        let index = p / held.config.workers in
        let there = get-mapped ready_of held.processes index (Some rank) at in
        let f = found handlers held part p there.0 h are own there.1 in
        let step = execute-step handlers held part p in
        let done = ready-lawful sim (index * held.config.workers + held.worker) held.worker part.serial there.0 f.process rank f.stands there.2 in
        (with_effect part index done.0, own-execute sim held.worker p part ∙ own-step sim held.worker p step part f.process own f.there ∙ ap (option_map (with_effect part index)) done.1)

    pub unlawful-at : ((index : ℕ) (rank : Rank) → slice_get (map ready_of held.processes) index ≡ Some (Some rank) → ⊥)
        → (p : ℕ) → local_step (simulation_of handlers held.config) held.worker (Execute p) part ≡ None
    unlawful-at nobody p =
        let sim = simulation_of handlers held.config in
        let index = p / held.config.workers in
        let step = execute-step handlers held part p in
        own-execute sim held.worker p part
        ∙ elim (eqb_tells (p % held.config.workers) held.worker) [
          | inr e ↦ not-own sim held.worker p _ e.1
          | inl e ↦
              one-of (slice_get held.processes index)
              (λ gone. past-refused handlers held are part h p step (past-get held.processes index gone))
              (λ q at.
              (let f = found handlers held part p q h are e.1 at in
              refused-at handlers held part p q step e.1 f
              (one-of (ready_of q)
              (λ none. none-ready sim (index * held.config.workers + held.worker) held.worker part.serial q f.process f.stands none)
              (λ rank some. absurd (nobody index rank (get-map_of ready_of held.processes index q at ∙ ap Some some))))))
        ]
