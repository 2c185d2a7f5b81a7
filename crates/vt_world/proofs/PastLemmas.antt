-- The past events of a process, in memory and in the worlds that memory stands for.
use Rattle.std.proofs.Common.{◌≡◌, ℕ, ◌/◌, ◌%◌, ◌<◌, ◌≤◌, Bool, true, false, nat_eq, List, [], ◌∷◌, ◌++◌, map, refl, sym, ◌∙◌, ap, subst, arith, Option, Some, None, Result, Ok, Err, IfOk, OnOk, slice_get, if◌then◌else◌}
use Rattle.std.specs.Option.{option_map}
use Rattle.std.proofs.lemmas.List.{map-append}
use Rattle.std.proofs.lemmas.List.Elements.{filter-append}
use Rattle.vt_key.specs.promise.Times.{Time, TimeAtMost, time_before}
use Rattle.vt_key.specs.declared.letter.Event.{Event}
use Rattle.vt_model.specs.declared.sending.Sent.{Sent}
use Rattle.vt_model.specs.declared.settings.Config.{Config}
use Rattle.vt_model.specs.promise.Handler.{Handlers}
use Rattle.vt_model.specs.promise.Histories.{IsLawful}
use Rattle.vt_model.specs.promise.Sequential.{events_before}
use Rattle.vt_model.specs.promise.Simulation.{Simulation, simulation_of}
use Rattle.vt_steps.specs.declared.step.Step.{Step}
use Rattle.vt_steps.specs.promise.Letters.{unstamped}
use Rattle.vt_steps.specs.promise.World.{Entry, World, entry_events, least}
use Rattle.vt_steps.specs.promise.Next.{reached}
use Rattle.vt_steps.specs.inside.StandsFor.{entry_of}
use Rattle.vt_steps.proofs.book.ReachedBooks.{reached-accounted}
use Rattle.vt_lp.specs.inside.Held.{HeldProcess, executed_events, process_memory, remembered}
use Rattle.vt_past.specs.declared.event.PastEvent.{PastEvent}
use Rattle.vt_kernel.specs.inside.Held.{HeldWorker, IsProcessOf, process_of}
use Rattle.vt_kernel.proofs.ProcessLemmas.{get-map_of, stands-at}
use Rattle.vt_world.specs.inside.Held.{HeldWorld, StandsForWorld, IsWorldInside}
use Rattle.vt_world.specs.promise.Answers.{IsPastIn, EndsSequential}
use Rattle.vt_world.proofs.WorldLemmas.{found}
use Rattle.vt_world.proofs.WorldSteps.{who}
use Rattle.vt_world.proofs.Indices.{is-own}

-- what is made of an item that a test lets through
passed : {X Y : Type 0} (test : Bool) (item : Option X) (make : X → Y) (y : Y) → option_map make (if test then item else None) ≡ Some y → (x : X) × (item ≡ Some x) × (make x ≡ y)
passed true (Some x) make y h = (x, refl, (let k : Some (make x) ≡ Some y = h in cc))
passed true None make y h = absurd (let k : None ≡ Some y = h in cc)
passed false item make y h = absurd (let k : None ≡ Some y = h in cc)

-- what an Ok gives, with what it says of the call
pub ok-both : {A E : Type 0} {Q R : A → Type 0} {X : Type 0} (result : Result A E) → ((a : A) → Q a → X → R a) → IfOk result Q → OnOk result X → IfOk result R
ok-both (Ok a) more h x = more a h x
ok-both (Err e) more h x = tt

module _ {S P K : Type 0} (handlers : Handlers S P K) where
  -- the events that are remembered
  remembered-events : (lp : ℕ) (past : List (PastEvent P K)) → map (λ (entry : Entry P). entry.event) (map entry_of (map (remembered handlers lp) past)) ≡ map (λ (e : PastEvent P K). e.letter.event) past
  remembered-events lp [] = refl
  remembered-events lp (e ∷ es) = ap (λ events. e.letter.event ∷ events) (remembered-events lp es)

-- entries as the model knows them
entries-known : {P : Type 0} (entries : List (Entry P)) → entry_events entries ≡ map unstamped (map (λ (entry : Entry P). entry.event) entries)
entries-known [] = refl
entries-known (x ∷ xs) = ap (λ es. unstamped x.event ∷ es) (entries-known xs)

module _ {M S P K : Type 0} {handlers : Handlers S P K} {held : HeldWorld M S P K} {board_end book_end : Time} (inside : IsWorldInside handlers held board_end book_end)
    (p : ℕ) {k : HeldWorker S P K} (at : slice_get held.workers (p % held.config.workers) ≡ Some k) where
  -- the worker has the process where the world does
  pub own-process : IsProcessOf k.config k.worker p → p < held.config.lps
  own-process is = subst (λ (c : Config). p < c.lps) (who inside at).1 is.known

  pub no-process : (IsProcessOf k.config k.worker p → ⊥) → held.config.lps ≤ p
  no-process none =
      let never : p < held.config.lps → ⊥ = λ less. none (is-own inside p at less) in
      omega (arith, never)

  -- its past events are those in each world that it stands for
  pub past-in : (events : List (Event P)) → option_map (λ (process : HeldProcess _ _ _). executed_events process.past) (process_of k p) ≡ Some events → (world : World P) → StandsForWorld handlers held world
      → IsPastIn (simulation_of handlers held.config) world p events
  past-in events is world h =
      let event : Entry P → Event P = λ entry. entry.event in
      let f = found handlers held world (p % held.config.workers) k inside.own_workers h at in
      let q = passed (nat_eq (p % k.config.workers) k.worker) (slice_get k.processes (p / k.config.workers)) (λ (process : HeldProcess _ _ _). executed_events process.past) events is in
      let s = stands-at (simulation_of handlers k.config) k.worker 0 (p / k.config.workers) (map (process_memory handlers) k.processes) f.part.processes (process_memory handlers q.0) f.stands.processes
      (get-map_of (process_memory handlers) k.processes (p / k.config.workers) q.0 q.1) in
      (s.0, (f.part, f.there, subst (λ (c : Config). slice_get f.part.processes (p / c.workers) ≡ Some s.0) (who inside at).1 s.1), ap (map event) s.2.past ∙ remembered-events handlers q.0.lp q.0.past ∙ q.2)

-- they are the last ones of the sequential run's, wherever nothing is before a time
pub past-sequential : {S P : Type 0} (sim : Simulation S P) → IsLawful sim → (serial : ℕ) (steps : List Step) (p : ℕ) (events : List (Event P)) → IsPastIn sim (reached sim serial steps) p events
    → p < sim.lps → (t : Time) → TimeAtMost t (least sim.end (reached sim serial steps)) → EndsSequential sim p t events
past-sequential sim lawful serial steps p events here known t quiet =
    let process = here.0 in
    let first = entry_events process.done in
    ∣ (
      events_before t first,
      sym ((reached-accounted sim lawful serial steps).histories t p process known quiet here.1)
          ∙ ap (events_before t) (map-append (λ (entry : Entry _). unstamped entry.event) process.done process.past)
          ∙ filter-append (λ (e : Sent _). time_before e.key.time t) first (entry_events process.past)
          ∙ ap (λ es. events_before t first ++ events_before t es) (entries-known process.past ∙ ap (map unstamped) here.2),
    ) ∣₁
