-- The state of each process once the book is closed: where the whole sequential run leaves it.
use Rattle.std.proofs.Common.{◌≡◌, ℕ, ◌+◌, ◌*◌, ◌/◌, ◌%◌, ◌<◌, Bool, nat_eq, map, refl, sym, ◌∙◌, ap, subst, arith, Option, Some, None, slice_get, if◌then◌else◌}
use Rattle.std.specs.Prelude.{IsTrue}
use Rattle.std.specs.Option.{option_map}
use Rattle.std.proofs.Math.Logic.{∥∥₁_elim}
use Rattle.std.proofs.Props.{props}
use Rattle.std.proofs.lemmas.Bool.{eq-eqb}
use Rattle.std.proofs.Math.Nat.{div-add-mod'}
use Rattle.vt_key.specs.promise.Times.{Time}
use Rattle.vt_model.specs.declared.settings.Config.{Config}
use Rattle.vt_model.specs.promise.Handler.{Handlers}
use Rattle.vt_model.specs.promise.Histories.{IsLawful}
use Rattle.vt_model.specs.promise.Simulation.{Triple, simulation_of, after}
use Rattle.vt_model.specs.promise.Sequential.{events_of, whole_run}
use Rattle.vt_steps.specs.promise.Next.{reached}
use Rattle.vt_steps.specs.promise.World.{Book, process_at}
use Rattle.vt_steps.specs.inside.StandsFor.{StandsForProcess}
use Rattle.vt_steps.proofs.book.ReachedBooks.{closed-finals}
use Rattle.vt_steps.proofs.steps.MemoryLemmas.{is_where}
use Rattle.vt_lp.specs.inside.Held.{HeldProcess, process_memory}
use Rattle.vt_kernel.specs.inside.Held.{HeldWorker, part_memory, process_of}
use Rattle.vt_kernel.proofs.ProcessLemmas.{get-map_of, stands-at as process-stands-at}
use Rattle.vt_world.specs.inside.Held.{HeldWorld, IsReached, IsWorldInside}
use Rattle.vt_world.proofs.WorldLemmas.{stands-at, worker-at}

-- what is some comes of something
pub of-some : {X Y : Type 0} (f : X → Y) (o : Option X) (y : Y) → Some y ≡ option_map f o → (x : X) × (o ≡ Some x) × (y ≡ f x)
of-some f None y h = absurd (let k : Some y ≡ None = h in cc)
of-some f (Some x) y h = (x, refl, (let k : Some y ≡ Some (f x) = h in cc))

module _ {S P K : Type 0} where
  -- a worker's own process is at its index
  at-index : (config : Config) (k : HeldWorker S P K) (p : ℕ) (q : HeldProcess S P K) → k.config ≡ config → p % config.workers ≡ k.worker → process_of k p ≡ Some q
      → slice_get k.processes (p / config.workers) ≡ Some q
  at-index config k p q same own at =
      let here : (if nat_eq (p % config.workers) k.worker then slice_get k.processes (p / config.workers) else None) ≡ Some q =
      subst (λ (c : Config). (if nat_eq (p % c.workers) k.worker then slice_get k.processes (p / c.workers) else None) ≡ Some q) same at in
      sym (ap (λ (b : Bool). if b then slice_get k.processes (p / config.workers) else None) (eq-eqb (p % config.workers) k.worker own)) ∙ here

module _ {M S P K : Type 0} {handlers : Handlers S P K} {held : HeldWorld M S P K} {board_end book_end : Time} (inside : IsWorldInside handlers held board_end book_end)
    (shut : IsTrue held.book.is_closed) (lawful : IsLawful (simulation_of handlers held.config)) where
  -- a process stands where the events of the whole run leave it
  final-reached : (p : ℕ) (k : HeldWorker S P K) (q : HeldProcess S P K) → p < held.config.lps → slice_get held.workers (p % held.config.workers) ≡ Some k → process_of k p ≡ Some q
      → (x : (serial : ℕ) × IsReached handlers serial held) → q.triple ≡ after (simulation_of handlers held.config) p (events_of p (whole_run (simulation_of handlers held.config)))
  final-reached p k q less at found x =
      let sim = simulation_of handlers held.config in
      let world = reached sim x.0 x.1.0 in
      let w = p % held.config.workers in
      let index = p / held.config.workers in
      let who = worker-at held.config 0 w held.workers k inside.own_workers at in
      let plain : 0 + w ≡ w = omega arith in
      let own : w ≡ k.worker = sym (who.0 ∙ plain) in
      let part = stands-at sim 0 w (map (part_memory handlers) held.workers) world.parts (part_memory handlers k) x.1.1.parts (get-map_of (part_memory handlers) held.workers w k at) in
      let there = at-index held.config k p q who.1 own found in
      let process = process-stands-at sim (0 + w) 0 index (map (process_memory handlers) k.processes) part.0.processes (process_memory handlers q) part.2.processes (get-map_of (process_memory handlers) k.processes index q there) in
      let number : process_at sim (0 + w) (0 + index) ≡ p = (let a : 0 + index ≡ index = omega arith in ap (λ n. n * held.config.workers + (0 + w)) a ∙ ap (λ n. index * held.config.workers + n) plain ∙ div-add-mod' p held.config.workers) in
      let stands : StandsForProcess sim p (process_memory handlers q) process.0 = subst (λ n. StandsForProcess sim n (process_memory handlers q) process.0) number process.2 in
      sym (is_where sim p (process_memory handlers q) process.0 stands)
      ∙ closed-finals sim lawful x.0 x.1.0 (ap (λ (b : Book). b.is_closed) x.1.1.book ∙ shut) p process.0 less (part.0, part.1, process.1)

  pub final-value : (p : ℕ) {k : HeldWorker S P K} {q : HeldProcess S P K} → p < held.config.lps → slice_get held.workers (p % held.config.workers) ≡ Some k → process_of k p ≡ Some q
      → handlers.finish p q.triple.state ≡ handlers.finish p (after (simulation_of handlers held.config) p (events_of p (whole_run (simulation_of handlers held.config)))).state
  final-value p {k} {q} less at found = ∥∥₁_elim inside.is_reached (Prim.hlevel props) (λ x. ap (λ (t : Triple S). handlers.finish p t.state) (final-reached p k q less at found x))
