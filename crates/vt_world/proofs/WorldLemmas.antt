-- A part of a world looked up and changed, and the steps of a part as steps of the world.
use Rattle.std.proofs.Common.{◌≡◌, ℕ, zero, suc, ◌+◌, inl, inr, Bool, List, [], ◌∷◌, map, refl, sym, ◌∙◌, ap, subst, arith, Some, None, Ok, Err, slice_get, slice_set, if◌then◌else◌}
use Rattle.std.specs.Option.{option_and_then, option_map}
use Rattle.std.proofs.lemmas.Bool.Decides.{eqb_tells}
use Rattle.vt_key.specs.promise.Times.{Time}
use Rattle.vt_key.specs.declared.fault.Fault.TheVariants.{NotLawful}
use Rattle.vt_model.specs.declared.settings.Config.{Config}
use Rattle.vt_model.specs.promise.Handler.{Handlers}
use Rattle.vt_model.specs.promise.Simulation.{Simulation, simulation_of}
use Rattle.vt_steps.specs.declared.step.Step.{Step}
use Rattle.vt_steps.specs.declared.step.Reply.TheVariants.{Done}
use Rattle.vt_steps.specs.promise.World.{Part, World}
use Rattle.vt_steps.specs.promise.Actions.{Action, on_part, at_inbox, at_board, at_book, on_book, action_of}
use Rattle.vt_steps.specs.promise.Next.{Outcome, done_in, next, with_part, done_or_refused, locally}
use Rattle.vt_steps.specs.inside.StandsFor.{PartMemory, StandsForPart, StandForParts, GoesOn}
use Rattle.vt_steps.specs.promise.Cells.{action_worker}
use Rattle.vt_steps.specs.inside.Cells.{local_rule, if_own, local_step}
use Rattle.vt_kernel.specs.inside.Held.{HeldWorker, part_memory, StandsFor as WorkerStandsFor}
use Rattle.vt_kernel.specs.inside.Guards.{IsDone}
use Rattle.vt_kernel.proofs.ProcessLemmas.{map-put, get-map_of}
use Rattle.vt_world.specs.inside.Held.{HeldWorld, world_memory, StandsForWorld, AreWorkers, IsWorldInside}

module _ {S P : Type 0} (sim : Simulation S P) where
  -- a value at an index stands for the part of that worker
  pub stands-at : (base w : ℕ) (memories : List (PartMemory S P)) (parts : List (Part P)) (memory : PartMemory S P)
      → StandForParts sim base memories parts → slice_get memories w ≡ Some memory
      → (part : Part P) × (slice_get parts w ≡ Some part) × StandsForPart sim (base + w) memory part
  stands-at base w [] parts memory h at = absurd (let k : None ≡ Some memory = at in cc)
  stands-at base w (m ∷ ms) [] memory h at = absurd h
  stands-at base zero (m ∷ ms) (q ∷ qs) memory h at =
      let k : Some m ≡ Some memory = at in
      let same : m ≡ memory = cc in
      let here : base ≡ base + 0 = omega arith in
      (q, refl, subst (λ b. StandsForPart sim b memory q) here (subst (λ x. StandsForPart sim base x q) same h.0))
  stands-at base (suc w) (m ∷ ms) (q ∷ qs) memory h at =
      let rest = stands-at (base + 1) w ms qs memory h.1 at in
      let here : (base + 1) + w ≡ base + suc w = omega arith in
      (rest.0, rest.1, subst (λ b. StandsForPart sim b memory rest.0) here rest.2)

  -- where there is no value there is no part
  pub nobody-at : (base w : ℕ) (memories : List (PartMemory S P)) (parts : List (Part P))
      → StandForParts sim base memories parts → slice_get memories w ≡ None → slice_get parts w ≡ None
  nobody-at base w [] [] h at = refl
  nobody-at base w [] (q ∷ qs) h at = absurd h
  nobody-at base w (m ∷ ms) [] h at = absurd h
  nobody-at base zero (m ∷ ms) (q ∷ qs) h at = absurd (let k : Some m ≡ None = at in cc)
  nobody-at base (suc w) (m ∷ ms) (q ∷ qs) h at = nobody-at (base + 1) w ms qs h.1 at

  -- values stand for the parts where one of each is changed
  pub stand-changed : (base w : ℕ) (memories : List (PartMemory S P)) (parts : List (Part P)) (memory : PartMemory S P) (part : Part P)
      → StandForParts sim base memories parts → StandsForPart sim (base + w) memory part
      → StandForParts sim base (slice_set memories w memory) (slice_set parts w part)
  stand-changed base w [] [] memory part h k = h
  stand-changed base w [] (q ∷ qs) memory part h k = absurd h
  stand-changed base w (m ∷ ms) [] memory part h k = absurd h
  stand-changed base zero (m ∷ ms) (q ∷ qs) memory part h k =
      let here : base + 0 ≡ base = omega arith in
      (subst (λ b. StandsForPart sim b memory part) here k, h.1)
  stand-changed base (suc w) (m ∷ ms) (q ∷ qs) memory part h k =
      let here : base + suc w ≡ (base + 1) + w = omega arith in
      (h.0, stand-changed (base + 1) w ms qs memory part h.1 (subst (λ b. StandsForPart sim b memory part) here k))

  -- ---- local steps

  -- it is done to the part of w alone
  abbrev IsOnPart : ℕ → Action P → Type 0
  IsOnPart w (on_part v step) = v ≡ w
  IsOnPart w _ = ⊥

  -- it is a local step of w
  abbrev pub IsLocalAt : ℕ → Step → Type 0
  IsLocalAt w step = IsOnPart w (action_of sim step)

  done-locally : (world : World P) (w : ℕ) (action : Action P) (part : Part P) → IsOnPart w action → slice_get world.parts w ≡ Some part
      → done_in world action ≡ done_or_refused world (option_map (with_part world w) (if_own sim w (action_worker action) (local_rule action part)))
  done-locally world w (on_part v step) part is there =
      ap (λ u. locally world u step) is
      ∙ ap (λ q. done_or_refused world (option_map (with_part world w) (option_and_then step q))) there
      ∙ ap (λ s. done_or_refused world (option_map (with_part world w) s)) (sym (elim (eqb_tells v w) [ inl e ↦ ap (λ (b : Bool). if b then step part else None) e.0 | inr e ↦ absurd (e.1 is) ]))
  done-locally world w (at_inbox v u step) part is there = absurd is
  done-locally world w (at_board v step) part is there = absurd is
  done-locally world w (at_book v step) part is there = absurd is
  done-locally world w (on_book step) part is there = absurd is

  -- what a local step does to the part it does to the world
  pub next-locally : (world : World P) (w : ℕ) (step : Step) (part : Part P) → IsLocalAt w step → slice_get world.parts w ≡ Some part
      → next sim world step ≡ done_or_refused world (option_map (with_part world w) (local_step sim w step part))
  unfolding next
  next-locally world w step part is there = done-locally world w (action_of sim step) part is there

-- ---- which worker is at an index

module _ {S P K : Type 0} where
  pub worker-at : (config : Config) (base w : ℕ) (held : List (HeldWorker S P K)) (k : HeldWorker S P K)
      → AreWorkers config base held → slice_get held w ≡ Some k → (k.worker ≡ base + w) × (k.config ≡ config)
  worker-at config base w [] k h at = absurd (let n : None ≡ Some k = at in cc)
  worker-at config base zero (x ∷ xs) k h at =
      let n : Some x ≡ Some k = at in
      let same : x ≡ k = cc in
      let here : base ≡ base + 0 = omega arith in
      (subst (λ (y : HeldWorker S P K). y.worker ≡ base + 0) same (h.0 ∙ here), subst (λ (y : HeldWorker S P K). y.config ≡ config) same h.1)
  worker-at config base (suc w) (x ∷ xs) k h at =
      let rest = worker-at config (base + 1) w xs k h.2 at in
      let here : (base + 1) + w ≡ base + suc w = omega arith in
      (rest.0 ∙ here, rest.1)

  -- a changed worker stays who it is
  pub workers-changed : (config : Config) (base w : ℕ) (held : List (HeldWorker S P K)) (k : HeldWorker S P K)
      → AreWorkers config base held → k.worker ≡ base + w → k.config ≡ config → AreWorkers config base (slice_set held w k)
  workers-changed config base w [] k h is of = h
  workers-changed config base zero (x ∷ xs) k h is of = (is ∙ (let here : base + 0 ≡ base = omega arith in here), of, h.2)
  workers-changed config base (suc w) (x ∷ xs) k h is of =
      let here : base + suc w ≡ (base + 1) + w = omega arith in
      (h.0, h.1, workers-changed config (base + 1) w xs k h.2 (is ∙ here) of)

module _ {M S P K : Type 0} (handlers : Handlers S P K) where
  -- the worker at an index, in memory and in the world
  pub record IsFound (held : HeldWorld M S P K) (world : World P) (w : ℕ) (k : HeldWorker S P K) : Type 0 where
    pub part : Part P
    pub there : slice_get world.parts w ≡ Some part
    pub stands : WorkerStandsFor handlers k part

  pub found : (held : HeldWorld M S P K) (world : World P) (w : ℕ) (k : HeldWorker S P K) → AreWorkers held.config 0 held.workers
      → StandsForWorld handlers held world → slice_get held.workers w ≡ Some k → IsFound held world w k
  found held world w k are h at =
      let sim = simulation_of handlers held.config in
      let here = stands-at sim 0 w (map (part_memory handlers) held.workers) world.parts (part_memory handlers k) h.parts (get-map_of (part_memory handlers) held.workers w k at) in
      let who = worker-at held.config 0 w held.workers k are at in
      record {
        part = here.0;
        there = here.1;
        stands =
            subst (λ (c : Config). StandsForPart (simulation_of handlers c) k.worker (part_memory handlers k) here.0) (sym who.1)
            (subst (λ v. StandsForPart sim v (part_memory handlers k) here.0) (sym who.0) here.2);
      }

  -- the world with another part, and what stands for it
  pub part-changed : (held : HeldWorld M S P K) (world : World P) (w : ℕ) (k : HeldWorker S P K) (part : Part P) → StandsForWorld handlers held world
      → k.worker ≡ w → k.config ≡ held.config → WorkerStandsFor handlers k part
      → StandForParts (simulation_of handlers held.config) 0 (map (part_memory handlers) (slice_set held.workers w k)) (slice_set world.parts w part)
  part-changed held world w k part h is of stands =
      let sim = simulation_of handlers held.config in
      let here : w ≡ 0 + w = omega arith in
      let moved =
      subst (λ v. StandsForPart sim v (part_memory handlers k) part) (is ∙ here)
      (subst (λ (c : Config). StandsForPart (simulation_of handlers c) k.worker (part_memory handlers k) part) of stands) in
      subst (λ ms. StandForParts sim 0 ms (slice_set world.parts w part)) (sym (map-put (part_memory handlers) held.workers w k))
      (stand-changed sim 0 w (map (part_memory handlers) held.workers) world.parts (part_memory handlers k) part h.parts moved)

-- a worker that may differ from another in all but its number and config
abbrev pub IsSame : {S P K : Type 0} → HeldWorker S P K → HeldWorker S P K → Type 0
IsSame new k = (new.worker ≡ k.worker) × (new.config ≡ k.config)

module _ {M S P K : Type 0} {handlers : Handlers S P K} {held : HeldWorld M S P K} {board_end book_end : Time} (inside : IsWorldInside handlers held board_end book_end)
    (w : ℕ) {k : HeldWorker S P K} (at : slice_get held.workers w ≡ Some k) (step : Step) (is : IsLocalAt (simulation_of handlers held.config) w step) where
  -- a local step that is done by the worker is done by the world
  pub local-done : (new : HeldWorker S P K) → IsSame new k
      → ((part : Part P) → WorkerStandsFor handlers k part → IsDone handlers new (local_step (simulation_of handlers k.config) k.worker step part))
      → GoesOn (simulation_of handlers held.config) step (Ok Done) (world_memory handlers held) (world_memory handlers (record held { workers = slice_set held.workers w new }))
  local-done new same done world h =
      let sim = simulation_of handlers held.config in
      let who = worker-at held.config 0 w held.workers k inside.own_workers at in
      let plain : 0 + w ≡ w = omega arith in
      let f = found handlers held world w k inside.own_workers h at in
      let d = done f.part f.stands in
      let lawful : local_step sim w step f.part ≡ Some d.part =
      ap (λ v. local_step sim v step f.part) (sym (who.0 ∙ plain)) ∙ ap (λ (c : Config). local_step (simulation_of handlers c) k.worker step f.part) (sym who.1) ∙ d.lawful in
      let out = next-locally sim world w step f.part is f.there ∙ ap (λ s. done_or_refused world (option_map (with_part world w) s)) lawful in
      let stands : StandsForWorld handlers (record held { workers = slice_set held.workers w new }) (with_part world w d.part) = record {
        parts = part-changed handlers held world w new d.part h (same.0 ∙ who.0 ∙ plain) (same.1 ∙ who.1) d.stands;
        inboxes = h.inboxes;
        board = h.board;
        book = h.book;
      } in (
        ap (λ (o : Outcome P). o.answer) out,
        subst (λ (o : Outcome P). StandsForWorld handlers (record held { workers = slice_set held.workers w new }) o.world) (sym out) stands,
      )

  -- one that is not lawful for the worker is not for the world, which stays
  pub local-refused : ((part : Part P) → WorkerStandsFor handlers k part → local_step (simulation_of handlers k.config) k.worker step part ≡ None)
      → GoesOn (simulation_of handlers held.config) step (Err NotLawful) (world_memory handlers held) (world_memory handlers held)
  local-refused none world h =
      let sim = simulation_of handlers held.config in
      let who = worker-at held.config 0 w held.workers k inside.own_workers at in
      let plain : 0 + w ≡ w = omega arith in
      let f = found handlers held world w k inside.own_workers h at in
      let gone : local_step sim w step f.part ≡ None =
      ap (λ v. local_step sim v step f.part) (sym (who.0 ∙ plain)) ∙ ap (λ (c : Config). local_step (simulation_of handlers c) k.worker step f.part) (sym who.1) ∙ none f.part f.stands in
      let out = next-locally sim world w step f.part is f.there ∙ ap (λ s. done_or_refused world (option_map (with_part world w) s)) gone in
      (ap (λ (o : Outcome P). o.answer) out, subst (λ (o : Outcome P). StandsForWorld handlers held o.world) (sym out) h)
