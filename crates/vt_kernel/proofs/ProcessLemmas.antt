-- The processes of a worker: one looked up, one changed; and the steps at one process as steps of the part.
use Rattle.std.proofs.Common.{◌≡◌, ℕ, zero, suc, ◌+◌, ◌-◌, ◌*◌, ◌/◌, ◌%◌, ◌<◌, ◌≤◌, List, [], ◌∷◌, ◌++◌, map, refl, sym, ◌∙◌, ap, subst, arith, Some, None, slice_get, slice_set}
use Rattle.std.specs.List.{All}
use Rattle.std.proofs.lemmas.List.Elements.{All-nil, All-cons}
use Rattle.std.proofs.Math.Nat.{le-div_iff_mul-le, div-add-mod', suc-mul, mod-lt}
use Rattle.vt_key.specs.declared.letter.Letter.{Letter}
use Rattle.vt_model.specs.declared.settings.Config.{Config}
use Rattle.vt_model.specs.promise.Handler.{Handlers}
use Rattle.vt_model.specs.promise.Simulation.{Simulation, simulation_of}
use Rattle.vt_model.specs.promise.Settings.{end_of}
use Rattle.vt_steps.specs.promise.World.{LogicalProcess, Part, process_at}
use Rattle.vt_steps.specs.promise.ProcessSteps.{ProcessEffect}
use Rattle.vt_steps.specs.promise.PartSteps.{with_effect}
use Rattle.vt_steps.specs.inside.StandsFor.{ProcessMemory, StandsForProcess, StandForProcesses}
use Rattle.vt_lp.specs.inside.Held.{HeldProcess, process_memory}
use Rattle.vt_kernel.specs.inside.Held.{HeldWorker, StandsFor, AreProcesses}

-- ---- lists

pub map-put : {X Y : Type 0} (f : X → Y) (xs : List X) (i : ℕ) (x : X) → map f (slice_set xs i x) ≡ slice_set (map f xs) i (f x)
map-put f [] i x = refl
map-put f (y ∷ ys) zero x = refl
map-put f (y ∷ ys) (suc i) x = ap (λ zs. f y ∷ zs) (map-put f ys i x)

pub get-map_of : {X Y : Type 0} (f : X → Y) (xs : List X) (i : ℕ) (x : X) → slice_get xs i ≡ Some x → slice_get (map f xs) i ≡ Some (f x)
get-map_of f [] i x at = absurd (let h : None ≡ Some x = at in cc)
get-map_of f (y ∷ ys) zero x at = let h : Some y ≡ Some x = at in let same : y ≡ x = cc in ap (λ z. Some (f z)) same
get-map_of f (y ∷ ys) (suc i) x at = get-map_of f ys i x at

-- ---- the processes of a worker

module _ {S P : Type 0} (sim : Simulation S P) (w : ℕ) where
  -- a value at an index stands for the process at that index
  pub stands-at : (base index : ℕ) (memories : List (ProcessMemory S P)) (processes : List (LogicalProcess P)) (memory : ProcessMemory S P)
      → StandForProcesses sim w base memories processes → slice_get memories index ≡ Some memory
      → (process : LogicalProcess P) × (slice_get processes index ≡ Some process) × StandsForProcess sim (process_at sim w (base + index)) memory process
  stands-at base index [] processes memory h at = absurd (let k : None ≡ Some memory = at in cc)
  stands-at base index (m ∷ ms) [] memory h at = absurd h
  stands-at base zero (m ∷ ms) (q ∷ qs) memory h at =
      let k : Some m ≡ Some memory = at in
      let same : m ≡ memory = cc in
      let here : base ≡ base + 0 = omega arith in
      (q, refl, subst (λ b. StandsForProcess sim (process_at sim w b) memory q) here (subst (λ x. StandsForProcess sim (process_at sim w base) x q) same h.0))
  stands-at base (suc index) (m ∷ ms) (q ∷ qs) memory h at =
      let rest = stands-at (base + 1) index ms qs memory h.1 at in
      let here : (base + 1) + index ≡ base + suc index = omega arith in
      (rest.0, rest.1, subst (λ b. StandsForProcess sim (process_at sim w b) memory rest.0) here rest.2)

  -- values stand for the processes where one of each is changed
  pub stand-changed : (base index : ℕ) (memories : List (ProcessMemory S P)) (processes : List (LogicalProcess P)) (memory : ProcessMemory S P) (process : LogicalProcess P)
      → StandForProcesses sim w base memories processes → StandsForProcess sim (process_at sim w (base + index)) memory process
      → StandForProcesses sim w base (slice_set memories index memory) (slice_set processes index process)
  stand-changed base index [] [] memory process h k = h
  stand-changed base index [] (q ∷ qs) memory process h k = absurd h
  stand-changed base index (m ∷ ms) [] memory process h k = absurd h
  stand-changed base zero (m ∷ ms) (q ∷ qs) memory process h k =
      let here : base + 0 ≡ base = omega arith in
      (subst (λ b. StandsForProcess sim (process_at sim w b) memory process) here k, h.1)
  stand-changed base (suc index) (m ∷ ms) (q ∷ qs) memory process h k =
      let here : base + suc index ≡ (base + 1) + index = omega arith in
      (h.0, stand-changed (base + 1) index ms qs memory process h.1 (subst (λ b. StandsForProcess sim (process_at sim w b) memory process) here k))

module _ {S P K : Type 0} where
  -- which process is at an index, and of which config
  pub process-at : (config : Config) (w base index : ℕ) (held : List (HeldProcess S P K)) (q : HeldProcess S P K)
      → AreProcesses config w base held → slice_get held index ≡ Some q → (q.lp ≡ (base + index) * config.workers + w) × (q.config ≡ config)
  process-at config w base index [] q h at = absurd (let k : None ≡ Some q = at in cc)
  process-at config w base zero (x ∷ xs) q h at =
      let k : Some x ≡ Some q = at in
      let same : x ≡ q = cc in
      let here : base ≡ base + 0 = omega arith in
      (subst (λ (y : HeldProcess S P K). y.lp ≡ (base + 0) * config.workers + w) same (h.0 ∙ ap (λ b. b * config.workers + w) here), subst (λ (y : HeldProcess S P K). y.config ≡ config) same h.1)
  process-at config w base (suc index) (x ∷ xs) q h at =
      let rest = process-at config w (base + 1) index xs q h.2 at in
      let here : (base + 1) + index ≡ base + suc index = omega arith in
      (rest.0 ∙ ap (λ b. b * config.workers + w) here, rest.1)

  -- a changed process stays who it is
  pub processes-changed : (config : Config) (w base index : ℕ) (held : List (HeldProcess S P K)) (q : HeldProcess S P K)
      → AreProcesses config w base held → q.lp ≡ (base + index) * config.workers + w → q.config ≡ config
      → AreProcesses config w base (slice_set held index q)
  processes-changed config w base index [] q h is of = h
  processes-changed config w base zero (x ∷ xs) q h is of =
      let here : base + 0 ≡ base = omega arith in
      (is ∙ ap (λ b. b * config.workers + w) here, of, h.2)
  processes-changed config w base (suc index) (x ∷ xs) q h is of =
      let here : base + suc index ≡ (base + 1) + index = omega arith in
      (h.0, h.1, processes-changed config w (base + 1) index xs q h.2 (is ∙ ap (λ b. b * config.workers + w) here) of)

  -- the run of each ends when the worker's does
  pub same-ends : (config : Config) (w base : ℕ) (held : List (HeldProcess S P K)) → AreProcesses config w base held → All (λ (q : HeldProcess S P K). end_of q.config ≡ end_of config) held
  same-ends config w base [] are = All-nil (λ (q : HeldProcess S P K). end_of q.config ≡ end_of config)
  same-ends config w base (x ∷ xs) are = All-cons (λ (q : HeldProcess S P K). end_of q.config ≡ end_of config) x xs (ap end_of are.1) (same-ends config w (base + 1) xs are.2)

-- the worker stands for the part after a step at the process of an index, once the process stands for the one after it
pub stands-after : {S P K : Type 0} (handlers : Handlers S P K) (held : HeldWorker S P K) (part : Part P) (index : ℕ) (q : HeldProcess S P K) (effect : ProcessEffect P)
    (outbox : List (Letter P)) (serial : ℕ)
    → StandsFor handlers held part → q.lp ≡ process_at (simulation_of handlers held.config) held.worker index → q.config ≡ held.config
    → StandsForProcess (simulation_of handlers q.config) q.lp (process_memory handlers q) effect.process
    → outbox ≡ held.outbox ++ effect.letters → serial ≡ held.serial + effect.serials
    → StandsFor handlers (record held { processes = slice_set held.processes index q; outbox = outbox; serial = serial }) (with_effect part index effect)
stands-after handlers held part index q effect outbox serial h is of stands sent counted =
    let sim = simulation_of handlers held.config in
    let moved = subst (λ (c : Config). StandsForProcess (simulation_of handlers c) q.lp (process_memory handlers q) effect.process) of stands in
    let here : process_at sim held.worker index ≡ process_at sim held.worker (0 + index) = ap (λ k. process_at sim held.worker k) (let k : index ≡ 0 + index = omega arith in k) in
    let placed = subst (λ p. StandsForProcess sim p (process_memory handlers q) effect.process) (is ∙ here) moved in
    let changed = stand-changed sim held.worker 0 index (map (process_memory handlers) held.processes) part.processes (process_memory handlers q) effect.process h.processes placed in
    record {
      processes = subst (λ ms. StandForProcesses sim held.worker 0 ms (slice_set part.processes index effect.process)) (sym (map-put (process_memory handlers) held.processes index q)) changed;
      outbox = ap (λ ls. ls ++ effect.letters) h.outbox ∙ sym sent;
      arrived = h.arrived;
      colour = h.colour;
      sent = h.sent;
      got = h.got;
      red_minimum = h.red_minimum;
      floor = h.floor;
      serial = ap (λ n. n + effect.serials) h.serial ∙ sym counted;
    }

-- ---- indices

-- a process of the run has an index at its worker
pub index-known : (lps workers w p : ℕ) → 1 ≤ workers → p < lps → p % workers ≡ w → p / workers < (lps + (workers - 1) - w) / workers
index-known lps workers w p some less own =
    let whole : p / workers * workers + p % workers ≡ p = div-add-mod' p workers in
    let within : p % workers < workers = mod-lt p some in
    let more : suc (p / workers) * workers ≡ p / workers * workers + workers = suc-mul (p / workers) workers in
    let fits : suc (p / workers) * workers ≤ lps + (workers - 1) - w = omega arith in
    (le-div_iff_mul-le {k = workers} {x = suc (p / workers)} {y = lps + (workers - 1) - w} some).1 fits

-- a process past the end of the run has none
pub index-unknown : (lps workers w p : ℕ) → 1 ≤ workers → lps ≤ p → p % workers ≡ w → p / workers < (lps + (workers - 1) - w) / workers → ⊥
index-unknown lps workers w p some past own less =
    let whole : p / workers * workers + p % workers ≡ p = div-add-mod' p workers in
    let within : p % workers < workers = mod-lt p some in
    let more : suc (p / workers) * workers ≡ p / workers * workers + workers = suc-mul (p / workers) workers in
    let fits : suc (p / workers) * workers ≤ lps + (workers - 1) - w = (le-div_iff_mul-le {k = workers} {x = suc (p / workers)} {y = lps + (workers - 1) - w} some).0 less in
    omega arith
