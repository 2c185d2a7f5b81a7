-- The starts of a worker's processes: how many there are, and what they send.
use Rattle.std.proofs.Common.{◌≡◌, ◌∙◌, ℕ, zero, suc, ◌+◌, ◌-◌, ◌*◌, ◌/◌, ◌%◌, ◌<◌, ◌≤◌, List, [], ◌∷◌, ◌++◌, map, replicate, length, refl, sym, ap, subst, arith}
use Rattle.std.specs.List.{All, flat_map, range_with_len}
use Rattle.std.proofs.lemmas.List.{append-nil, append_assoc, length-append}
use Rattle.std.proofs.lemmas.List.Elements.{All-head, All-tail}
use Rattle.std.proofs.Math.Nat.{le-div_iff_mul-le, div-lt_iff_lt-mul, div-le_self, suc-mul, div-add-mod'}
use Rattle.std.proofs.lemmas.Nat.{div-mul-add}
use Rattle.vt_key.specs.declared.letter.Event.{Event}
use Rattle.vt_model.specs.declared.limits.TheConstants.{MAX_SENDS}
use Rattle.vt_model.specs.declared.sending.Sent.{Sent}
use Rattle.vt_model.specs.declared.settings.Config.{Config}
use Rattle.vt_model.specs.promise.Handler.{Handlers, StartResult}
use Rattle.vt_model.specs.inside.Handler.{IsWithinLimits, AreWords}
use Rattle.vt_model.specs.promise.Histories.{AreNumbered}
use Rattle.vt_model.specs.promise.Settings.{end_of}
use Rattle.vt_model.specs.promise.Simulation.{Simulation, simulation_of, start_of, words_at}
use Rattle.vt_model.proofs.LawLemmas.{are_words, lawful_of}
use Rattle.vt_steps.specs.promise.Letters.{stamped}
use Rattle.vt_steps.specs.promise.World.{process_at, process_count, start_sends}
use Rattle.vt_steps.specs.inside.StandsFor.{StandsForProcess, StandForProcesses}
use Rattle.vt_lp.specs.inside.Held.{HeldProcess, process_memory, StandsFor as ProcessStandsFor, opening_process}
use Rattle.vt_kernel.specs.inside.Held.{AreProcesses}

-- ---- lists

flat-range : {X : Type 0} (f : ℕ → List X) (a n : ℕ) → flat_map f (range_with_len a (suc n)) ≡ flat_map f (range_with_len a n) ++ f (a + n)
flat-range f a zero = let here : a ≡ a + 0 = omega arith in append-nil (f a) ∙ ap f here
flat-range f a (suc n) =
    let here : (a + 1) + n ≡ a + suc n = omega arith in
    ap (λ xs. f a ++ xs) (flat-range f (a + 1) n)
    ∙ sym (append_assoc (f a) (flat_map f (range_with_len (a + 1) n)) (f ((a + 1) + n)))
    ∙ ap (λ k. (f a ++ flat_map f (range_with_len (a + 1) n)) ++ f k) here

module _ {S P : Type 0} (sim : Simulation S P) (w : ℕ) where
  -- what the processes of the first indices send at their starts
  abbrev pub started_sends : ℕ → List (Sent P)
  started_sends n = flat_map (λ index. (sim.start (process_at sim w index)).sends) (range_with_len 0 n)

  pub started-more : (n : ℕ) → started_sends (suc n) ≡ started_sends n ++ (sim.start (process_at sim w n)).sends
  started-more n = let here : 0 + n ≡ n = omega arith in
      flat-range (λ index. (sim.start (process_at sim w index)).sends) 0 n ∙ ap (λ k. started_sends n ++ (sim.start (process_at sim w k)).sends) here

  started-length : (n : ℕ) → length (started_sends (suc n)) ≡ length (started_sends n) + length (sim.start (process_at sim w n)).sends
  started-length n = ap length (started-more n) ∙ length-append (started_sends n) (sim.start (process_at sim w n)).sends

  -- more indices, more sends
  grows : (n k : ℕ) → length (started_sends n) ≤ length (started_sends (n + k))
  grows n zero = let same : n ≡ n + 0 = omega arith in subst (λ m. length (started_sends n) ≤ length (started_sends m)) same (omega arith)
  grows n (suc k) =
      let rest = grows n k in
      let next = started-length (n + k) in
      let same : suc (n + k) ≡ n + suc k = omega arith in
      subst (λ m. length (started_sends n) ≤ length (started_sends m)) same (omega (arith, rest, next))

  -- with one index more it is not yet more than all
  pub started-fits : (n : ℕ) → suc n ≤ process_count sim w →
      length (started_sends n) + length (sim.start (process_at sim w n)).sends ≤ length (start_sends sim w)
  started-fits n within =
      let rest = grows (suc n) (process_count sim w - suc n) in
      let same : suc n + (process_count sim w - suc n) ≡ process_count sim w = omega arith in
      let all : length (started_sends (suc n)) ≤ length (start_sends sim w) = subst (λ m. length (started_sends (suc n)) ≤ length (started_sends m)) same rest in
      let next = started-length n in
      omega (arith, all, next)

  few-started : (each : (p : ℕ) → p < sim.lps → length (sim.start p).sends ≤ MAX_SENDS) → (n : ℕ) → ((index : ℕ) → index < n → process_at sim w index < sim.lps) → length (started_sends n) ≤ MAX_SENDS * n
  few-started each zero known = omega arith
  few-started each (suc n) known =
      let rest = few-started each n (λ index less. known index (omega arith)) in
      let next = started-length n in
      let last = each (process_at sim w n) (known n (omega arith)) in
      omega (arith, rest, next, last)

  -- the starts of a worker send little
  few-starts : (each : (p : ℕ) → p < sim.lps → length (sim.start p).sends ≤ MAX_SENDS) → w < sim.workers → length (start_sends sim w) ≤ MAX_SENDS * (sim.lps + sim.workers)
  few-starts each some =
      let pos : 0 < sim.workers = omega arith in
      let known : (index : ℕ) → index < process_count sim w → process_at sim w index < sim.lps = λ index less.
      let enough = (le-div_iff_mul-le {k = sim.workers} {x = suc index} {y = sim.lps + (sim.workers - 1) - w} pos).0 less in
      let more = suc-mul index sim.workers in
      omega (arith, enough, more, some) in
      let all = few-started each (process_count sim w) known in
      let less = div-le_self (sim.lps + (sim.workers - 1) - w) sim.workers in
      omega (arith, all, less)

-- ---- how many indices there are

module _ (lps workers w n p : ℕ) (some : w < workers) (at : p ≡ n * workers + w) where
  pub index-left : p < lps → suc n ≤ (lps + (workers - 1) - w) / workers
  index-left less =
      let pos : 0 < workers = omega arith in
      let more : suc n * workers ≡ n * workers + workers = suc-mul n workers in
      let fits : suc n * workers ≤ lps + (workers - 1) - w = omega (arith, more, less, at, some) in
      (le-div_iff_mul-le {k = workers} {x = suc n} {y = lps + (workers - 1) - w} pos).1 fits

  pub indices-done : lps ≤ p → p < lps + workers → n ≡ (lps + (workers - 1) - w) / workers
  indices-done past less =
      let pos : 0 < workers = omega arith in
      let more : suc n * workers ≡ n * workers + workers = suc-mul n workers in
      let fits : n * workers ≤ lps + (workers - 1) - w = omega (arith, at, less, some) in
      let low : n ≤ (lps + (workers - 1) - w) / workers = (le-div_iff_mul-le {k = workers} {x = n} {y = lps + (workers - 1) - w} pos).1 fits in
      let over : lps + (workers - 1) - w < suc n * workers = omega (arith, more, at, past, some) in
      let high : (lps + (workers - 1) - w) / workers < suc n = (div-lt_iff_lt-mul {k = workers} {x = lps + (workers - 1) - w} {y = suc n} pos).1 over in
      omega (arith, low, high)

pub index-own : (workers w n p : ℕ) → w < workers → p ≡ n * workers + w → p % workers ≡ w
index-own workers w n p some at =
    let pos : 0 < workers = omega arith in
    let whole : p / workers * workers + p % workers ≡ p = div-add-mod' p workers in
    let part : p / workers ≡ n = ap (λ k. k / workers) at ∙ div-mul-add n workers w some in
    let same : p / workers * workers ≡ n * workers = ap (λ k. k * workers) part in
    omega (arith, whole, same, at)

-- ---- stamps

pub stamped-append : {P : Type 0} (w serial : ℕ) (xs ys : List (Sent P)) → stamped w serial (xs ++ ys) ≡ stamped w serial xs ++ stamped w (serial + length xs) ys
stamped-append w serial [] ys = let here : serial ≡ serial + 0 = omega arith in ap (λ n. stamped w n ys) here
stamped-append {P} w serial (x ∷ xs) ys =
    let here : (serial + 1) + length xs ≡ serial + length (x ∷ xs) = omega arith in
    let first : Event P = record { rank = record { key = x.key; stamp = record { worker = w; serial = serial } }; dest = x.dest; payload = x.payload } in
    ap (λ es. first ∷ es) (stamped-append w (serial + 1) xs ys) ∙ ap (λ n. first ∷ (stamped w (serial + 1) xs ++ stamped w n ys)) here

-- ---- processes

module _ {S P K : Type 0} where
  pub are-push : (config : Config) (w base : ℕ) (xs : List (HeldProcess S P K)) (q : HeldProcess S P K) → AreProcesses config w base xs →
      q.lp ≡ (base + length xs) * config.workers + w → q.config ≡ config → AreProcesses config w base (xs ++ q ∷ [])
  are-push config w base [] q h is of = let here : base + 0 ≡ base = omega arith in (is ∙ ap (λ b. b * config.workers + w) here, of, tt)
  are-push config w base (x ∷ xs) q h is of =
      let here : base + length (x ∷ xs) ≡ (base + 1) + length xs = omega arith in
      (h.0, h.1, are-push config w (base + 1) xs q h.2 (is ∙ ap (λ b. b * config.workers + w) here) of)

-- ---- few

start-number : {S P : Type 0} (end p : ℕ) (started : StartResult S P) → (start_of end p started).triple.number ≡ length started.send_requests
unfolding start_of
start-number end p started = refl

numbered-few : {P : Type 0} (p low high : ℕ) (es : List (Sent P)) → AreNumbered p low high es → length es + low ≤ high
numbered-few p low high [] h = omega (arith, h)
numbered-few p low high (e ∷ es) h = let rest = numbered-few p (suc e.key.number) high es h.2 in omega (arith, rest, h.1)

-- by a model's laws, the starts of a worker's processes send few events
pub few-sent : {S P K : Type 0} (handlers : Handlers S P K) (config : Config)
    → ((lps lp : ℕ) (words : ℕ → ℕ) → lp < lps → AreWords words → IsWithinLimits lps 0 (handlers.start lps lp words).drawn (handlers.start lps lp words).send_requests [])
    → ((lps lp now : ℕ) (p : P) (s : S) (words : ℕ → ℕ) → lp < lps → AreWords words
    → IsWithinLimits lps now (handlers.forward lps lp now p s words).drawn (handlers.forward lps lp now p s words).send_requests (handlers.forward lps lp now p s words).record_requests)
    → (w : ℕ) → w < config.workers → length (start_sends (simulation_of handlers config) w) ≤ MAX_SENDS * (config.lps + config.workers)
few-sent handlers config start_within forward_within w known =
    let sim = simulation_of handlers config in
    let lawful = lawful_of handlers config start_within forward_within in
    let each : (p : ℕ) → p < sim.lps → length (sim.start p).sends ≤ MAX_SENDS = λ p is.
    let within = start_within config.lps p (words_at config.seed p 0) is (are_words config.seed p 0) in
    let numbered = numbered-few p 0 (sim.start p).triple.number (sim.start p).sends (lawful.numbered_start p is) in
    let number = start-number (end_of config) p (handlers.start config.lps p (words_at config.seed p 0)) in
    omega (arith, numbered, number, within.few_sends) in
    few-starts sim w each known

-- ---- the opening

module _ {S P K : Type 0} where
  module _ (handlers : Handlers S P K) where
    -- a process that has only started
    abbrev pub IsOpening : HeldProcess S P K → Type 0
    IsOpening held = ProcessStandsFor handlers held opening_process

    stand-all : (config : Config) (w base : ℕ) (xs : List (HeldProcess S P K)) → AreProcesses config w base xs → All IsOpening xs →
        StandForProcesses (simulation_of handlers config) w base (map (process_memory handlers) xs) (replicate (length xs) opening_process)
    stand-all config w base [] are all = tt
    stand-all config w base (x ∷ xs) are all = (
      subst (λ (p : ℕ). StandsForProcess (simulation_of handlers config) p (process_memory handlers x) opening_process) are.0
          (subst (λ (c : Config). StandsForProcess (simulation_of handlers c) x.lp (process_memory handlers x) opening_process) are.1 (All-head IsOpening x xs all)),
      stand-all config w (base + 1) xs are.2 (All-tail IsOpening x xs all),
    )

    pub stand-opening : (config : Config) (w n : ℕ) (xs : List (HeldProcess S P K)) → AreProcesses config w 0 xs → All IsOpening xs → length xs ≡ n →
        StandForProcesses (simulation_of handlers config) w 0 (map (process_memory handlers) xs) (replicate n opening_process)
    stand-opening config w n xs are all len =
        subst (λ (k : ℕ). StandForProcesses (simulation_of handlers config) w 0 (map (process_memory handlers) xs) (replicate k opening_process)) len (stand-all config w 0 xs are all)
