-- A pool at the opening, and where steps lead from there.
use Rattle.std.proofs.Common.{◌≡◌, ◌∙◌, ℕ, ◌+◌, ◌<◌, ◌≤◌, List, [], ◌∷◌, ◌++◌, map, replicate, length, refl, sym, subst, arith}
use Rattle.std.specs.List.{AllByRecursion}
use Rattle.std.proofs.lemmas.List.{length-map}
use Rattle.vt_key.specs.promise.Times.{Time}
use Rattle.vt_key.specs.declared.limits.TheConstants.{MAX_COUNT}
use Rattle.vt_key.specs.declared.letter.Sign.TheVariants.{Plus}
use Rattle.vt_model.specs.declared.process.Process.{Process}
use Rattle.vt_model.specs.declared.settings.Config.{Config}
use Rattle.vt_model.specs.promise.Handler.{Handlers}
use Rattle.vt_model.specs.inside.Process.{triple_at}
use Rattle.vt_model.specs.promise.Simulation.{Triple, simulation_of}
use Rattle.vt_steps.specs.promise.Letters.{signed}
use Rattle.vt_steps.specs.inside.Cells.{local_steps}
use Rattle.vt_steps.specs.inside.StandsFor.{StandForProcesses}
use Rattle.vt_steps.specs.promise.World.{Part, process_count, start_sends, start_events, opening_part}
use Rattle.vt_lp.specs.inside.Held.{AllWithinRun, process_memory, opening_process}
use Rattle.vt_outbox.specs.inside.Outbox.{HeldOutbox}
use Rattle.vt_kernel.specs.inside.Held.{StandsFor}
use Rattle.vt_pool.specs.inside.View.{Stock, number_at, processes_from}
use Rattle.vt_pool.specs.inside.Inside.{AreOwnStreams, IsStockInside, IsPoolInside}
use Rattle.vt_pool.specs.inside.Share.{HeldPool, with_pool, seen, PoolLeadsTo}
use Rattle.vt_pool.specs.inside.Opening.{StandsForOpening, IsLedFromOpening, IsStarted, AreStarted}

-- where a process stands
abbrev pub standing : {M S P K : Type 0} → Process M S P K → Triple S
standing q = triple_at q.state q.number q.stream

-- processes that stand there, and nothing else
abbrev pub stock_of : {S P K : Type 0} → List (Triple S) → Stock S P K
stock_of triples = record { triples = triples; past = []; pending = []; waiting = [] }

module _ {M S P K : Type 0} (handlers : Handlers S P K) (config : Config) (w : ℕ) where
  -- one process more
  pub started-more : (base : ℕ) (qs : List (Process M S P K)) (q : Process M S P K) → AreStarted handlers config w base qs → IsStarted handlers config (number_at config w (base + length qs)) q → AreStarted handlers config w base (qs ++ q ∷ [])
  started-more base [] q all is = let here : base + 0 ≡ base = omega arith in (subst (λ k. IsStarted handlers config (number_at config w k) q) here is, tt)
  started-more base (x ∷ xs) q all is =
      let here : base + length (x ∷ xs) ≡ (base + 1) + length xs = omega arith in
      (all.0, started-more (base + 1) xs q all.1 (subst (λ k. IsStarted handlers config (number_at config w k) q) here is))

  started-streams : (base : ℕ) (qs : List (Process M S P K)) → AreStarted handlers config w base qs → AreOwnStreams config w base (map (λ q. q.stream) qs)
  started-streams base [] all = tt
  started-streams base (q ∷ qs) all = (all.0.stream, started-streams (base + 1) qs all.1)

  started-few : (base : ℕ) (qs : List (Process M S P K)) → AreStarted handlers config w base qs → AllByRecursion (λ (triple : Triple S). triple.number ≤ MAX_COUNT) (map (λ q. standing q) qs)
  started-few base [] all = tt
  started-few base (q ∷ qs) all = (all.0.few, started-few (base + 1) qs all.1)

  started-stand : (all : List (Triple S)) (base : ℕ) (qs : List (Process M S P K)) → AreStarted handlers config w base qs
      → StandForProcesses (simulation_of handlers config) w base (map (process_memory handlers) (processes_from config w base (map (λ q. standing q) qs) (stock_of all))) (replicate (length qs) opening_process)
  started-stand all base [] s = tt
  started-stand all base (q ∷ qs) s = (record { past = refl; pending = refl; waiting = refl; leads = sym s.0.triple }, started-stand all (base + 1) qs s.1)

  -- what is kept of the processes fits
  module _ (qs : List (Process M S P K)) (started : AreStarted handlers config w 0 qs) (count : length qs ≡ process_count (simulation_of handlers config) w) where
    stock-inside : IsStockInside config w (stock_of {S = S} {P = P} {K = K} (map (λ q. standing q) qs))
    stock-inside = record {
      all_there = length-map qs (λ q. standing q) ∙ count;
      few_sends = started-few 0 qs started;
      own_pending = tt;
      own_waiting = tt;
      own_past = tt;
      pending_rises = tt;
      waiting_rises = tt;
      pasts_rise = tt;
      pending_stamps = tt;
      waiting_stamps = tt;
      past_stamps = tt;
      apart = tt;
    }

    -- and so do the fields of the pool
    pub opened-inside : (stock : Stock S P K) (outbox : HeldOutbox P) (serial : ℕ) (reached : Time) (heard : List ℕ) (kept : ℕ) → w < config.workers → stock ≡ stock_of (map (λ q. standing q) qs) → length heard ≡ config.workers
        → outbox.config ≡ config → AllWithinRun config outbox.letters → serial ≤ MAX_COUNT → IsPoolInside config w stock (map (λ q. q.stream) qs) outbox serial reached heard kept
    opened-inside stock outbox serial reached heard kept known is each by_worker within few =
        subst (λ (s : Stock S P K). IsPoolInside config w s (map (λ q. q.stream) qs) outbox serial reached heard kept) (sym is) (record {
          known = known;
          inside = stock-inside;
          own_streams = started-streams 0 qs started;
          reached_all = tt;
          heard_each = each;
          heard_pending = tt;
          heard_past = tt;
          enough = omega arith;
          sendable = within;
          by_worker = by_worker;
          few_made = few;
        })

    -- it stands for the part at the opening
    pub opened-stands : (pool : HeldPool S P K) → pool.worker ≡ w → pool.config ≡ config → pool.stock ≡ stock_of (map (λ q. standing q) qs)
        → pool.outbox ≡ map (signed Plus) (start_events (simulation_of handlers config) 0 w) → pool.serial ≡ length (start_sends (simulation_of handlers config) w) → StandsForOpening handlers config w pool
    opened-stands pool worker of is sent serial rest at =
        let there : HeldPool S P K = record { worker = w; config = config; stock = stock_of (map (λ q. standing q) qs); outbox = pool.outbox; serial = pool.serial; heard = pool.heard } in
        let same : there ≡ pool = λ j. record { worker = sym worker j; config = sym of j; stock = sym is j; outbox = pool.outbox; serial = pool.serial; heard = pool.heard } in
        subst (λ (v : HeldPool S P K). StandsFor handlers (seen (with_pool rest v)) (opening_part (simulation_of handlers config) 0 w)) same (record {
          processes = subst (λ n. StandForProcesses (simulation_of handlers config) w 0 (map (process_memory handlers) (processes_from config w 0 (map (λ q. standing q) qs) (stock_of (map (λ q. standing q) qs)))) (replicate n opening_process)) count
              (started-stand (map (λ q. standing q) qs) 0 qs started);
          outbox = sym sent;
          arrived = sym at.arrived;
          colour = sym at.colour;
          sent = sym at.sent;
          got = sym at.got;
          red_minimum = sym at.red_minimum;
          floor = sym at.floor;
          serial = (let none : 0 + length (start_sends (simulation_of handlers config) w) ≡ length (start_sends (simulation_of handlers config) w) = omega arith in none ∙ sym serial);
        })

-- where steps lead from the opening
pub led-opening : {S P K : Type 0} (handlers : Handlers S P K) (config : Config) (w : ℕ) (old new : HeldPool S P K) → new.worker ≡ old.worker → new.config ≡ old.config
    → StandsForOpening handlers config w old → PoolLeadsTo handlers old new → IsLedFromOpening handlers config w new
led-opening {S} {P} {K} handlers config w old new worker of stands leads rest at =
    let part : Part P = opening_part (simulation_of handlers config) 0 w in
    let l = (leads rest).steps part (stands rest at) in
    record {
      steps = l.steps;
      after = l.after;
      led = (λ j. local_steps (simulation_of handlers (of j)) (worker j) l.steps part) ∙ l.led;
      stands = l.stands;
    }
