-- What the sequential simulator's fields stand for: a state of the sequential run.
use Rattle.std.specs.Prelude.{◌≡◌, ℕ, ◌<◌, List, ◌++◌, drop, slice_index_or}
use Rattle.vt_key.specs.promise.Lists.{Among}
use Rattle.vt_model.specs.declared.process.Process.{Process}
use Rattle.vt_model.specs.declared.rows.Record.{Record}
use Rattle.vt_model.specs.declared.sending.Sent.{Sent}
use Rattle.vt_stream.specs.inside.Words.{Stream}
use Rattle.vt_model.specs.promise.Simulation.{Simulation, Fired, after}
use Rattle.vt_model.specs.promise.Sequential.{RunState, after_steps, events_of, records_of}
use Rattle.vt_model.specs.inside.Histories.{IsRising}
use Rattle.vt_model.specs.inside.Process.{triple_at}
use Rattle.vt_seq.specs.inside.Queue.{all_inserted}

-- the first pending event was executed: the process stands where that leads, what it sent has joined the pending events,
-- and its records the others
pub record HasExecuted {S P : Type 0} (f : Fired S P) (before : List (Sent P)) (recorded : List Record)
    (s : S) (n : ℕ) (w : Stream) (new_pending : List (Sent P)) (new_records : List Record) : Type 0 where
  pub triple : triple_at s n w ≡ f.triple
  pub pending : new_pending ≡ all_inserted f.sends (drop 1 before)
  pub records : new_records ≡ recorded ++ records_of f.rows

-- a process was started: it stands where its start leads, and what it sent has joined the pending events
pub record HasStarted {S P : Type 0} (f : Fired S P) (before : List (Sent P))
    (s : S) (n : ℕ) (w : Stream) (new_pending : List (Sent P)) : Type 0 where
  pub triple : triple_at s n w ≡ f.triple
  pub pending : new_pending ≡ all_inserted f.sends before

module _ {M S P K : Type 0} (sim : Simulation S P) where
  -- the fields stand for this state of the run: its pending events in rising order of keys, and each process where its
  -- executed events lead
  pub record StandsFor (x : RunState P) (pending : List (Sent P)) (processes : List (Process M S P K)) : Type 0 where
    pub rising : IsRising pending
    pub sent : (e : Sent P) → Among e pending → Among e x.pending
    pub had : (e : Sent P) → Among e x.pending → Among e pending
    pub triples : (p : ℕ) (d : Process M S P K) → p < sim.lps → triple_at (slice_index_or processes p d).state (slice_index_or processes p d).number (slice_index_or processes p d).stream ≡ after sim p (events_of p x.executed)

  -- the fields stand for the run after n steps
  abbrev pub StandsAt : ℕ → List (Sent P) → List (Process M S P K) → Type 0
  StandsAt n pending processes = StandsFor (after_steps sim n) pending processes
