-- What a model and a config mean: a start for each process, and what each event does.
use Rattle.std.specs.Prelude.{ℕ, ◌+◌, ◌%◌, ◌^◌, List, [], length, map}
use Rattle.std.specs.List.{enumerate_from, fold}
use Rattle.vt_key.specs.promise.Times.{Time}
use Rattle.vt_key.specs.promise.Keys.{Key}
use Rattle.vt_model.specs.declared.rows.Record.{Record}
use Rattle.vt_model.specs.declared.rows.Row.{Row}
use Rattle.vt_model.specs.declared.sending.Sent.{Sent}
use Rattle.vt_model.specs.declared.settings.Config.{Config}
use Rattle.vt_stream.specs.promise.Words.{seed_key, word}
use Rattle.vt_model.specs.promise.Sends.{sent_events, requested_records}
use Rattle.vt_model.specs.promise.Handler.{Handlers, StartResult, ForwardResult}
use Rattle.vt_model.specs.promise.Settings.{end_of}

-- where a process stands: its state, its next send number, and the position of its next random word
pub record Triple (S : Type 0) : Type 0 where
  pub state : S
  pub number : ℕ
  pub place : ℕ

-- what a start or an event gives: where the process stands then, the sends below the end, and the rows
pub record Fired (S P : Type 0) : Type 0 where
  pub triple : Triple S
  pub sends : List (Sent P)
  pub rows : List Row

-- a simulation: its numbers, the start of each process, what an event does at a process that stands somewhere, and the
-- final value of a process. The steps and their world know a model as this record alone
pub record Simulation (S P : Type 0) : Type 0 where
  pub lps : ℕ
  pub workers : ℕ
  pub end : Time
  pub start : ℕ → Fired S P
  pub fire : ℕ → Triple S → Sent P → Fired S P
  pub finish : ℕ → S → ℕ

-- the words of a process from a position on
abbrev pub words_at : ℕ → ℕ → ℕ → ℕ → ℕ
words_at seed process place i = word (seed_key seed) process (place + i)

-- the rows of an event's records
unfoldable pub rows_of : Key → List Record → List Row
rows_of key records = map (λ q. record { key = key; index = q.0; rec = q.1 }) (enumerate_from 0 records)

module _ {S P : Type 0} where
  -- the start of a process, by what its handler gives
  unfoldable pub start_of : Time → ℕ → StartResult S P → Fired S P
  start_of end p started = record {
    triple = record { state = started.state; number = length started.send_requests; place = started.drawn };
    sends = sent_events end p 0 0 started.send_requests;
    rows = [];
  }

  -- an event at a process, by what its handler gives
  unfoldable pub fire_of : {K : Type 0} → Time → ℕ → Triple S → Sent P → ForwardResult S P K → Fired S P
  fire_of end p t e forwarded = record {
    triple = record { state = forwarded.state; number = t.number + length forwarded.send_requests; place = (t.place + forwarded.drawn) % 2 ^ 64 };
    sends = sent_events end p e.key.time t.number forwarded.send_requests;
    rows = rows_of e.key (requested_records p e.key.time forwarded.record_requests);
  }

  -- the simulation of a model's handlers and a config
  abbrev pub simulation_of : {K : Type 0} → Handlers S P K → Config → Simulation S P
  simulation_of handlers c = record {
    lps = c.lps;
    workers = c.workers;
    end = (end_of c);
    start = λ p. start_of (end_of c) p (handlers.start c.lps p (words_at c.seed p 0));
    fire = λ p t e. fire_of (end_of c) p t e (handlers.forward c.lps p e.key.time e.payload t.state (words_at c.seed p t.place));
    finish = handlers.finish;
  }

  -- where a process stands after its start and these events
  abbrev pub after : Simulation S P → ℕ → List (Sent P) → Triple S
  after sim p es = fold (λ t e. (sim.fire p t e).triple) (sim.start p).triple es
