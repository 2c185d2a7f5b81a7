-- What a handler asks for, and what becomes of it.
use Rattle.std.specs.Prelude.{ℕ, ◌+◌, List, map, filter}
use Rattle.std.specs.List.{enumerate_from}
use Rattle.vt_key.specs.promise.Times.{Time, at, ticks_of, priority_of, time_before}
use Rattle.vt_model.specs.declared.sending.Sent.{Sent}
use Rattle.vt_model.specs.declared.rows.Record.{Record}

-- a send as a handler asks for it
pub record SendRequest (P : Type 0) : Type 0 where
  pub dest : ℕ
  pub delay : ℕ
  pub priority : ℕ
  pub payload : P

-- a record as a handler asks for it
pub record RecordRequest : Type 0 where
  pub kind : ℕ
  pub value : ℕ

-- when a send is received: so many ticks after the tick of its handler, with its own priority
abbrev pub receive_time : {P : Type 0} → Time → SendRequest P → Time
receive_time now request = at (ticks_of now + request.delay) request.priority

-- the event of a request with its send number
abbrev pub sent_event : {P : Type 0} → ℕ → Time → ℕ × SendRequest P → Sent P
sent_event lp now q = record { key = record { time = receive_time now q.1; source = lp; number = q.0 }; dest = q.1.dest; payload = q.1.payload }

-- the events of these requests: each request takes the next send number, and those at or past the end are left out
unfoldable pub sent_events : {P : Type 0} → Time → ℕ → Time → ℕ → List (SendRequest P) → List (Sent P)
sent_events end lp now number requests =
    map (sent_event lp now) (filter (λ q. time_before (receive_time now q.1) end) (enumerate_from number requests))

-- the records of these requests
unfoldable pub requested_records : ℕ → Time → List RecordRequest → List Record
requested_records lp now requests = map (λ r. record { time = ticks_of now; priority = priority_of now; lp = lp; kind = r.kind; value = r.value }) requests
