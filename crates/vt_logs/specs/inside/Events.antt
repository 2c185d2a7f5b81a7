-- Executed events of a worker's processes that are not committed yet, and what contracts say of lists of them.
use Rattle.std.specs.Prelude.{ℕ, ◌+◌, Bool, ◌&&◌, not, List, [], ◌∷◌, Option, None, length, nat_eq, if◌then◌else◌}
use Rattle.std.specs.List.{filter, flat_map, last_or, list_any, sum_by}
use Rattle.vt_key.specs.promise.Lists.{IsRisingBy}
use Rattle.vt_key.specs.promise.Times.{Time, TimeAtMost, time_before}
use Rattle.vt_key.specs.promise.Order.{stamp_same}
use Rattle.vt_key.specs.declared.order.Stamp.{Stamp}
use Rattle.vt_model.specs.declared.rows.Record.{Record}
use Rattle.vt_model.specs.declared.rows.Row.{Row}
use Rattle.vt_model.specs.declared.sending.Sent.{Sent}
use Rattle.vt_model.specs.promise.Simulation.{rows_of}
use Rattle.vt_logs.specs.declared.entry.Entry.{Entry}

-- an executed event: the index of its process among the worker's, its entry, what it sent, and its records
pub record Logged (P K : Type 0) : Type 0 where
  pub process : ℕ
  pub entry : Entry P K
  pub sends : List (Sent P)
  pub records : List Record

-- what a contract sees of a log: the events in the order of their execution, the number of processes, and whether there is room
-- for one event more
pub record HeldLog (P K : Type 0) : Type 0 where
  pub events : List (Logged P K)
  pub processes : ℕ
  pub has_room : Bool

module _ {P K : Type 0} where
  -- the time of an event
  abbrev pub time_of : Logged P K → Time
  time_of e = e.entry.event.rank.key.time

  -- whether an event is before a floor
  abbrev pub is_below : Time → Logged P K → Bool
  is_below floor e = time_before (time_of e) floor

  -- whether it isn't
  abbrev pub is_above : Time → Logged P K → Bool
  is_above floor e = not (is_below floor e)

  -- whether the event is one of a process
  abbrev pub is_of : ℕ → Logged P K → Bool
  is_of p e = nat_eq e.process p

  -- whether the event has a stamp
  abbrev pub is_stamped : Stamp → Logged P K → Bool
  is_stamped stamp e = stamp_same e.entry.event.rank.stamp stamp

  -- the events of a process, in the order of their execution
  abbrev pub events_of : ℕ → List (Logged P K) → List (Logged P K)
  events_of p es = filter (is_of p) es

  -- the last event of a process
  abbrev pub last_of : ℕ → List (Logged P K) → Option (Logged P K)
  last_of p es = last_or None (events_of p es)

  -- the events without the last one of a process; all of them where it has none
  abbrev pub without_last : ℕ → List (Logged P K) → List (Logged P K)
  without_last p [] = []
  without_last p (e ∷ es) = if is_of p e && not (list_any (is_of p) es) then es else e ∷ without_last p es

  -- the rows of an event
  abbrev pub event_rows : Logged P K → List Row
  event_rows e = rows_of e.entry.event.rank.key e.records

  -- the rows of the events before a floor
  abbrev pub rows_below : Time → List (Logged P K) → List Row
  rows_below floor es = flat_map event_rows (filter (is_below floor) es)

  -- how many nodes the undo of an event takes: one for the event, and one for each anti-message
  abbrev pub nodes_of : Logged P K → ℕ
  nodes_of e = 1 + length e.sends

  -- how many the undo of all takes
  abbrev pub all_nodes : List (Logged P K) → ℕ
  all_nodes es = sum_by nodes_of es

  -- the times of the events of each process rise
  abbrev pub AreInOrder : List (Logged P K) → Type 0
  AreInOrder es = (p : ℕ) → IsRisingBy (λ d e. TimeAtMost (time_of d) (time_of e)) (events_of p es)
