-- The sequential run of a simulation: always the event of least key, of those that were sent and not yet executed. It
-- knows no rollback, letter, colour or count.
use Rattle.std.specs.Prelude.{ℕ, zero, suc, ◌+◌, ◌^◌, List, [], ◌∷◌, ◌++◌, Option, not, nat_eq, filter, find, map, flat_map, sum_by}
use Rattle.std.specs.List.{list_all, range_with_len}
use Rattle.std.specs.Option.{option_map_or}
use Rattle.vt_key.specs.promise.Times.{Time, time_before, time_left}
use Rattle.vt_key.specs.promise.Order.{key_before, key_same}
use Rattle.vt_model.specs.declared.limits.TheConstants.{MAX_SENDS}
use Rattle.vt_model.specs.declared.rows.Row.{Row}
use Rattle.vt_model.specs.declared.rows.Record.{Record}
use Rattle.vt_model.specs.declared.sending.Sent.{Sent}
use Rattle.vt_model.specs.promise.Simulation.{Simulation, Fired, after}

-- where a run is: the set of events that were sent and not executed, and the executed ones in their order
pub record RunState (P : Type 0) : Type 0 where
  pub pending : List (Sent P)
  pub executed : List (Sent P)

module _ {P : Type 0} where
  -- the event of least key: no other's is before it
  abbrev pub least_event : List (Sent P) → Option (Sent P)
  least_event es = find (λ e. list_all (λ d. not (key_before d.key e.key)) es) es

  -- the events that a process receives, in order
  abbrev pub events_of : ℕ → List (Sent P) → List (Sent P)
  events_of p es = filter (λ e. nat_eq e.dest p) es

  -- the events before a time
  abbrev pub events_before : Time → List (Sent P) → List (Sent P)
  events_before t es = filter (λ e. time_before e.key.time t) es

-- the rows before a time
abbrev pub rows_before : Time → List Row → List Row
rows_before t rows = filter (λ r. time_before r.key.time t) rows

-- the records of rows
abbrev pub records_of : List Row → List Record
records_of rows = map (λ r. r.rec) rows

module _ {S P : Type 0} (sim : Simulation S P) where
  -- what an event does at its receiver, after the receiver's events among these
  unfoldable pub fired_after : List (Sent P) → Sent P → Fired S P
  fired_after executed e = sim.fire e.dest (after sim e.dest (events_of e.dest executed)) e

  -- at first the sends of all starts are pending
  abbrev pub opening : RunState P
  opening = record { pending = flat_map (λ p. (sim.start p).sends) (range_with_len 0 sim.lps); executed = [] }

  -- an event is executed: it is taken out of the pending ones, and what it sends is put in
  abbrev pub with_event : RunState P → Sent P → RunState P
  with_event x e = record { pending = filter (λ d. not (key_same d.key e.key)) x.pending ++ (fired_after x.executed e).sends; executed = x.executed ++ e ∷ [] }

  -- one step executes the least event; where nothing is pending it changes nothing
  abbrev pub step : RunState P → RunState P
  step x = option_map_or (with_event x) (least_event x.pending) x

  -- the run after n steps
  abbrev pub after_steps : ℕ → RunState P
  after_steps zero = opening
  after_steps (suc n) = step (after_steps n)

  -- how much can still happen, by the time that each event has left: each step lowers it, since an event sends few others,
  -- and those later
  unfoldable pub weight : List (Sent P) → ℕ
  weight es = sum_by (λ e. (MAX_SENDS + 1) ^ time_left sim.end e.key.time) es

  -- the executed events of the whole run, in their order
  unfoldable pub whole_run : List (Sent P)
  whole_run = (after_steps (weight opening.pending)).executed

  -- the events of a process before a time, in the whole run
  abbrev pub seq_events : ℕ → Time → List (Sent P)
  seq_events p t = events_before t (events_of p whole_run)

  -- the rows of events, each after those before it
  abbrev pub rows_after : List (Sent P) → List (Sent P) → List Row
  rows_after done [] = []
  rows_after done (e ∷ es) = (fired_after done e).rows ++ rows_after (done ++ e ∷ []) es

  -- the rows of the whole run before a time
  abbrev pub seq_rows : Time → List Row
  seq_rows t = rows_before t (rows_after [] whole_run)

  -- the records of the whole run before a time
  abbrev pub seq_records : Time → List Record
  seq_records t = records_of (seq_rows t)

  -- the final value of each process, in rising order of processes
  abbrev pub seq_finals : List ℕ
  seq_finals = map (λ p. sim.finish p (after sim p (events_of p whole_run)).state) (range_with_len 0 sim.lps)
