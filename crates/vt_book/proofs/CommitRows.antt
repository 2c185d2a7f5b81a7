-- The rows that a worker hands in when it commits lie between its hand-in floor and its floor.
use Rattle.std.proofs.Common.{◌≡◌, ℕ, suc, ◌+◌, true, false, cond, List, [], ◌∷◌, take, refl, sym, ap, subst, arith, Some, slice_get}
use Rattle.std.specs.List.{prefix_len, AllByRecursion}
use Rattle.std.proofs.lemmas.Bool.Decides.{nat_tests}
use Rattle.vt_key.specs.promise.Times.{Time, TimeBefore, TimeAtMost}
use Rattle.vt_key.specs.promise.Keys.{Key}
use Rattle.vt_model.specs.declared.rows.Row.{Row}
use Rattle.vt_model.specs.declared.sending.Sent.{Sent}
use Rattle.vt_model.specs.promise.Rows.{AreRowsOf}
use Rattle.vt_model.specs.promise.Histories.{IsLawful}
use Rattle.vt_model.specs.promise.Simulation.{Simulation, Triple}
use Rattle.vt_steps.specs.declared.step.Step.{Step}
use Rattle.vt_steps.specs.promise.Rows.{rows_from}
use Rattle.vt_steps.specs.promise.World.{Entry, LogicalProcess, Part, entry_events, triple_after, process_at}
use Rattle.vt_steps.specs.promise.PartSteps.{is_below, ripe, ripe_rows, rows_of_commit}
use Rattle.vt_steps.specs.promise.Next.{reached}
use Rattle.vt_key.proofs.ListLemmas.{every-append, every-take, every-both, every-map}
use Rattle.vt_steps.proofs.book.BookRows.{AreNotBefore}
use Rattle.vt_steps.proofs.book.ReachedBooks.{reached-booked}
use Rattle.vt_steps.proofs.steps.CommitRows.{rows_of_processes}

-- a row's time is not before one time, and is before another
abbrev pub IsBetween : Time → Time → Row → Type 0
IsBetween from to row = TimeAtMost from row.key.time × TimeBefore row.key.time to

-- the event's time is
abbrev pub IsEventBetween : {P : Type 0} → Time → Time → Sent P → Type 0
IsEventBetween from to event = TimeAtMost from event.key.time × TimeBefore event.key.time to

-- rows of one event have its time
rows-between : (from to : Time) (key : Key) (n : ℕ) (rows : List Row) → TimeAtMost from key.time → TimeBefore key.time to → AreRowsOf key n rows → AllByRecursion (IsBetween from to) rows
rows-between from to key n [] low high h = tt
rows-between from to key n (row ∷ rows) low high h =
    let time : row.key.time ≡ key.time = ap (λ (k : Key). k.time) h.0 in
    ((subst (λ t. TimeAtMost from t) (sym time) low, subst (λ t. TimeBefore t to) (sym time) high), rows-between from to key (suc n) rows low high h.3)

-- the entries of the front are below the floor
front-below : {P : Type 0} (floor : Time) (entries : List (Entry P)) → AllByRecursion (λ (entry : Entry P). TimeBefore entry.event.rank.key.time floor) (take (prefix_len (is_below floor) entries) entries)
front-below floor [] = tt
front-below floor (entry ∷ entries) =
    elim (is_below floor entry) as (λ b. is_below floor entry ≡ b → AllByRecursion (λ (e : Entry _). TimeBefore e.event.rank.key.time floor) (take (cond b (1 + prefix_len (is_below floor) entries) 0) (entry ∷ entries))) [
      | true ↦ λ is.
          (let before : TimeBefore entry.event.rank.key.time floor = grind (arith, nat_tests) in
          subst (λ n. AllByRecursion (λ (e : Entry _). TimeBefore e.event.rank.key.time floor) (take n (entry ∷ entries)))
          (let z : suc (prefix_len (is_below floor) entries) ≡ 1 + prefix_len (is_below floor) entries = omega arith in z) (before, front-below floor entries))
      | false ↦ λ is. tt
    ] refl

module _ {S P : Type 0} (sim : Simulation S P) (lawful : IsLawful sim) (from to : Time) where
  -- the rows of events between two times
  events-between : (p : ℕ) (triple : Triple S) (events : List (Sent P)) → AllByRecursion (IsEventBetween from to) events → AllByRecursion (IsBetween from to) (rows_from sim p triple events)
  events-between p triple [] h = tt
  events-between p triple (event ∷ events) h =
      every-append (IsBetween from to) (sim.fire p triple event).rows (rows_from sim p (sim.fire p triple event).triple events)
      (rows-between from to event.key 0 (sim.fire p triple event).rows h.0.0 h.0.1 (lawful.rows p triple event))
      (events-between p (sim.fire p triple event).triple events h.1)

  -- the rows of a process that hands in up to a floor
  process-between : (p : ℕ) (process : LogicalProcess P) → AreNotBefore from process.past → AllByRecursion (IsBetween from to) (ripe_rows sim p to process)
  process-between p process late =
      events-between p (triple_after sim p process.done) (entry_events (ripe to process))
      (every-map _ (IsEventBetween from to) (ripe to process)
      (every-both (λ (e : Entry P). TimeAtMost from e.event.rank.key.time) (λ (e : Entry P). TimeBefore e.event.rank.key.time to)
      (λ (e : Entry P). TimeAtMost from e.event.rank.key.time × TimeBefore e.event.rank.key.time to) (ripe to process) (λ e a b. (a, b))
      (every-take (λ (e : Entry P). TimeAtMost from e.event.rank.key.time) (prefix_len (is_below to) process.past) process.past late)
      (front-below to process.past)))

  -- and of all processes of a worker
  processes-between : (w index : ℕ) (processes : List (LogicalProcess P)) → ((i : ℕ) (process : LogicalProcess P) → slice_get processes i ≡ Some process → AreNotBefore from process.past)
      → AllByRecursion (IsBetween from to) (rows_of_processes sim w to index processes)
  processes-between w index [] late = tt
  processes-between w index (process ∷ processes) late =
      every-append (IsBetween from to) (ripe_rows sim (process_at sim w index) to process) (rows_of_processes sim w to (index + 1) processes)
      (process-between (process_at sim w index) process (late 0 process refl))
      (processes-between w (index + 1) processes (λ i q at. late (suc i) q at))

-- in a reached world, the rows that a worker hands in are not before its hand-in floor, and before its floor
pub commit-between : {S P : Type 0} (sim : Simulation S P) (lawful : IsLawful sim) (serial : ℕ) (steps : List Step) (w : ℕ) (part : Part P) (handed_in : Time)
    → slice_get (reached sim serial steps).parts w ≡ Some part → slice_get (reached sim serial steps).book.floors w ≡ Some handed_in
    → AllByRecursion (IsBetween handed_in part.floor) (rows_of_commit sim w part)
unfolding rows_of_commit
commit-between sim lawful serial steps w part handed_in at floor =
    processes-between sim lawful handed_in part.floor w 0 part.processes ((reached-booked sim lawful serial steps).past_late w part at handed_in floor)
