-- The book shows the sequential run's rows below its floor: both lists are in order, and whatever each row weighs they weigh the
-- same, since each process's committed events below the floor are the sequential run's.
use Rattle.std.proofs.Common.{◌≡◌, ℕ, ◌<◌, [], sym, subst, ◌∙◌, ap, arith, Some, slice_get}
use Rattle.std.specs.List.{sum_by, range_with_len}
use Rattle.std.proofs.lemmas.List.{map-append}
use Rattle.std.proofs.lemmas.Option.{slice_get_within}
use Rattle.vt_key.specs.inside.Order.{RankBefore}
use Rattle.vt_key.specs.promise.Times.{Time, TimeAtMost, opening_time}
use Rattle.vt_key.specs.promise.Lists.{IsRisingBy}
use Rattle.vt_model.specs.declared.rows.Row.{Row}
use Rattle.vt_model.specs.declared.sending.Sent.{Sent}
use Rattle.vt_model.specs.promise.Simulation.{Simulation}
use Rattle.vt_model.specs.promise.Histories.{IsLawful}
use Rattle.vt_model.specs.promise.Sequential.{events_before, events_of, records_of, rows_after, rows_before, seq_events, seq_rows, whole_run}
use Rattle.vt_model.specs.promise.Rows.{RowBefore}
use Rattle.vt_model.proofs.EndLemmas.{whole_is_history}
use Rattle.vt_steps.specs.promise.Claims.{AreFloorsRight, AreRecordsRight, IsProcess}
use Rattle.vt_steps.specs.inside.Claims.{AreHistoriesRight}
use Rattle.vt_steps.specs.promise.Letters.{unstamped}
use Rattle.vt_steps.specs.promise.Rows.{rows_from, rows_in_order}
use Rattle.vt_steps.specs.inside.Rows.{AreSameRows}
use Rattle.vt_steps.specs.promise.World.{Entry, LogicalProcess, Part, World, book_floor, book_rows, entry_events, least, process_at}
use Rattle.vt_steps.proofs.time.Announced.{announced-least}
use Rattle.vt_steps.proofs.book.BookRows.{AreNotBefore, IsBooked, part_rows, process_rows}
use Rattle.vt_steps.proofs.letters.Entries.{process-at_index}
use Rattle.vt_steps.proofs.letters.EventTimes.{AreEventsLate, early-front, ranks-times, rising-times}
use Rattle.vt_steps.proofs.time.Floors.{AreTimesSound, floor-announced, floor-at}
use Rattle.vt_key.proofs.ListLemmas.{every-map, every-weaker, rising-left}
use Rattle.vt_steps.proofs.lists.Indices.{get-within}
use Rattle.vt_steps.proofs.letters.ProcessSums.{over_indices, over_processes, sum_by_index-range, whole-rows-by-process}
use Rattle.vt_steps.proofs.history.QuietHistories.{DoAllRanksRise}
use Rattle.vt_steps.proofs.book.RowOrder.{in-order, rising-in-order, same-list, same-sums-in-order}
use Rattle.vt_steps.proofs.book.SequentialRows.{early_weight, early-rows, seq_rows-rise, sum_by-before}
use Rattle.vt_steps.proofs.steps.Shape.{part-within, process-known}

-- what is known of a world whose book is looked at
pub record IsAccounted {S P : Type 0} (sim : Simulation S P) (world : World P) : Type 0 where
  pub times : AreTimesSound sim world
  pub booked : IsBooked sim world
  pub ranks : DoAllRanksRise sim world
  pub histories : AreHistoriesRight sim world

module _ {S P : Type 0} (sim : Simulation S P) (lawful : IsLawful sim) (world : World P) (known : IsAccounted sim world) where
  -- the floor is at most the announced time, and that at most the least time
  pub floors-right : AreFloorsRight sim world
  floors-right = record { floor = floor-announced sim lawful world known.times; announced = announced-least sim world known.times.at }

  -- what the rows before a time weigh that process p has in the sequential run
  abbrev pub run_rows : (Row → ℕ) → Time → ℕ → ℕ
  run_rows f t p = sum_by (early_weight f t) (rows_from sim p (sim.start p).triple (events_of p (whole_run sim)))

  -- the events of the sequential run before a time decide it
  pub run_rows-before : (f : Row → ℕ) (t : Time) (p : ℕ) → p < sim.lps → run_rows f t p ≡ sum_by (early_weight f t) (rows_from sim p (sim.start p).triple (seq_events sim p t))
  run_rows-before f t p less =
      early-rows sim lawful f t p (sim.start p).triple (events_of p (whole_run sim)) (rising-times (events_of p (whole_run sim)) ((whole_is_history sim lawful t).rising p less))

  -- the committed events of a process before a time that is quiet and that no past event is before are those of the sequential run
  committed-sequential : (t : Time) (p : ℕ) (process : LogicalProcess P) → p < sim.lps → TimeAtMost t (least sim.end world) → IsProcess sim world p process → AreNotBefore t process.past →
      events_before t (entry_events process.done) ≡ seq_events sim p t
  committed-sequential t p process less quiet is late =
      let past_late : AreEventsLate t (entry_events process.past) = every-map (λ (e : Entry P). unstamped e.event) (λ (d : Sent P). TimeAtMost t d.key.time) process.past late in
      sym (early-front t (entry_events process.done) (entry_events process.past) past_late)
      ∙ sym (ap (events_before t) (map-append (λ (e : Entry P). unstamped e.event) process.done process.past))
      ∙ known.histories t p process less quiet is

  -- what the book's rows below the floor weigh, of the process at an index
  index-weight : (f : Row → ℕ) (w index : ℕ) (part : Part P) (process : LogicalProcess P) → slice_get world.parts w ≡ Some part → slice_get part.processes index ≡ Some process →
      process_rows sim (early_weight f (book_floor sim.end world.book)) w index process ≡ run_rows f (book_floor sim.end world.book) (process_at sim w index)
  index-weight f w index part process at there =
      let t = book_floor sim.end world.book in
      let p = process_at sim w index in
      let shape = (known.times.at opening_time).shape in
      let less = process-known sim world shape w index part process at there in
      let is = process-at_index sim world w index part process (part-within sim world shape w part at) at there in
      let floor = get-within world.book.floors w (let a = slice_get_within world.parts w part at in let b = known.times.floors.size in omega arith) in
      let low = floor-at sim.end world.book.floors w floor.0 floor.1 in
      let late = every-weaker (λ (e : Entry P). TimeAtMost floor.0 e.event.rank.key.time) (λ (e : Entry P). TimeAtMost t e.event.rank.key.time) process.past (λ e k. omega arith)
      (known.booked.past_late w part at floor.0 floor.1 index process there) in
      let a = floors-right.floor in
      let b = floors-right.announced in
      let same = committed-sequential t p process less (omega arith) is late in
      let rise = ranks-times process.done (rising-left (λ (x y : Entry P). RankBefore x.event.rank y.event.rank) process.done process.past (known.ranks p process is)) in
      early-rows sim lawful f t p (sim.start p).triple (entry_events process.done) rise
      ∙ ap (λ l. sum_by (early_weight f t) (rows_from sim p (sim.start p).triple l)) same
      ∙ sym (run_rows-before f t p less)

  -- of a part
  part-weight : (f : Row → ℕ) (w : ℕ) (part : Part P) → slice_get world.parts w ≡ Some part →
      part_rows sim (early_weight f (book_floor sim.end world.book)) w part ≡ over_indices sim (run_rows f (book_floor sim.end world.book)) w
  part-weight f w part at =
      let t = book_floor sim.end world.book in
      sum_by_index-range (process_rows sim (early_weight f t) w) (λ index. run_rows f t (process_at sim w index)) part.processes (λ index process there. index-weight f w index part process at there)
      ∙ ap (λ n. sum_by (λ index. run_rows f t (process_at sim w index)) (range_with_len 0 n)) ((known.times.at opening_time).shape.processes w part at)

  -- the book's rows below its floor weigh what the sequential run's rows below it weigh
  same-sums : AreSameRows (rows_before (book_floor sim.end world.book) world.book.rows) (seq_rows sim (book_floor sim.end world.book))
  same-sums f =
      let t = book_floor sim.end world.book in
      let g = early_weight f t in
      let book : sum_by g world.book.rows ≡ over_processes sim (run_rows f t) =
      known.booked.rows g
      ∙ sum_by_index-range (part_rows sim g) (over_indices sim (run_rows f t)) world.parts (λ w part at. part-weight f w part at)
      ∙ ap (λ n. sum_by (over_indices sim (run_rows f t)) (range_with_len 0 n)) (known.times.at opening_time).shape.parts in
      sum_by-before f t world.book.rows ∙ book ∙ sym (whole-rows-by-process sim lawful g) ∙ sym (sum_by-before f t (rows_after sim [] (whole_run sim)))

  -- so it shows exactly those rows
  pub book-rows : book_rows sim.end world.book ≡ seq_rows sim (book_floor sim.end world.book)
  book-rows =
      let t = book_floor sim.end world.book in
      let rows = rows_before t world.book.rows in
      same-list (rows_in_order rows) (seq_rows sim t) (in-order rows) (rising-in-order (seq_rows sim t) (seq_rows-rise sim lawful t)) (λ f. same-sums-in-order rows f ∙ same-sums f)

  -- and their records
  pub records-right : AreRecordsRight sim world
  records-right = record {
    rows = book-rows;
    once = subst (IsRisingBy RowBefore) (sym book-rows) (seq_rows-rise sim lawful (book_floor sim.end world.book));
    records = ap records_of book-rows;
  }
