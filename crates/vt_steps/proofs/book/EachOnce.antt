-- Each key and index stands once among the book's rows, those that it doesn't show yet too: all committed events are before the
-- announced time, and below that each process has the sequential run's, whose rows rise strictly.
use Rattle.std.proofs.Common.{◌≡◌, inl, inr, ℕ, ◌≤◌, true, false, ◌&&◌, List, [], ◌∷◌, ◌++◌, nat_eq, refl, sym, subst, ◌∙◌, ap, arith, Some, slice_get}
use Rattle.std.specs.List.{sum_by, range_with_len, AllByRecursion}
use Rattle.std.proofs.lemmas.Bool.{cases_order, eq-eqb, eqb-true, cases_Bool, and_parts, and_from}
use Rattle.std.proofs.lemmas.List.{map-append}
use Rattle.std.proofs.lemmas.List.Elements.{filter-append}
use Rattle.std.proofs.lemmas.List.Sums.{sum_by-cons, sum_by-append}
use Rattle.vt_key.specs.promise.Order.{KeyBefore, key_same}
use Rattle.vt_key.specs.promise.Times.{TimeBefore, opening_time, time_before}
use Rattle.vt_key.specs.promise.Keys.{Key}
use Rattle.vt_key.specs.promise.Lists.{IsRisingBy}
use Rattle.vt_key.proofs.OrderLemmas.{key-irreflexive, key-total, key_same-true, same-key_same}
use Rattle.vt_model.specs.declared.rows.Row.{Row}
use Rattle.vt_model.specs.declared.sending.Sent.{Sent}
use Rattle.vt_model.specs.promise.Histories.{IsLawful}
use Rattle.vt_model.specs.promise.Rows.{RowBefore}
use Rattle.vt_model.specs.promise.Sequential.{events_before, rows_after, seq_events, seq_rows, whole_run}
use Rattle.vt_model.specs.promise.Simulation.{Simulation}
use Rattle.vt_model.proofs.RunLemmas.{after_from}
use Rattle.vt_steps.specs.declared.step.Step.{Step}
use Rattle.vt_steps.specs.inside.Copies.{as_count}
use Rattle.vt_steps.specs.promise.Letters.{unstamped}
use Rattle.vt_steps.specs.promise.Next.{reached}
use Rattle.vt_steps.specs.promise.Rows.{row_before, rows_from, rows_in_order}
use Rattle.vt_steps.specs.inside.Rows.{NoneBefore}
use Rattle.vt_steps.specs.promise.World.{Entry, LogicalProcess, Part, World, entry_events, process_at}
use Rattle.vt_steps.proofs.book.BookRows.{committed_rows, part_rows, process_rows, rows_from-append}
use Rattle.vt_steps.proofs.letters.Entries.{process-at_index}
use Rattle.vt_steps.proofs.letters.EventTimes.{early-events}
use Rattle.vt_key.proofs.ListLemmas.{every-map, every-weaker}
use Rattle.vt_steps.proofs.letters.ProcessSums.{over_indices, sum_by_index-bound, whole-rows-by-process}
use Rattle.vt_steps.proofs.letters.Ranks.{reached-committed}
use Rattle.vt_steps.proofs.book.ReachedBooks.{reached-accounted}
use Rattle.vt_steps.proofs.book.Records.{IsAccounted, floors-right, run_rows, run_rows-before}
use Rattle.vt_steps.proofs.book.RowOrder.{AreInOrder, before-row_before, in-order, same-sums-in-order}
use Rattle.vt_steps.proofs.book.SequentialRows.{all-early-rows, early_weight, seq_rows-rise, sum_by-before}
use Rattle.vt_steps.proofs.steps.Shape.{part-within, process-known}

-- ---- counting rows of one key and index

-- 1 for a row of this key and index
abbrev is_row : Key → ℕ → Row → ℕ
is_row key index row = as_count (key_same row.key key && nat_eq row.index index)

-- a row that is after another has another key or index
not-again : (a b : Row) → RowBefore a b → is_row a.key a.index b ≡ 0
not-again a b h = elim (cases_Bool (key_same b.key a.key && nat_eq b.index a.index)) [
  | inr is ↦ ap as_count is
  | inl is ↦
      let both = and_parts (key_same b.key a.key) (nat_eq b.index a.index) is in
      let key = key_same-true b.key a.key both.0 in
      let index = eqb-true b.index a.index both.1 in
      absurd (elim h [ inl k ↦ key-irreflexive a.key (subst (KeyBefore a.key) key k) | inr k ↦ (let less = k.1 in omega arith) ])
]

-- among rows after a row its key and index don't stand
none-again : (row : Row) (rows : List Row) → AllByRecursion (RowBefore row) rows → sum_by (is_row row.key row.index) rows ≡ 0
none-again row [] h = refl
none-again row (r ∷ rs) h =
    let a = sum_by-cons (is_row row.key row.index) r rs in
    let b = not-again row r h.0 in
    let ih = none-again row rs h.1 in
    omega arith

-- among rising rows each key and index stands at most once
rising-once : (key : Key) (index : ℕ) (rows : List Row) → IsRisingBy RowBefore rows → sum_by (is_row key index) rows ≤ 1
rising-once key index [] h = omega arith
rising-once key index (r ∷ rs) h =
    let a = sum_by-cons (is_row key index) r rs in
    elim (cases_Bool (key_same r.key key && nat_eq r.index index)) [
      | inl is ↦
          let both = and_parts (key_same r.key key) (nat_eq r.index index) is in
          let same : sum_by (is_row r.key r.index) rs ≡ sum_by (is_row key index) rs = λ i. sum_by (is_row (key_same-true r.key key both.0 i) (eqb-true r.index index both.1 i)) rs in
          let none : sum_by (is_row key index) rs ≡ 0 = sym same ∙ none-again r rs h.0 in
          let one : is_row key index r ≡ 1 = ap as_count is in
          omega arith
      | inr is ↦ (let none : is_row key index r ≡ 0 = ap as_count is in let ih = rising-once key index rs h.1 in omega arith)
    ]

-- a row that is not before another, and has another key or index, is after it
row-after : (a b : Row) → row_before b a ≡ false → is_row a.key a.index b ≡ 0 → RowBefore a b
row-after a b h none = elim (key-total a.key b.key) [
  | inl before ↦ inl before
  | inr k ↦ elim k [
    | inr later ↦ absurd (let e : true ≡ false = sym (before-row_before b a (inl later)) ∙ h in cc)
    | inl key ↦ elim (cases_order a.index b.index) [
      | inl index ↦
          absurd (let is : (key_same b.key a.key && nat_eq b.index a.index) ≡ true = and_from (key_same b.key a.key) (nat_eq b.index a.index)
          (subst (λ x. key_same x a.key ≡ true) key (same-key_same a.key)) (eq-eqb b.index a.index (sym index)) in
          let one = ap as_count is in omega arith)
      | inr n ↦ elim n [
        | inl less ↦ inr (key, less)
        | inr more ↦ absurd (let e : true ≡ false = sym (before-row_before b a (inr (sym key, more))) ∙ h in cc)
      ]
    ]
  ]
]

-- rows in order among which each key and index stands at most once rise strictly
once-rising : (rows : List Row) → AreInOrder rows → ((key : Key) (index : ℕ) → sum_by (is_row key index) rows ≤ 1) → IsRisingBy RowBefore rows
once-rising [] h once = tt
once-rising (r ∷ rs) h once = (after rs h.0 none, once-rising rs h.1 fewer)
  where
    none : sum_by (is_row r.key r.index) rs ≡ 0
    none =
        let a = sum_by-cons (is_row r.key r.index) r rs in
        let b : is_row r.key r.index r ≡ 1 = ap as_count (and_from (key_same r.key r.key) (nat_eq r.index r.index) (same-key_same r.key) (eq-eqb r.index r.index refl)) in
        let c = once r.key r.index in
        omega arith

    fewer : (key : Key) (index : ℕ) → sum_by (is_row key index) rs ≤ 1
    fewer key index = let a = sum_by-cons (is_row key index) r rs in let b = once key index in omega arith

    after : (qs : List Row) → NoneBefore r qs → sum_by (is_row r.key r.index) qs ≡ 0 → AllByRecursion (RowBefore r) qs
    after [] n k = tt
    after (q ∷ qs) n k = let a = sum_by-cons (is_row r.key r.index) q qs in (row-after r q n.0 (omega arith), after qs n.1 (omega arith))

-- ---- the rows of a book weigh at most what the sequential run's before the announced time do

module _ {S P : Type 0} (sim : Simulation S P) (lawful : IsLawful sim) (world : World P) (known : IsAccounted sim world)
    (committed : (w index : ℕ) (part : Part P) (process : LogicalProcess P) → slice_get world.parts w ≡ Some part → slice_get part.processes index ≡ Some process →
    AllByRecursion (λ (e : Entry P). TimeBefore e.event.rank.key.time world.board.announced) process.done) (f : Row → ℕ) where
  -- of the process at an index
  index-bound : (w index : ℕ) (part : Part P) (process : LogicalProcess P) → slice_get world.parts w ≡ Some part → slice_get part.processes index ≡ Some process →
      process_rows sim f w index process ≤ run_rows sim lawful world known f world.board.announced (process_at sim w index)
  index-bound w index part process at there =
      let t = world.board.announced in
      let p = process_at sim w index in
      let shape = (known.times.at opening_time).shape in
      let less = process-known sim world shape w index part process at there in
      let is = process-at_index sim world w index part process (part-within sim world shape w part at) at there in
      let soon : AllByRecursion (λ (e : Sent P). TimeBefore e.key.time t) (entry_events process.done) =
      every-map (λ (e : Entry P). unstamped e.event) (λ (e : Sent P). TimeBefore e.key.time t) process.done (committed w index part process at there) in
      let rest = events_before t (entry_events process.past) in
      let whole : seq_events sim p t ≡ entry_events process.done ++ rest =
      sym (known.histories t p process less (floors-right sim lawful world known).announced is)
      ∙ ap (events_before t) (map-append (λ (e : Entry P). unstamped e.event) process.done process.past)
      ∙ filter-append (λ (e : Sent P). time_before e.key.time t) (entry_events process.done) (entry_events process.past)
      ∙ ap (λ l. l ++ rest) (early-events t (entry_events process.done) soon) in
      let start = (sim.start p).triple in
      let a = run_rows-before sim lawful world known f t p less in
      let b = ap (λ l. sum_by (early_weight f t) (rows_from sim p start l)) whole in
      let c = ap (sum_by (early_weight f t)) (rows_from-append sim p start (entry_events process.done) rest) in
      let d = sum_by-append (early_weight f t) (committed_rows sim p process.done) (rows_from sim p (after_from sim p start (entry_events process.done)) rest) in
      let e = all-early-rows sim lawful f t p start (entry_events process.done) soon in
      omega arith

  -- of a part
  part-bound : (w : ℕ) (part : Part P) → slice_get world.parts w ≡ Some part → part_rows sim f w part ≤ over_indices sim (run_rows sim lawful world known f world.board.announced) w
  part-bound w part at =
      let h = run_rows sim lawful world known f world.board.announced in
      let a = sum_by_index-bound (process_rows sim f w) (λ index. h (process_at sim w index)) part.processes (λ index process there. index-bound w index part process at there) in
      let b = ap (λ n. sum_by (λ index. h (process_at sim w index)) (range_with_len 0 n)) ((known.times.at opening_time).shape.processes w part at) in
      omega arith

  -- of the book
  book-bound : sum_by f world.book.rows ≤ sum_by f (seq_rows sim world.board.announced)
  book-bound =
      let t = world.board.announced in
      let h = run_rows sim lawful world known f t in
      let a = known.booked.rows f in
      let b = sum_by_index-bound (part_rows sim f) (over_indices sim h) world.parts (λ w part at. part-bound w part at) in
      let c = ap (λ n. sum_by (over_indices sim h) (range_with_len 0 n)) (known.times.at opening_time).shape.parts in
      let d = whole-rows-by-process sim lawful (early_weight f t) in
      let e = sum_by-before f t (rows_after sim [] (whole_run sim)) in
      omega arith

-- ---- reached worlds

module _ {S P : Type 0} (sim : Simulation S P) (lawful : IsLawful sim) (serial : ℕ) (steps : List Step) where
  -- all committed events are before the announced time
  committed-before : (w index : ℕ) (part : Part P) (process : LogicalProcess P) → slice_get (reached sim serial steps).parts w ≡ Some part → slice_get part.processes index ≡ Some process →
      AllByRecursion (λ (e : Entry P). TimeBefore e.event.rank.key.time (reached sim serial steps).board.announced) process.done
  committed-before w index part process at there =
      let low = (reached-accounted sim lawful serial steps).times.floors.announced w part at in
      every-weaker (λ (e : Entry P). TimeBefore e.event.rank.key.time part.floor) (λ (e : Entry P). TimeBefore e.event.rank.key.time (reached sim serial steps).board.announced) process.done
      (λ e k. omega arith) (reached-committed sim lawful serial steps w index part process at there)

  -- so all rows of the book, put in order, rise strictly by key and index
  pub book-once : IsRisingBy RowBefore (rows_in_order (reached sim serial steps).book.rows)
  book-once =
      let world = reached sim serial steps in
      let rows = world.book.rows in
      once-rising (rows_in_order rows) (in-order rows) (λ key index.
      let a = same-sums-in-order rows (is_row key index) in
      let b = book-bound sim lawful world (reached-accounted sim lawful serial steps) committed-before (is_row key index) in
      let c = rising-once key index (seq_rows sim world.board.announced) (seq_rows-rise sim lawful world.board.announced) in
      omega arith)
