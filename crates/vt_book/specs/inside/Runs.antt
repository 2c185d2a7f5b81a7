-- Runs of rows in rising order, the first rows of which may be shown.
use Rattle.std.specs.Prelude.{◌≡◌, Bool, false, ◌<◌, ◌++◌, List, [], ◌∷◌, drop, length, Option, Some, None, slice_get}
use Rattle.std.specs.BinaryHeap.{IsHeap}
use Rattle.std.specs.Cmp.{IsTotalOrder, on_total, then_total, back_total, nat_cmp_total}
use Rattle.std.specs.Cmp.Lexicographic.{options_total}
use Rattle.std.specs.List.{All}
use Rattle.std.specs.Option.{option_cmp}
use Rattle.std.specs.declared.cmp.Ordering.{Ordering}
use Rattle.vt_key.specs.promise.Lists.{IsRisingBy}
use Rattle.vt_key.specs.promise.Times.{Time, time_before}
use Rattle.vt_model.specs.declared.rows.Record.{Record}
use Rattle.vt_model.specs.declared.rows.Row.{Row}
use Rattle.vt_model.specs.contracts.rows.RowOrd.TheImpl.{ghosts}
use Rattle.vt_model.specs.promise.Sequential.{rows_before, records_of}
use Rattle.vt_steps.specs.promise.Rows.{row_before, rows_in_order}
use Rattle.vt_steps.specs.inside.Rows.{NoneBefore, AreSameRows}
use Rattle.vt_book.specs.declared.run.Run.{Run}

-- no row is before one that stands in front of it
abbrev pub AreRising : List Row → Type 0
AreRising = IsRisingBy (λ a b. row_before b a ≡ false)

-- rows that are told are held in rising order
pub record IsPrepared (told held : List Row) : Type 0 where
  pub same : AreSameRows told held
  pub rising : AreRising held

-- ---- a run

-- its rows that aren't shown
abbrev pub run_rows : Run → List Row
run_rows run = drop run.begin run.rows.items

-- the first of them
abbrev pub first_row : Run → Option Row
first_row run = slice_get run.rows.items run.begin

-- how two runs compare: in reverse by their first rows
abbrev pub run_cmp : Run → Run → Ordering
run_cmp a b = option_cmp ghosts.cmp (first_row b) (first_row a)

-- rows have a total order, and so have runs
pub row_total : IsTotalOrder ghosts.cmp
row_total =
    then_total (on_total (λ (r : Row). r.key) (then_total (on_total (λ k. k.time) nat_cmp_total) (then_total (on_total (λ k. k.source) nat_cmp_total) (on_total (λ k. k.number) nat_cmp_total))))
    (then_total (on_total (λ (r : Row). r.index) nat_cmp_total) (on_total (λ (r : Row). r.rec)
    (then_total (on_total (λ k. k.time) nat_cmp_total) (then_total (on_total (λ k. k.priority) nat_cmp_total) (then_total (on_total (λ k. k.lp) nat_cmp_total) (then_total (on_total (λ k. k.kind) nat_cmp_total) (on_total (λ k. k.value) nat_cmp_total)))))))

pub run_total : IsTotalOrder run_cmp
run_total = back_total (on_total first_row (options_total row_total))

-- it has rows, and they rise
abbrev pub IsRun : Run → Type 0
IsRun run = (run.begin < length run.rows.items) × AreRising (run_rows run)

-- there is a row, and it is before a time
abbrev pub is_early : Time → Option Row → Bool
is_early time None = false
is_early time (Some row) = time_before row.key.time time

-- its first row is shown
pub record IsShown (old : Run) (shown : List Record) (new : Run) (shown' : List Record) : Type 0 where
  pub row : Row
  pub first : first_row old ≡ Some row
  pub taken : run_rows old ≡ row ∷ run_rows new
  pub records : shown' ≡ shown ++ row.rec ∷ []

-- ---- runs that wait

-- their rows
abbrev pub rows_of_runs : List Run → List Row
rows_of_runs [] = []
rows_of_runs (run ∷ runs) = run_rows run ++ rows_of_runs runs

-- they are a heap
pub record AreWaiting (runs : List Run) : Type 0 where
  pub heap : IsHeap run_cmp runs
  pub each : All IsRun runs

-- none of these rows is before one, and there are none if there isn't that one
abbrev pub AreBehind : Option Row → List Row → Type 0
AreBehind None rows = rows ≡ []
AreBehind (Some row) rows = NoneBefore row rows

-- ---- rows that are shown

-- some of the first rows before a time went from those that wait to the shown records
pub record AreMoved (time : Time) (shown : List Record) (rows : List Row) (shown' : List Record) (rows' : List Row) : Type 0 where
  pub records : shown' ++ records_of (rows_in_order (rows_before time rows')) ≡ shown ++ records_of (rows_in_order (rows_before time rows))
  pub same : AreSameRows (rows ++ rows_before time rows') (rows_before time rows ++ rows')
