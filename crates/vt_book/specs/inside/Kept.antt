-- How a book keeps its rows: the records of those that it shows, in the order of the rows, and the other rows.
use Rattle.std.specs.Prelude.{◌≡◌, ℕ, List, ◌++◌, length}
use Rattle.vt_key.specs.promise.Times.{Time}
use Rattle.vt_model.specs.declared.rows.Row.{Row}
use Rattle.vt_model.specs.declared.rows.Record.{Record}
use Rattle.vt_model.specs.promise.Sequential.{rows_before, records_of}
use Rattle.vt_steps.specs.promise.Rows.{rows_in_order}
use Rattle.vt_steps.specs.inside.Rows.{AreSameRows}

-- what becomes of the rows that were handed in: the records of those before the floor are shown, in the order of the rows, and the
-- other rows wait
pub record IsKept (floor : Time) (handed_in : List Row) (shown : List Record) (waiting : List Row) : Type 0 where
  pub in_order : shown ≡ records_of (rows_in_order (rows_before floor handed_in))
  pub all_there : AreSameRows handed_in (rows_before floor handed_in ++ waiting)

-- what a book keeps where some records were handed out, which are the first of those that it shows
pub record IsBookInside (floor : Time) (handed_in : List Row) (gone : List Record) (handed_out : ℕ) (shown : List Record) (waiting : List Row) : Type 0 where
  pub kept : IsKept floor handed_in (gone ++ shown) waiting
  pub counted : handed_out ≡ length gone
