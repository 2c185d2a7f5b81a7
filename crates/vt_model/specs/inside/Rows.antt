-- The order of rows, and what an event's rows are.
use Rattle.std.specs.Prelude.{List, filter}
use Rattle.vt_key.specs.promise.Times.{Time, time_before}
use Rattle.vt_model.specs.declared.rows.Record.{Record}
use Rattle.vt_model.specs.promise.Rows.{record_time}

-- the records before a time
abbrev pub records_before : Time → List Record → List Record
records_before t rs = filter (λ r. time_before (record_time r) t) rs
