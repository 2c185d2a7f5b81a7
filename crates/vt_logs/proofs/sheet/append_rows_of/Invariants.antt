use Rattle.std.proofs.Common.{◌≡◌, ◌++◌, take}
use Rattle.vt_model.specs.promise.Simulation.{rows_of}
use Rattle.vt_logs.proofs.sheet.append_rows_of.Given as goal

abbrev pub invariant-loop-record : goal.invariant-loop-record
invariant-loop-record l = record {
  index_is : l.index ≡ l.record-index;
  rows_are : l.rows.items ≡ l.fn.rows.items ++ rows_of l.key (take l.record-index l.records);
}
