use Rattle.std.proofs.Common.{◌≡◌, filter, take}
use Rattle.vt_key.specs.promise.Times.{time_before}
use Rattle.vt_model.specs.promise.Rows.{record_time}
use Rattle.vt_seq.proofs.run.copy_below.Given as goal

abbrev pub invariant-loop-record : goal.invariant-loop-record
invariant-loop-record l = l.found.items ≡ filter (λ r. time_before (record_time r) l.t) (take l.record-index l.records)
