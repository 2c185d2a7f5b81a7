use Rattle.std.proofs.Common.{◌≡◌, length, take}
use Rattle.vt_model.specs.declared.limits.TheConstants.{MAX_RECORDS}
use Rattle.vt_past.proofs.records.Records.set.Given as goal

abbrev pub invariant-loop-record : goal.invariant-loop-record
invariant-loop-record l = record {
  counted : l.count ≡ l.record-index;
  long : length l.self-inside.items ≡ MAX_RECORDS;
  written : take l.count l.self-inside.items ≡ take l.record-index l.records;
}
