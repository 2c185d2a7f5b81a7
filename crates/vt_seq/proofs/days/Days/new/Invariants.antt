use Rattle.std.proofs.Common.{◌≡◌, [], map, Vec, Global, length}
use Rattle.vt_seq.specs.declared.entry.Entry.{Entry}
use Rattle.vt_seq.specs.inside.Days.{entries_of_days}
use Rattle.vt_seq.proofs.days.Days.new.Given as goal

abbrev pub invariant-loop : goal.invariant-loop
invariant-loop g l = record {
  empty : entries_of_days (map (λ (v : Vec (Entry _) Global). v.items) l.days.items) ≡ [];
  len : length l.days.items ≡ l.counter;
}
