use Rattle.std.proofs.Common.{◌≡◌, ◌+◌, ◌≤◌, ◌++◌, drop, length}
use Rattle.std.specs.BinaryHeap.{heap_items, heap_len, heap_capacity}
use Rattle.vt_seq.specs.inside.Queue.{all_inserted, HaveNewKeys}
use Rattle.vt_seq.specs.inside.Entries.{in_order, IsQueue}
use Rattle.vt_seq.specs.inside.Days.{calendar_entries}
use Rattle.vt_seq.proofs.pending.put_all.Given as goal

abbrev pub invariant-loop-event : goal.invariant-loop-event
invariant-loop-event g l = record {
  room : heap_len l.far + length (drop l.event-index l.events) ≤ heap_capacity l.far;
  queue : IsQueue (calendar_entries l.calendar.present.items l.calendar.days) (heap_items l.far);
  fresh : HaveNewKeys (drop l.event-index l.events) (in_order (calendar_entries l.calendar.present.items l.calendar.days ++ heap_items l.far));
  base : (l.calendar.scale ≡ l.initial.calendar.scale) × (l.calendar.base ≡ l.initial.calendar.base);
  same : all_inserted (drop l.event-index l.events) (in_order (calendar_entries l.calendar.present.items l.calendar.days ++ heap_items l.far)) ≡ all_inserted l.events (in_order (calendar_entries l.initial.calendar.present.items l.initial.calendar.days ++ heap_items l.initial.far));
}
