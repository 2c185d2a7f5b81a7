use Rattle.std.proofs.Common.{◌≡◌, ◌≤◌, drop}
use Rattle.vt_key.specs.promise.Times.{earlier}
use Rattle.vt_steps.specs.promise.Letters.{least_of}
use Rattle.vt_book.proofs.floors.least.Given as goal

abbrev pub invariant-loop-time : goal.invariant-loop-time
invariant-loop-time l = record {
  least : earlier l.least (least_of l.fn.end (drop l.time-index l.times)) ≡ least_of l.fn.end l.times;
  ended : l.least ≤ l.fn.end;
}
