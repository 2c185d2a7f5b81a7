use Rattle.std.proofs.Common.{◌≡◌, ◌+◌, drop, length}
use Rattle.vt_book.specs.inside.Runs.{rows_of_runs}
use Rattle.vt_book.proofs.waiting.Waiting.len.Given as goal

abbrev pub invariant-loop-run : goal.invariant-loop-run
invariant-loop-run l = l.count + length (rows_of_runs (drop l.run-index l.run-items)) ≡ length (rows_of_runs l.run-items)
