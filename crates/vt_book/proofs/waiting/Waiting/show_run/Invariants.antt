use Rattle.std.proofs.Common.{◌≡◌, ◌+◌, ◌≤◌, ◌++◌, true, length, vec_len, vec_capacity}
use Rattle.vt_book.specs.inside.Runs.{AreRising, AreMoved, AreBehind, first_row, run_rows, is_early}
use Rattle.vt_book.proofs.waiting.Waiting.show_run.Given as goal

abbrev pub invariant-loop-time : goal.invariant-loop-time
invariant-loop-time l = record {
  early : is_early l.time (first_row l.run) ≡ true;
  first : AreBehind (first_row l.run) l.self;
  rising : AreRising (run_rows l.run);
  moved : AreMoved l.time l.initial.shown.items (run_rows l.initial.run ++ l.self) l.shown.items (run_rows l.run ++ l.self);
  count : vec_len l.shown + length (run_rows l.run) ≡ vec_len l.initial.shown + length (run_rows l.initial.run);
  capacity : vec_capacity l.shown ≡ vec_capacity l.initial.shown;
  few : length (run_rows l.run) ≤ length (run_rows l.initial.run);
}

abbrev pub decreases-loop-time : goal.decreases-loop-time
decreases-loop-time l = length (run_rows l.run)
