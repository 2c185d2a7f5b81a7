use Rattle.std.proofs.Common.{◌+◌, ◌≤◌, length, vec_len, vec_capacity}
use Rattle.vt_book.specs.inside.Runs.{AreMoved}
use Rattle.vt_book.proofs.waiting.Waiting.show_before.Given as goal

abbrev pub invariant-loop-time : goal.invariant-loop-time
invariant-loop-time l = record {
  moved : AreMoved l.time l.initial.shown.items l.initial.self l.shown.items l.self;
  room : vec_len l.shown + length l.self ≤ vec_capacity l.shown;
}

abbrev pub decreases-loop-time : goal.decreases-loop-time
decreases-loop-time l = length l.self
