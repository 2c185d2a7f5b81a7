use Rattle.std.proofs.Common.{◌≡◌, ℕ, ◌+◌, ◌*◌, ◌<◌, ◌≤◌, false}
use Rattle.vt_marks.specs.inside.Bits.{is_set}
use Rattle.vt_marks.proofs.bits.first_set.Given as goal

abbrev pub invariant-loop-at : goal.invariant-loop-at
invariant-loop-at l = record {
  within : l.bit < 64;
  reached : l.fn.from ≤ l.at * 64 + l.bit;
  passed : (other : ℕ) → l.fn.from ≤ other → other < l.at * 64 + l.bit → is_set l.words other ≡ false;
}
