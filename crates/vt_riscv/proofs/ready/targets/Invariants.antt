use Rattle.std.proofs.Common.{ℕ, ◌-◌, ◌<◌, ◌≤◌, length, slice_index}
use Rattle.vt_riscv.specs.inside.Readiness.{IsAimed}
use Rattle.vt_riscv.proofs.ready.targets.Given as goal

abbrev pub invariant-instructions : goal.invariant-instructions
invariant-instructions l = record {
  few : length l.all.items ≤ length l.heads;
  each : (k : ℕ) → k < length l.all.items → IsAimed l.heads (slice_index l.immediates k) (slice_index l.all.items k) k;
}

abbrev pub decreases-instructions : goal.decreases-instructions
decreases-instructions l = length l.heads - length l.all.items
