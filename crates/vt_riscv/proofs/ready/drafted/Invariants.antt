use Rattle.std.proofs.Common.{◌≡◌, ℕ, ◌+◌, ◌-◌, ◌%◌, ◌<◌, ◌≤◌, [], ◌∷◌, ◌++◌, length, if◌then◌else◌, slice_index}
use Rattle.vt_riscv.specs.inside.Readiness.{address_at, ended, IsReadyAt}
use Rattle.vt_riscv.proofs.ready.drafted.Given as goal

abbrev pub invariant-indices : goal.invariant-indices
invariant-indices l = record {
  many : length l.immediates.items ≡ length l.heads.items;
  as_many : length l.rests.items ≡ length l.heads.items;
  few : length l.heads.items ≤ l.index;
  within : l.index ≤ length l.list + 1;
  room : length l.list ≤ l.index + l.rest;
  even : address_at l.index % (if l.compressed then 2 else 4) ≡ 0;
  each : (k : ℕ) → k < length l.heads.items → IsReadyAt l.compressed l.image l.list (l.heads.items ++ ended l.index ∷ []) (l.rests.items ++ l.rest ∷ []) (slice_index l.immediates.items k) k;
}

abbrev pub decreases-indices : goal.decreases-indices
decreases-indices l = length l.list + 1 - l.index
