use Rattle.std.proofs.Common.{◌≡◌, ℕ, ◌*◌, ◌-◌, ◌≤◌, ◌/◌, length, map}
use Rattle.std.specs.List.{range_with_len}
use Rattle.vt_riscv.specs.promise.Codes.{instruction_at}
use Rattle.vt_riscv.proofs.code.instructions.Given as goal

abbrev pub invariant-indices : goal.invariant-indices
invariant-indices l = record {
  count : l.count ≡ length l.bytes / 2;
  within : l.index ≤ l.count;
  list : l.list.items ≡ map (λ (k : ℕ). instruction_at l.compressed l.bytes (2 * k)) (range_with_len 0 l.index);
}

abbrev pub decreases-indices : goal.decreases-indices
decreases-indices l = l.count - l.index
