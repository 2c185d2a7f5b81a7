use Rattle.std.proofs.Common.{◌≡◌, ℕ, ◌+◌, ◌<◌, ◌≤◌, drop, length, slice_index}
use Rattle.vt_elf.specs.promise.Segments.{memory_byte}
use Rattle.vt_elf.proofs.loading.load.Given as goal

-- the bytes of the segments from `index` on
abbrev pub invariant-loop-index : goal.invariant-loop-index
invariant-loop-index l = record {
  within : l.index ≤ length l.segments;
  size : length l.memory.items ≡ l.size;
  bytes : (k : ℕ) → k < l.size → slice_index l.memory.items k ≡ memory_byte l.bytes (drop l.index l.segments) (l.base + k);
}
