-- The segments of an executable, where they may lie, and the memory that they describe.
use Rattle.std.specs.Prelude.{ℕ, ◌+◌, ◌<◌, ◌≤◌, length, List}
use Rattle.vt_elf.specs.declared.segment.Segment.{Segment}

-- the file has the segment's bytes, and they don't cross a border of the memory from `low` to `high`
pub record IsApart (file : List ℕ) (low high : ℕ) (s : Segment) : Type 0 where
  pub in_file : s.offset + s.file_size ≤ length file
  pub below : s.address < low → s.address + s.file_size ≤ low
  pub inside : low ≤ s.address → s.address < high → s.address + s.file_size ≤ high
