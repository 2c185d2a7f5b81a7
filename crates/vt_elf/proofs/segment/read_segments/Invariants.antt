use Rattle.std.proofs.Common.{◌≡◌}
use Rattle.vt_elf.specs.promise.Segments.{loaded}
use Rattle.vt_elf.proofs.segment.read_segments.Given as goal

-- the segments of the headers so far
abbrev pub invariant-loop-index : goal.invariant-loop-index
invariant-loop-index l = l.found.items ≡ loaded l.bytes l.index
