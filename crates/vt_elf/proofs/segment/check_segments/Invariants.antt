use Rattle.std.proofs.Common.{◌≡◌, true, drop}
use Rattle.vt_elf.specs.promise.Segments.{segments_fault}
use Rattle.vt_elf.proofs.segment.check_segments.Given as goal

-- what is wrong with the segments that are left is what is wrong with all
abbrev pub invariant-loop-segment : goal.invariant-loop-segment
invariant-loop-segment l = segments_fault l.size l.before l.only_code (drop l.segment-index l.segments) ≡ segments_fault l.size 0 true l.segments
