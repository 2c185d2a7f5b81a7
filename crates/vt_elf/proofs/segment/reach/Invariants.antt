use Rattle.std.proofs.Common.{◌≡◌, ◌^◌, ◌<◌, drop}
use Rattle.std.specs.List.{AllByRecursion}
use Rattle.vt_elf.specs.promise.Segments.{reach, end_of}
use Rattle.vt_elf.proofs.segment.reach.Given as goal

-- the end so far, and the segments that are left, give the whole reach
abbrev pub invariant-loop-segment : goal.invariant-loop-segment
invariant-loop-segment l = record {
  whole : reach l.region l.end (drop l.segment-index l.segments) ≡ reach l.region l.least l.segments;
  fits : AllByRecursion (λ s. end_of s < 2 ^ 64) (drop l.segment-index l.segments);
}
