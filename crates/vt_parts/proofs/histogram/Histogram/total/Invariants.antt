use Rattle.std.proofs.Common.{◌≡◌, ◌+◌, ◌%◌, ◌^◌, take}
use Rattle.std.specs.List.{sum}
use Rattle.vt_parts.proofs.histogram.Histogram.total.Given as goal

abbrev pub invariant-bins : goal.invariant-bins
invariant-bins g l = l.total ≡ (l.self.beyond + sum (take l.count-index l.self.bins)) % 2 ^ 64
