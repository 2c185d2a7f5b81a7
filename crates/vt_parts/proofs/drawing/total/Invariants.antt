use Rattle.std.proofs.Common.{◌≡◌, take}
use Rattle.std.specs.List.{sum}
use Rattle.vt_parts.proofs.drawing.total.Given as goal

abbrev pub invariant-weights : goal.invariant-weights
invariant-weights l = l.sum ≡ sum (take l.weight-index l.weights)
