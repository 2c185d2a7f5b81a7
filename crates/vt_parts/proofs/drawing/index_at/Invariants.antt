use Rattle.std.proofs.Common.{◌≡◌, ◌+◌, drop}
use Rattle.vt_parts.specs.inside.Drawing.{chosen}
use Rattle.vt_parts.proofs.drawing.index_at.Given as goal

abbrev pub invariant-weights : goal.invariant-weights
invariant-weights l = record {
  index : l.index ≡ l.weight-index;
  rest : l.index + chosen (drop l.weight-index l.weights) l.left ≡ chosen l.weights l.fn.point;
}
