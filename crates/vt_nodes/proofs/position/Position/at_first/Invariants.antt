use Rattle.std.proofs.Common.{◌≡◌, length}
use Rattle.vt_nodes.specs.inside.Linked.{items}
use Rattle.vt_nodes.proofs.Further.{IsReached}
use Rattle.vt_nodes.proofs.position.Position.at_first.Given as goal

abbrev pub invariant-loop-position : goal.invariant-loop-position
invariant-loop-position g l = IsReached (g.P.Predicate.passes l.fn.test) (items l.fn.nodes.owned) (l.position.0, l.position.1) × (l.position.2 ≡ l.fn.nodes.owned)

abbrev pub decreases-loop-position : goal.decreases-loop-position
decreases-loop-position g l = length l.position.1
