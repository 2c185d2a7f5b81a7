use Rattle.std.proofs.Common.{length}
use Rattle.vt_nodes.specs.inside.Lines.{begins_with}
use Rattle.vt_nodes.proofs.Further.{IsReached}
use Rattle.vt_nodes.proofs.passing.pass_trails.Given as goal

abbrev pub invariant-loop-path : goal.invariant-loop-path
invariant-loop-path g l = IsReached (begins_with (g.P.Predicate.passes l.fn.test)) l.fn.trails l.path

abbrev pub decreases-loop-path : goal.decreases-loop-path
decreases-loop-path g l = length l.path.1
