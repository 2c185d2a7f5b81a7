use Rattle.std.proofs.Common.{arith}
use Rattle.vt_parts.specs.inside.DrawingLaws.{chosen_within}
use Rattle.vt_parts.proofs.drawing.weighted.Goals as goal

pub returns-clause-within : goal.returns-clause-within
returns-clause-within c =
    omega (arith, c.index_at.ensures, chosen_within c.args.weights.now c.below-point.result (omega (arith, c.total.ensures, c.below-point.ensures.within)))
