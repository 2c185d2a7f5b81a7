use Rattle.std.proofs.Common.{◌≡◌, length}
use Rattle.vt_lp.specs.inside.Ripe.{unripe_events}
use Rattle.vt_lp.proofs.committing.drop_ripe.Given as goal

abbrev pub invariant-loop-first : goal.invariant-loop-first
invariant-loop-first g l = unripe_events l.fn.floor l.past ≡ unripe_events l.fn.floor l.fn.past

abbrev pub decreases-loop-first : goal.decreases-loop-first
decreases-loop-first g l = length l.past
