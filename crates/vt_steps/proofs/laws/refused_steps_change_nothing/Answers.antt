use Rattle.vt_steps.proofs.steps.Refusals.{refusals}
use Rattle.vt_steps.proofs.laws.refused_steps_change_nothing.Goals as goal

pub returns : goal.returns
returns g c = refusals g.sim
