use Rattle.vt_steps.proofs.steps.Refusals.{replies}
use Rattle.vt_steps.proofs.laws.reports_are_answered.Goals as goal

pub returns : goal.returns
returns g c = replies g.sim
