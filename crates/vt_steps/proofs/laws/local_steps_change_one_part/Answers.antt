use Rattle.vt_steps.proofs.steps.Locals.{local-changes_one_part}
use Rattle.vt_steps.proofs.laws.local_steps_change_one_part.Goals as goal

pub returns : goal.returns
returns g c = local-changes_one_part g.sim
