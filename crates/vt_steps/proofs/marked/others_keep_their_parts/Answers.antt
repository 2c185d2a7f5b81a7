use Rattle.vt_steps.proofs.steps.LocalLeads.{others-part}
use Rattle.vt_steps.proofs.marked.others_keep_their_parts.Goals as goal

pub returns : goal.returns
returns g c world step w v whose apart = others-part g.sim world step w v whose apart
