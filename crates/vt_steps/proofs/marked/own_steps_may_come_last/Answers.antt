use Rattle.vt_steps.proofs.steps.LocalLeads.{leads}
use Rattle.vt_steps.proofs.marked.own_steps_may_come_last.Goals as goal

pub returns : goal.returns
returns g c w name steps step part before new cell left reply local whose at does = leads g.sim w name steps step part before new cell left reply local whose at does
