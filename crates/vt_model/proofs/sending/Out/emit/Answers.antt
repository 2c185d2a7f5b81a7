use Rattle.vt_model.proofs.SendLemmas.{told_record}
use Rattle.vt_model.proofs.sending.Out.emit.Goals as goal

pub invariant_of-self : goal.invariant_of-self
invariant_of-self g c = c.self.invariant

pub returns : goal.returns
returns g c = told_record _ _ c.args.kind c.args.value _ _ _ c.self.view_is c.ticks.ensures c.priority.ensures c.push.ensures.items
