use Rattle.vt_model.proofs.RequestLemmas.{sent_after}
use Rattle.vt_desk.proofs.DesksEventModel.start.Goals as goal

pub returns-clause-out : goal.returns-clause-out
returns-clause-out c = sent_after _ _ _ _ _ _ c.send.ensures c.send-2.ensures
