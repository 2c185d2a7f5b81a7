use Rattle.vt_key.proofs.ResultLemmas.{if_refused}
use Rattle.vt_places.proofs.making.slots_for.Goals as goal

pub returns-in_err-push : goal.returns-in_err-push
returns-in_err-push g c = if_refused _ _ c.from_residual.result c.from_residual.ensures.1

pub returns-in_err-push-2 : goal.returns-in_err-push-2
returns-in_err-push-2 g c = if_refused _ _ c.from_residual-in_err-push-2.result c.from_residual-in_err-push-2.ensures.1

pub returns-in_err-push-3 : goal.returns-in_err-push-3
returns-in_err-push-3 g c = if_refused _ _ c.from_residual-in_err-push-3.result c.from_residual-in_err-push-3.ensures.1
