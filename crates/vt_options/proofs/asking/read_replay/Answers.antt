use Rattle.vt_key.proofs.ResultLemmas.{if_refused}
use Rattle.vt_options.proofs.asking.read_replay.Goals as goal

pub returns-in_err-model-clause-ok : goal.returns-in_err-model-clause-ok
returns-in_err-model-clause-ok c = if_refused _ _ c.from_residual.result c.from_residual.ensures.1

pub returns-in_err-config-clause-ok : goal.returns-in_err-config-clause-ok
returns-in_err-config-clause-ok c = if_refused _ _ c.from_residual-in_err-config.result c.from_residual-in_err-config.ensures.1

pub returns-in_err-values-clause-ok : goal.returns-in_err-values-clause-ok
returns-in_err-values-clause-ok c = if_refused _ _ c.from_residual-in_err-values.result c.from_residual-in_err-values.ensures.1

pub returns-in_err-serial-clause-ok : goal.returns-in_err-serial-clause-ok
returns-in_err-serial-clause-ok c = if_refused _ _ c.from_residual-in_err-serial.result c.from_residual-in_err-serial.ensures.1

pub returns-in_err-text-clause-ok : goal.returns-in_err-text-clause-ok
returns-in_err-text-clause-ok c = if_refused _ _ c.from_residual-in_err-text.result c.from_residual-in_err-text.ensures.1

pub returns-in_err-chosen-clause-ok : goal.returns-in_err-chosen-clause-ok
returns-in_err-chosen-clause-ok c = if_refused _ _ c.from_residual-in_err-chosen.result c.from_residual-in_err-chosen.ensures.1
