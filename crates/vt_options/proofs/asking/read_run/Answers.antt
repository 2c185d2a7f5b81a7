use Rattle.vt_key.proofs.ResultLemmas.{if_refused}
use Rattle.vt_options.proofs.asking.read_run.Goals as goal

pub returns-in_err-model-clause-ok : goal.returns-in_err-model-clause-ok
returns-in_err-model-clause-ok c = if_refused _ _ c.from_residual.result c.from_residual.ensures.1

pub returns-in_err-synch-clause-ok : goal.returns-in_err-synch-clause-ok
returns-in_err-synch-clause-ok c = if_refused _ _ c.from_residual-in_err-synch.result c.from_residual-in_err-synch.ensures.1

pub returns-in_err-config-clause-ok : goal.returns-in_err-config-clause-ok
returns-in_err-config-clause-ok c = if_refused _ _ c.from_residual-in_err-config.result c.from_residual-in_err-config.ensures.1

pub returns-in_err-values-clause-ok : goal.returns-in_err-values-clause-ok
returns-in_err-values-clause-ok c = if_refused _ _ c.from_residual-in_err-values.result c.from_residual-in_err-values.ensures.1

pub returns-in_err-turns-clause-ok : goal.returns-in_err-turns-clause-ok
returns-in_err-turns-clause-ok c = if_refused _ _ c.from_residual-in_err-turns.result c.from_residual-in_err-turns.ensures.1

pub returns-in_err-text-clause-ok : goal.returns-in_err-text-clause-ok
returns-in_err-text-clause-ok c = if_refused _ _ c.from_residual-in_err-text.result c.from_residual-in_err-text.ensures.1

pub returns-in_err-finals-clause-ok : goal.returns-in_err-finals-clause-ok
returns-in_err-finals-clause-ok c = if_refused _ _ c.from_residual-in_err-finals.result c.from_residual-in_err-finals.ensures.1

pub returns-in_err-records-clause-ok : goal.returns-in_err-records-clause-ok
returns-in_err-records-clause-ok c = if_refused _ _ c.from_residual-in_err-records.result c.from_residual-in_err-records.ensures.1

pub returns-in_err-chosen-clause-ok : goal.returns-in_err-chosen-clause-ok
returns-in_err-chosen-clause-ok c = if_refused _ _ c.from_residual-in_err-chosen.result c.from_residual-in_err-chosen.ensures.1
