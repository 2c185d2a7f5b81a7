use Rattle.std.proofs.Common.{subst}
use Rattle.vt_seq.specs.inside.Progress.{Progress, IsAfterSomeSteps}
use Rattle.vt_seq.proofs.ProgressLemmas.{kept-told}
use Rattle.vt_seq.proofs.run.Sequential.number.Goals as goal

pub returns-clause-value : goal.returns-clause-value
returns-clause-value g c = kept-told g.M.Model.handlers c.self.inside.execution c.self.inside.records.items (λ t. t.number) c.args.p c.number.result c.number.ensures.value _ c.self.view_is

pub returns-clause-reached : goal.returns-clause-reached
returns-clause-reached g c = subst (λ (v : Progress _ _ _). IsAfterSomeSteps (g.M.Model.handlers v.model) v) c.self.view_is c.self.invariant
