use Rattle.std.proofs.Common.{subst}
use Rattle.vt_seq.specs.inside.Progress.{Progress, IsAfterSomeSteps}
use Rattle.vt_seq.proofs.run.Sequential.finals.Goals as goal

pub returns-clause-reached : goal.returns-clause-reached
returns-clause-reached g c = subst (λ (v : Progress _ _ _). IsAfterSomeSteps (g.M.Model.handlers v.model) v) c.self.view_is c.self.invariant
