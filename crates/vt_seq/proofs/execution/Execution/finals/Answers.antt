use Rattle.vt_seq.proofs.ProgressLemmas.{seen-on_way}
use Rattle.vt_seq.proofs.execution.Execution.finals.Goals as goal

pub returns-clause-reached : goal.returns-clause-reached
returns-clause-reached g c = let e = c.self.inside.engine in seen-on_way g.M.Model.handlers e.model.now e.config e.pending e.processes e.all_there e.stands _ c.self.view_is
