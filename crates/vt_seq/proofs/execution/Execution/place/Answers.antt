use Rattle.vt_seq.proofs.ProgressLemmas.{seen-on_way, seen-told}
use Rattle.vt_seq.proofs.execution.Execution.place.Goals as goal

pub returns-clause-value : goal.returns-clause-value
returns-clause-value g c = let e = c.self.inside.engine in seen-told g.M.Model.handlers e.model.now e.config e.pending (λ t. t.place) c.args.p c.place.result e.processes.items e.stands c.place.ensures.value _ c.self.view_is

pub returns-clause-reached : goal.returns-clause-reached
returns-clause-reached g c = let e = c.self.inside.engine in seen-on_way g.M.Model.handlers e.model.now e.config e.pending e.processes e.all_there e.stands _ c.self.view_is
