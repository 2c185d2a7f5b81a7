use Rattle.std.proofs.Common.{◌∙◌, ap, subst}
use Rattle.std.proofs.lemmas.Result.{IfOk-weaker}
use Rattle.vt_kernel.specs.inside.Held.{HeldWorker, held_values, AreProcesses}
use Rattle.vt_kernel.proofs.FinalLemmas.{values-stood}
use Rattle.vt_pool.proofs.ViewLemmas.{are-from}
use Rattle.vt_share.proofs.share.Share.finals.Goals as goal

pub returns-clause-values : goal.returns-clause-values
returns-clause-values g c part s =
    let now = c.args.self.now in
    let pool = c.self.inside.pool in
    let handlers = g.M.Model.handlers c.args.model.now in
    let are : AreProcesses now.config now.worker 0 now.processes = subst (λ (v : HeldWorker _ _ _). AreProcesses v.config v.worker 0 v.processes) c.self.view_is (are-from pool.config pool.worker 0 pool.stock.triples pool.stock) in
    IfOk-weaker c.finals.result _ _
    (λ v is. is ∙ ap (λ (k : HeldWorker _ _ _). held_values handlers k.processes) c.self.view_is ∙ values-stood handlers now.config now.worker 0 now.processes part.processes are s.processes) c.finals.ensures.values
