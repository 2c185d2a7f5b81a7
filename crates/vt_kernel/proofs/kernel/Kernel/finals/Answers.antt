use Rattle.std.proofs.Common.{◌≡◌, ◌∙◌, ap, subst}
use Rattle.std.proofs.lemmas.Result.{IfOk-weaker}
use Rattle.vt_kernel.specs.inside.Held.{HeldWorker, held_values, AreProcesses}
use Rattle.vt_kernel.proofs.FinalLemmas.{values-stood}
use Rattle.vt_kernel.proofs.kernel.Kernel.finals.Goals as goal

pub returns-clause-values : goal.returns-clause-values
returns-clause-values g c part s =
    let now = c.args.self.now in
    let handlers = g.M.Model.handlers c.args.model.now in
    let are : AreProcesses now.config now.worker 0 now.processes = subst (λ (v : HeldWorker _ _ _). AreProcesses v.config v.worker 0 v.processes) c.self.view_is c.self.invariant.own_processes in
    let all : c.deref.result.now ≡ now.processes = c.deref.ensures.value ∙ ap (λ (v : HeldWorker _ _ _). v.processes) c.self.view_is in
    IfOk-weaker c.values_of.result _ _ (λ v is. is ∙ ap (held_values handlers) all ∙ values-stood handlers now.config now.worker 0 now.processes part.processes are s.processes) c.values_of.ensures.values
