use Rattle.std.proofs.Common.{◌≡◌, subst}
use Rattle.std.specs.Prelude.{IfErr}
use Rattle.vt_places.specs.inside.AtWork.{AtWork}
use Rattle.vt_steps.specs.declared.step.Step.TheVariants.{Execute}
use Rattle.vt_places.proofs.WorkLemmas.{stepped-at-work}
use Rattle.vt_places.proofs.worker.Worker.execute.Goals as goal

pub execute-requires-send-M-Payload : goal.execute-requires-send-M-Payload
execute-requires-send-M-Payload g c = λ _ _. c.type_bounds.send-M-Payload

pub invariant_of-self : goal.invariant_of-self
invariant_of-self g c = stepped-at-work c.self.invariant (Execute c.args.lp) c.execute.result c.execute.ensures.same c.execute.ensures.done c.execute.ensures.unchanged

pub returns-clause-kept : goal.returns-clause-kept
returns-clause-kept g c =
    let r = c.self.invariant.reaches in
    subst (λ (o : AtWork g.row.M.Denot g.row.M-State.Denot g.row.M-Payload.Denot g.row.M-Kept.Denot). IfErr c.execute.result (λ _. c.execute.new.self ≡ o.kernel)) c.self.view_is (c.execute.ensures.unchanged r.part r.stands)
