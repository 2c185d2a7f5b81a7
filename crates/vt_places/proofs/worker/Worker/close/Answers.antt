use Rattle.std.proofs.Common.{[], subst}
use Rattle.vt_model.specs.promise.Simulation.{simulation_of}
use Rattle.vt_steps.specs.declared.step.Step.TheVariants.{Close}
use Rattle.vt_places.specs.inside.AtWork.{AtWork}
use Rattle.vt_places.specs.inside.Calls.{IsRefusedAlone}
use Rattle.vt_places.proofs.WorkLemmas.{closed-at-work}
use Rattle.vt_places.proofs.worker.Worker.close.Goals as goal

pub invariant_of-self : goal.invariant_of-self
invariant_of-self g c = closed-at-work c.self.invariant c.close.result c.close.ensures.same.0 c.close.ensures.done

pub returns-clause-alone : goal.returns-clause-alone
returns-clause-alone g c =
    let i = c.self.inside in
    subst (λ (o : AtWork g.row.M.Denot g.row.M-State.Denot g.row.M-Payload.Denot g.row.M-Kept.Denot). IsRefusedAlone (simulation_of (g.M.Model.handlers o.model) o.config) o.view [] Close c.close.result)
    c.self.view_is (subst (λ (m : g.row.M.Denot). IsRefusedAlone (simulation_of (g.M.Model.handlers m) i.station.now.table.shared.key.config) i.place.seat.me.0 [] Close c.close.result) c.self.invariant.model_is c.close.ensures.alone)
