use Rattle.std.proofs.Common.{◌≡◌, subst, arith, rules}
use Rattle.std.specs.Prelude.{IfOk}
use Rattle.vt_model.specs.promise.Simulation.{simulation_of}
use Rattle.vt_steps.specs.inside.Finals.{worker_finals}
use Rattle.vt_places.specs.inside.AtWork.{AtWork}
use Rattle.vt_places.proofs.WorkLemmas.{kernel-ready, read-at-work, finals-at-work}
use Rattle.vt_places.proofs.worker.Worker.finals.Goals as goal

pub finals-requires-after_bounds : goal.finals-requires-after_bounds
finals-requires-after_bounds g c κs within = (omega arith, (search rules, (search rules, kernel-ready c.self.invariant)))

pub invariant_of-self : goal.invariant_of-self
invariant_of-self g c = read-at-work c.self.invariant c.finals.ensures.same.0 c.finals.ensures.unchanged

pub returns-clause-values : goal.returns-clause-values
returns-clause-values g c =
    let place = c.self.inside.place in
    subst (λ (o : AtWork g.row.M.Denot g.row.M-State.Denot g.row.M-Payload.Denot g.row.M-Kept.Denot). IfOk c.finals.result (λ v. v.items ≡ worker_finals (simulation_of (g.M.Model.handlers o.model) o.config) o.view.worker)) c.self.view_is
    (finals-at-work c.self.invariant (λ v. v.items) c.finals.result place.worker place.own c.finals.ensures.values)
