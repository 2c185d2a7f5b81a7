use Rattle.std.proofs.Common.{◌≡◌, ℕ, sym, ◌∙◌, subst, MatchResult, arith, rules}
use Rattle.vt_key.specs.promise.Times.{Time}
use Rattle.vt_model.specs.promise.Simulation.{simulation_of}
use Rattle.vt_model.specs.promise.Settings.{end_of}
use Rattle.vt_steps.specs.declared.step.Step.TheVariants.{Commit}
use Rattle.vt_steps.specs.declared.step.Reply.TheVariants.{Done}
use Rattle.vt_places.specs.inside.AtWork.{AtWork}
use Rattle.vt_places.specs.inside.Calls.{Visited, Stays, ShowsFloor, IsFloorLeft}
use Rattle.vt_places.proofs.WorkLemmas.{kernel-ready, called-at-work, alone-at-work}
use Rattle.vt_places.proofs.worker.Worker.commit.Goals as goal

pub invariant_of-self : goal.invariant_of-self
invariant_of-self g c = called-at-work c.self.invariant c.commit.ensures.same.0 c.commit.ensures.ready

pub commit-requires-after_bounds : goal.commit-requires-after_bounds
commit-requires-after_bounds g c κs within = (omega arith, (search rules, kernel-ready c.self.invariant))

pub returns-clause-done : goal.returns-clause-done
returns-clause-done g c =
    let i = c.self.inside in
    let before = c.self.invariant in
    let after = c.commit in
    let key = i.station.now.table.shared.key in
    let v = i.place.seat.me.0 in
    let w = after.new.place.seat.me.0 in
    let left = after.new.kernel in
    let there = subst (λ (z : g.row.M.Denot × ℕ). MatchResult after.result
    (λ _. (shown : Time) × (visited : Visited (g.M.Model.handlers z.0) key.config v i.kernel (Commit z.1) Done left shown w) × ShowsFloor (end_of key.config) shown visited.visits.at.now × IsFloorLeft (simulation_of (g.M.Model.handlers z.0) key.config) v (Commit z.1) shown)
    (λ _. Stays v w × (left ≡ i.kernel))) (λ j. (before.model_is j, (sym i.place.own ∙ sym before.reaches.worker) j)) after.ensures.done in
    subst (λ (o : AtWork g.row.M.Denot g.row.M-State.Denot g.row.M-Payload.Denot g.row.M-Kept.Denot). MatchResult after.result
    (λ _. (shown : Time) × (visited : Visited (g.M.Model.handlers o.model) o.config o.view o.kernel (Commit o.kernel.worker) Done left shown w) × ShowsFloor (end_of o.config) shown visited.visits.at.now × IsFloorLeft (simulation_of (g.M.Model.handlers o.model) o.config) o.view (Commit o.kernel.worker) shown)
    (λ _. Stays o.view w × (left ≡ o.kernel))) c.self.view_is there

pub returns-clause-alone : goal.returns-clause-alone
returns-clause-alone g c = alone-at-work c.self.invariant (λ w. Commit w) c.commit.result c.self.view_is c.self.inside.place.worker c.self.inside.place.own c.commit.ensures.alone
