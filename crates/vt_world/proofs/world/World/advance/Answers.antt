use Rattle.std.proofs.Common.{subst}
use Rattle.std.proofs.lemmas.Result.{IfErr-weaker}
use Rattle.vt_model.specs.promise.Simulation.{simulation_of}
use Rattle.vt_world.specs.promise.Calls.{IsStepOf}
use Rattle.vt_world.proofs.RunLemmas.{passed}
use Rattle.vt_world.proofs.world.World.advance.Goals as goal

pub returns-in-Err : goal.returns-in-Err
returns-in-Err g c =
    let old = c.args.self.now in
    let new = c.step.new.self in
    let sim = simulation_of (g.M.Model.handlers old.model) old.config in
    let is = subst (IsStepOf sim c.args.step.now old.world new.world) c.in-Err.is c.step.ensures.step in
    let known = passed sim c.args.step.now old.world new.world c.in-Err.fault c.passed_over.result is c.passed_over.ensures.passed c.passed_over.ensures.stopped in
    record {
      goes = known.0;
      spent = IfErr-weaker c.passed_over.result _ _ (λ why h. h.0) known.1;
      unchanged = IfErr-weaker c.passed_over.result _ _ (λ why h. h.1) known.1;
      same = c.step.ensures.same;
      announced = c.step.ensures.announced;
      floor = c.step.ensures.floor;
      stays = c.step.ensures.stays;
    }
