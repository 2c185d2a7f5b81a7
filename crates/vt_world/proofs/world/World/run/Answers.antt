use Rattle.std.proofs.Common.{◌∙◌, ap, refl, slice_index_or, subst, arith}
use Rattle.std.proofs.lemmas.List.{take_more}
use Rattle.std.proofs.Math.Nat.{le_refl}
use Rattle.vt_model.specs.promise.Simulation.{simulation_of}
use Rattle.vt_steps.specs.declared.step.Step.TheVariants.{Execute}
use Rattle.vt_world.specs.inside.Calls.{IsAnsweredBy}
use Rattle.vt_world.proofs.RunLemmas.{run-none, answers-none, run-on, within-on, count-on}
use Rattle.vt_world.proofs.world.World.run.Goals as goal

pub loop-at-init : goal.loop-at-init
loop-at-init g c =
    let first = c.args.self.now in
    let sim = simulation_of (g.M.Model.handlers first.model) first.config in
    record {
      model = refl;
      config = refl;
      ran = run-none sim first.world;
      within = tt;
      count = answers-none sim first.world;
      few = le_refl _;
      announced = le_refl _;
      floor = le_refl _;
      stays = λ shut. refl;
    }

pub loop-at-preserved : goal.loop-at-preserved
loop-at-preserved g c =
    let inv = c.loop-at.invariant in
    let first = c.args.self.now in
    let old = c.loop-at.self in
    let new = c.advance.new.self in
    let steps = c.args.steps.now in
    let i = c.loop-at.at in
    let step = slice_index_or steps i (Execute 0) in
    let here = take_more steps i (Execute 0) c.loop-at-test.true in
    let more = c.in-Ok.more in
    let sim = simulation_of (g.M.Model.handlers first.model) first.config in
    let is : IsAnsweredBy sim step old.world new.world more =
    subst (λ (s : _). IsAnsweredBy s step old.world new.world more) (λ j. simulation_of (g.M.Model.handlers (inv.model j)) (inv.config j)) c.in-Ok.ensures.goes in
    record {
      model = c.advance.ensures.same.0 ∙ inv.model;
      config = c.advance.ensures.same.1 ∙ inv.config;
      ran = run-on sim first.world old.world new.world steps i step more here inv.ran is;
      within = within-on sim first.world old.world new.world steps i step more here inv.ran is inv.within;
      count = count-on sim first.world old.world new.world steps i step more here inv.ran is c.loop-at.refused inv.count;
      few = (let one = is.one in let few = inv.few in omega (arith, one, few));
      announced = (let a = inv.announced in let b = c.advance.ensures.announced in omega (arith, a, b));
      floor = (let a = inv.floor in let b = c.advance.ensures.floor in omega (arith, a, b));
      stays = λ shut. c.advance.ensures.stays (ap (λ b. b.is_closed) (inv.stays shut) ∙ shut) ∙ inv.stays shut;
    }
