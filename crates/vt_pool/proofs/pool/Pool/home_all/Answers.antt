use Rattle.std.proofs.Common.{◌∙◌, refl}
use Rattle.vt_pool.proofs.ForceLemmas.{pool-nothing, pool-both}
use Rattle.vt_pool.proofs.pool.Pool.home_all.Goals as goal

pub loop-init : goal.loop-init
loop-init g c = record { leads = pool-nothing (g.M.Model.handlers c.args.model.now) c.args.self.now; settled = c.requires.settled; same = (refl, refl) }

pub loop-preserved : goal.loop-preserved
loop-preserved g c =
    let inv = c.loop.invariant in
    record {
      leads = pool-both (g.M.Model.handlers c.args.model.now) c.args.self.now c.loop.self c.home.new.self inv.leads c.home.ensures.leads;
      settled = c.home.ensures.settled;
      same = (c.home.ensures.same.0 ∙ inv.same.0, c.home.ensures.same.1 ∙ inv.same.1);
    }

pub loop-smaller : goal.loop-smaller
loop-smaller g c = c.home.ensures.work c.loop-test.true

pub returns-clause-leads : goal.returns-clause-leads
returns-clause-leads g c = pool-both (g.M.Model.handlers c.args.model.now) c.args.self.now c.loop.self c.home.new.self c.loop.invariant.leads c.home.ensures.leads
