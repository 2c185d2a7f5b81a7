use Rattle.vt_pool.proofs.OpeningLemmas.{led-opening}
use Rattle.vt_pool.proofs.pool.Pool.new.Goals as goal

pub returns-clause-opening : goal.returns-clause-opening
returns-clause-opening g c =
    led-opening (g.M.Model.handlers c.args.model.now) c.args.config c.args.w c.in-Ok.pool c.home_all.new.self c.home_all.ensures.same.0 c.home_all.ensures.same.1 c.in-Ok.ensures.opening c.home_all.ensures.leads
