use Rattle.vt_pool.proofs.ForceLemmas.{pool-nothing}
use Rattle.vt_pool.proofs.pool.Pool.home_left.Goals as goal

pub returns-else-has_for-clause-leads : goal.returns-else-has_for-clause-leads
returns-else-has_for-clause-leads g c = pool-nothing (g.M.Model.handlers c.args.model.now) c.args.self.now
