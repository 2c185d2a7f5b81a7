use Rattle.std.proofs.Common.{◌≡◌}
use Rattle.vt_pool.specs.inside.Inside.{AreSettled}
use Rattle.vt_pool.specs.inside.Share.{PoolLeadsTo}
use Rattle.vt_pool.specs.inside.Pool.{weight_of}
use Rattle.vt_pool.proofs.pool.Pool.home_all.Given as goal

abbrev pub invariant-loop : goal.invariant-loop
invariant-loop g l = record {
  leads : PoolLeadsTo (g.M.Model.handlers l.model) l.fn.self l.self;
  settled : AreSettled l.self.stock;
  same : (l.self.worker ≡ l.fn.self.worker) × (l.self.config ≡ l.fn.self.config);
}

abbrev pub decreases-loop : goal.decreases-loop
decreases-loop g l = weight_of l.self
