use Rattle.std.proofs.Common.{◌≡◌, ◌<◌, ◌≤◌, length}
use Rattle.vt_key.specs.promise.Lists.{Among}
use Rattle.vt_key.specs.declared.order.Rank.{Rank}
use Rattle.vt_key.specs.declared.letter.Letter.{Letter}
use Rattle.vt_pool.specs.inside.Inside.{IsStockInside}
use Rattle.vt_pool.specs.inside.Share.{AreSettledBut, PoolLeadsTo}
use Rattle.vt_pool.specs.inside.Pool.{weight_of, with_waiting}
use Rattle.vt_pool.proofs.pool.Pool.undo_from.Given as goal

abbrev pub invariant-loop-self : goal.invariant-loop-self
invariant-loop-self g l = record {
  known : l.self.worker < l.self.config.workers;
  inside : IsStockInside l.self.config l.self.worker l.self.stock;
  leads : PoolLeadsTo (g.M.Model.handlers l.model) (with_waiting g.waits l.fn.self) (with_waiting g.waits l.self);
  settled : (r : Rank) → AreSettledBut r l.fn.self.stock → AreSettledBut r l.self.stock;
  there : length l.self.stock.triples ≡ length l.fn.self.stock.triples;
  work : weight_of l.self ≤ weight_of l.fn.self;
  still : (letter : Letter _) → Among letter l.fn.self.stock.pending → Among letter l.self.stock.pending;
  same : (l.self.worker ≡ l.fn.self.worker) × (l.self.config ≡ l.fn.self.config) × (l.self.heard ≡ l.fn.self.heard) × (l.self.stock.waiting ≡ l.fn.self.stock.waiting);
}

abbrev pub decreases-loop-self : goal.decreases-loop-self
decreases-loop-self g l = length l.self.stock.past
