use Rattle.std.proofs.Common.{◌≡◌, take}
use Rattle.vt_kernel.specs.inside.Held.{held_values}
use Rattle.vt_pool.specs.inside.View.{number_at, processes_from}
use Rattle.vt_pool.proofs.pool.Pool.finals.Given as goal

abbrev pub invariant-loop-process : goal.invariant-loop-process
invariant-loop-process g l = record {
  at : l.p ≡ number_at l.fn.self.config l.fn.self.worker l.process-index;
  values : l.values.items ≡ held_values (g.M.Model.handlers l.model) (processes_from l.fn.self.config l.fn.self.worker 0 (take l.process-index l.fn.self.stock.triples) l.fn.self.stock);
}
