use Rattle.std.proofs.Common.{arith}
use Rattle.vt_kernel.proofs.MakeLemmas.{few-sent}
use Rattle.vt_world.proofs.world.World.new.Goals as goal

pub open-requires-clause-fits : goal.open-requires-clause-fits
open-requires-clause-fits g c κs within passes =
    let model = c.args.model.now in
    let config = c.args.config in
    let few = few-sent (g.M.Model.handlers model) config (g.met.M.Model.start_within model) (g.met.M.Model.forward_within model) passes.0 passes.1 in
    let over = passes.2 in
    omega (arith, few, over, config.few_processes, config.few_workers)
