use Rattle.vt_steps.specs.promise.Next.{reached}
use Rattle.vt_steps.proofs.steps.Shape.{reached-shape, shaped-has_each}
use Rattle.vt_steps.proofs.histories.each_process_is_there.Goals as goal

pub returns : goal.returns
returns g c serial steps = shaped-has_each g.sim (reached g.sim serial steps) (reached-shape g.sim serial steps) c.requires.1.1.some_worker
