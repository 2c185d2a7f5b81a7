use Rattle.vt_steps.proofs.letters.QueueOrder.{queues_rise}
use Rattle.vt_steps.proofs.histories.queues_rise.Goals as goal

pub returns : goal.returns
returns g c = queues_rise g.sim
