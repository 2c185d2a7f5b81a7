use Rattle.vt_steps.proofs.steps.MemoryLemmas.{goes_on}
use Rattle.vt_steps.proofs.memory.memory_goes_on.Goals as goal

pub returns : goal.returns
returns g c p = goes_on g.sim p
