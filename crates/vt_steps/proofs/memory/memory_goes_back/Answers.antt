use Rattle.vt_steps.proofs.steps.MemoryLemmas.{goes_back}
use Rattle.vt_steps.proofs.memory.memory_goes_back.Goals as goal

pub returns : goal.returns
returns g c p = goes_back g.sim p
