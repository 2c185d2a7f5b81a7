use Rattle.vt_steps.proofs.steps.MemoryLemmas.{forgets}
use Rattle.vt_steps.proofs.memory.memory_forgets_what_is_committed.Goals as goal

pub returns : goal.returns
returns g c p = forgets g.sim p
