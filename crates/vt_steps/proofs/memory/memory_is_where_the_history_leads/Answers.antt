use Rattle.vt_steps.proofs.steps.MemoryLemmas.{is_where}
use Rattle.vt_steps.proofs.memory.memory_is_where_the_history_leads.Goals as goal

pub returns : goal.returns
returns g c p = is_where g.sim p
