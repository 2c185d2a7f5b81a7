use Rattle.vt_steps.proofs.steps.MemoryLemmas.{still_reached, still_reached_by_run}
use Rattle.vt_steps.proofs.memory.values_stay_reached.Goals as goal

pub returns : goal.returns
returns g c = record { step = still_reached g.sim; run = still_reached_by_run g.sim }
