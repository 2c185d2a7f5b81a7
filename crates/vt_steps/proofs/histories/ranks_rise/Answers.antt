use Rattle.vt_steps.proofs.letters.Ranks.{ranks_rise}
use Rattle.vt_steps.proofs.histories.ranks_rise.Goals as goal

pub returns : goal.returns
returns g c = ranks_rise g.sim c.requires.1.1
