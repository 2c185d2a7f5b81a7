use Rattle.vt_steps.proofs.history.HistoriesTheorem.{histories}
use Rattle.vt_steps.proofs.histories.histories_are_right.Goals as goal

pub returns : goal.returns
returns g c serial steps = (histories g.sim c.requires.1.1 serial steps).histories
