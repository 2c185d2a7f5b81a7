use Rattle.vt_steps.proofs.letters.Stamps.{copies_are_right}
use Rattle.vt_steps.proofs.histories.copies_are_right.Goals as goal

pub returns : goal.returns
returns g c serial steps stamp = copies_are_right g.sim serial stamp steps
