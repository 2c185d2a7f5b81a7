use Rattle.vt_steps.proofs.book.HeadlineTheorem as theorem
use Rattle.vt_steps.proofs.theorem.headline.Goals as goal

pub returns : goal.returns
returns g c = theorem.headline g.sim c.requires.1.1
