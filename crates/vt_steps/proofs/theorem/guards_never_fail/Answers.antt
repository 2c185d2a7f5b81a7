use Rattle.vt_steps.proofs.book.HeadlineTheorem.{guards-pass}
use Rattle.vt_steps.proofs.theorem.guards_never_fail.Goals as goal

pub returns : goal.returns
returns g c serial steps = guards-pass g.sim c.requires.1.1 serial steps
