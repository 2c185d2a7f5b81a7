use Rattle.vt_step_text.proofs.ReplayLemmas.{rightly_answered}
use Rattle.vt_step_text.proofs.laws.replies_are_those_of_the_steps.Goals as goal

pub returns : goal.returns
returns g c = rightly_answered g.sim
