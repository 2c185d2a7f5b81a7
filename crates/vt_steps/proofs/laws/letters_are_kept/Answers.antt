use Rattle.vt_steps.proofs.letters.LetterLemmas.{letters_right}
use Rattle.vt_steps.proofs.laws.letters_are_kept.Goals as goal

pub returns : goal.returns
returns g c = letters_right g.sim
