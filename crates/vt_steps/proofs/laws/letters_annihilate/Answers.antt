use Rattle.vt_steps.proofs.letters.Annihilation.{annihilate}
use Rattle.vt_steps.proofs.laws.letters_annihilate.Goals as goal

pub returns : goal.returns
returns g c = annihilate g.event
