use Rattle.vt_steps.proofs.letters.MailLemmas.{mail_kept}
use Rattle.vt_steps.proofs.laws.mail_is_kept.Goals as goal

pub returns : goal.returns
returns g c = mail_kept g.sim
