use Rattle.vt_traffic.proofs.KeptLemmas.{cars_kept}
use Rattle.vt_traffic.proofs.law.cars_are_kept.Goals as goal

pub returns : goal.returns
returns c = cars_kept c.args.model.now c.args.config
