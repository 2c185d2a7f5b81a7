use Rattle.vt_network.proofs.KeptLemmas.{packets_kept}
use Rattle.vt_network.proofs.law.packets_are_kept.Goals as goal

pub returns : goal.returns
returns c = packets_kept c.args.model.now c.args.config
