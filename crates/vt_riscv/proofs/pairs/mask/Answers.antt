use Rattle.vt_riscv.proofs.PairLemmas.{ones}
use Rattle.vt_riscv.proofs.pairs.mask.Goals as goal

pub returns : goal.returns
returns c = ones c.args.amount c.requires
