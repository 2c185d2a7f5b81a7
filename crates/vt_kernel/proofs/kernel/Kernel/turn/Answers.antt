use Rattle.vt_kernel.proofs.PartLemmas.{stands-cut}
use Rattle.vt_kernel.proofs.kernel.Kernel.turn.Goals as goal

pub returns-clause-stands : goal.returns-clause-stands
returns-clause-stands g c handlers part s = stands-cut c.self.view_is handlers c.args.announced part s _ c.other-self-inside.ensures _ c.end-self-inside.ensures
