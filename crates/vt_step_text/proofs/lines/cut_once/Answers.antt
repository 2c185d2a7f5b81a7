use Rattle.std.proofs.Common.{sym}
use Rattle.vt_step_text.proofs.CutLemmas.{cut_at, not_cut}
use Rattle.vt_step_text.proofs.lines.cut_once.Goals as goal

pub returns-in_err-at-clause-parts : goal.returns-in_err-at-clause-parts
returns-in_err-at-clause-parts c = rw c.from_residual.ensures (not_cut _ c.args.text.now (sym c.in_err-at.ensures))

pub returns-clause-parts : goal.returns-clause-parts
returns-clause-parts c = cut_at _ c.args.text.now c.in_ok-at.at (sym c.in_ok-at.ensures)
