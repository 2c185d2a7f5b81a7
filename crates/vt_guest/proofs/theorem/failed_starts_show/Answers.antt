use Rattle.std.proofs.Common.{arith}
use Rattle.vt_guest.proofs.TrapLemmas.{shows}
use Rattle.vt_guest.proofs.theorem.failed_starts_show.Goals as goal

pub returns-clause-shows : goal.returns-clause-shows
returns-clause-shows g c = λ lp why t known early e. shows c.args.guest.now c.args.config lp why t known early e

pub returns-clause-early : goal.returns-clause-early
returns-clause-early g c = omega (arith, c.args.config.some_time)
