use Rattle.vt_guest.proofs.TrapLemmas.{trapped-event, failed-event, trap_gives-event, start-fails, marked}
use Rattle.vt_guest.proofs.theorem.traps_are_results.Goals as goal

pub returns-clause-event : goal.returns-clause-event
returns-clause-event g c = λ guest lps lp now w s words why whole e. trap_gives-event s _ _ _ (trapped-event guest lps lp now w s words why whole e)

pub returns-clause-failed : goal.returns-clause-failed
returns-clause-failed g c = λ guest lps lp now w s words some. trap_gives-event s _ _ _ (failed-event guest lps lp now w s words some)

pub returns-clause-start : goal.returns-clause-start
returns-clause-start g c = λ guest lps lp words why e. start-fails guest lps lp words why e

pub returns-clause-marked : goal.returns-clause-marked
returns-clause-marked g c = λ why address. marked why address
