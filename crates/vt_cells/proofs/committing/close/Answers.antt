use Rattle.std.proofs.Common.{rules}
use Rattle.vt_cells.proofs.BookSteps.{close-tried}
use Rattle.vt_cells.proofs.committing.close.Goals as goal

pub returns-clause-step : goal.returns-clause-step
returns-clause-step g c sim ends part = close-tried sim part c.args.book.now c.close.new.self ends c.close.result (search rules)
