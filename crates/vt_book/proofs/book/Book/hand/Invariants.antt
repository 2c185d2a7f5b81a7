use Rattle.std.proofs.Common.{◌++◌}
use Rattle.vt_book.proofs.book.Book.hand.Given as goal

abbrev pub ghost-take : goal.ghost-take
ghost-take a = a.self.now.book.rows ++ a.batch
