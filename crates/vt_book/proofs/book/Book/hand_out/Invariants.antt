use Rattle.vt_steps.specs.promise.World.{book_records}
use Rattle.vt_book.proofs.book.Book.hand_out.Given as goal

abbrev pub ghost-give : goal.ghost-give
ghost-give a = book_records a.self.now.end a.self.now.book
