use Rattle.vt_book.proofs.book.Book.give.Given as goal

abbrev pub ghost-picked : goal.ghost-picked
ghost-picked g a = g.all
