use Rattle.std.proofs.Common.{[]}
use Rattle.vt_book.proofs.book.Book.new.Given as goal

abbrev pub ghost-picked : goal.ghost-picked
ghost-picked a = []

abbrev pub ghost-picked-2 : goal.ghost-picked-2
ghost-picked-2 a = []
