use Rattle.vt_book.proofs.batch.Batch.in_any_order.Given as goal

abbrev pub ghost-picked : goal.ghost-picked
ghost-picked g a = g.told
