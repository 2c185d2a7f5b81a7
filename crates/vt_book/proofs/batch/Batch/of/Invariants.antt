use Rattle.vt_book.proofs.batch.Batch.of.Given as goal

abbrev pub ghost-in_any_order : goal.ghost-in_any_order
ghost-in_any_order a = a.rows.items
