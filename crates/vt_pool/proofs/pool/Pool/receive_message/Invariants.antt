use Rattle.vt_pool.proofs.pool.Pool.receive_message.Given as goal

abbrev pub ghost-undo_from : goal.ghost-undo_from
ghost-undo_from g a = a.self.now.stock.waiting
