use Rattle.vt_outbox.proofs.outbox.Outbox.take_for.Given as goal

abbrev pub ghost-picked : goal.ghost-picked
ghost-picked g a = g.letters
