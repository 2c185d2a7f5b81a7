use Rattle.vt_outbox.proofs.outbox.Outbox.put_back.Given as goal

abbrev pub ghost-picked : goal.ghost-picked
ghost-picked g a = g.letters
