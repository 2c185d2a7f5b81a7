use Rattle.vt_outbox.proofs.outbox.Outbox.push.Given as goal

abbrev pub ghost-picked : goal.ghost-picked
ghost-picked g a = g.letters
