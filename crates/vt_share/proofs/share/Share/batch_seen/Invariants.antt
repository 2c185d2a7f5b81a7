use Rattle.vt_share.proofs.share.Share.batch_seen.Given as goal

abbrev pub ghost-in_any_order : goal.ghost-in_any_order
ghost-in_any_order g a = g.told
