use Rattle.vt_nodes.proofs.position.Position.advance.Given as goal

abbrev pub ghost-split : goal.ghost-split
ghost-split g a = 1

abbrev pub ghost-get : goal.ghost-get
ghost-get g a = 0
