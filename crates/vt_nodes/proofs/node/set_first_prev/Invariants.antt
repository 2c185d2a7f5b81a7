use Rattle.vt_nodes.proofs.node.set_first_prev.Given as goal

abbrev pub ghost-split : goal.ghost-split
ghost-split g a = 1
