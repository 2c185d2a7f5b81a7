use Rattle.vt_nodes.proofs.node.read_first.Given as goal

abbrev pub ghost-get : goal.ghost-get
ghost-get g a = 0
