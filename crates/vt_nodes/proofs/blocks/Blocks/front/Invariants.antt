use Rattle.vt_nodes.proofs.blocks.Blocks.front.Given as goal

abbrev pub ghost-part : goal.ghost-part
ghost-part g a = (0, g.count)
