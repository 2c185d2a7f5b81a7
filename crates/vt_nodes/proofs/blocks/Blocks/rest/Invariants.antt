use Rattle.std.specs.Prelude.{length}
use Rattle.vt_nodes.proofs.blocks.Blocks.rest.Given as goal

abbrev pub ghost-part : goal.ghost-part
ghost-part g a = (g.count, length a.self.now.owned)
