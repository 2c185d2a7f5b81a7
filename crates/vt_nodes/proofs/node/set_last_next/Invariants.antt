use Rattle.std.specs.Prelude.{length, ◌-◌}
use Rattle.vt_nodes.proofs.node.set_last_next.Given as goal

abbrev pub ghost-split : goal.ghost-split
ghost-split g a = length a.self.owned - 1
