use Rattle.std.specs.Prelude.{length, ◌-◌}
use Rattle.vt_nodes.proofs.chain.Chain.last.Given as goal

abbrev pub ghost-get : goal.ghost-get
ghost-get g a = length a.self.now.owned - 1
