use Rattle.std.specs.Prelude.{length, ◌-◌}
use Rattle.vt_nodes.proofs.splitting.before_last.Given as goal

abbrev pub ghost-split : goal.ghost-split
ghost-split g a = length a.self.owned - 1

abbrev pub ghost-get : goal.ghost-get
ghost-get g a = 0
