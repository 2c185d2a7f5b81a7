use Rattle.std.specs.Prelude.{length, ◌-◌}
use Rattle.vt_list.proofs.iter.IterBackIterator.next.Given as goal

abbrev pub ghost-get : goal.ghost-get
ghost-get g a = length a.self.now.owned - 1

abbrev pub ghost-front : goal.ghost-front
ghost-front g a = length a.self.now.owned - 1
