use Rattle.std.proofs.lemmas.Iterator.Consumers.{nth_from_yields_List, YieldsList-from_rest}
use Rattle.vt_list.proofs.list.List.get.Goals as goal

pub returns : goal.returns
returns g c = nth_from_yields_List c.nth.result c.nth.new.self c.args.index c.nth.ensures.ran (YieldsList-from_rest c.args.self.now c.iter.ensures)
