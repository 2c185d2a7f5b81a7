use Rattle.std.specs.Prelude.{length}
use Rattle.vt_pending.proofs.buckets.+take_list.Given as goal

abbrev pub decreases-take_list : goal.decreases-take_list
decreases-take_list g l = length l.lists.now
