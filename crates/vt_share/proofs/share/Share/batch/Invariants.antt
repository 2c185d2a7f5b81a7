use Rattle.vt_pool.specs.inside.Forgotten.{rows_of_held}
use Rattle.vt_share.proofs.share.Share.batch.Given as goal

abbrev pub ghost-batch_seen : goal.ghost-batch_seen
ghost-batch_seen g a = rows_of_held a.self.now.floor a.self.now.processes
