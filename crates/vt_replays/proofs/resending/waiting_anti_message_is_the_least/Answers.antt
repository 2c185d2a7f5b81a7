use Rattle.vt_replays.proofs.ResendingComputed.{waiting}
use Rattle.vt_replays.proofs.resending.waiting_anti_message_is_the_least.Goals as goal

pub returns : goal.returns
returns c = waiting
