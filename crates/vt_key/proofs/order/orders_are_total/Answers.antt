use Rattle.vt_key.proofs.OrderLemmas.{keys, stamps, ranks}
use Rattle.vt_key.proofs.order.orders_are_total.Goals as goal

pub returns : goal.returns
returns c = record { keys = keys; stamps = stamps; ranks = ranks }
