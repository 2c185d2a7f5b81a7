use Rattle.std.proofs.Common.{nat_lt, ap, ◌∙◌}
use Rattle.vt_key.specs.promise.Times.{ticks_of}
use Rattle.vt_pending.proofs.Placing.{by-ticks}
use Rattle.vt_pending.proofs.buckets.is_earlier.Goals as goal

pub returns : goal.returns
returns c other =
    (λ i. nat_lt ((c.ticks.ensures ∙ ap ticks_of c.when.ensures) i) ((c.ticks-2.ensures ∙ ap ticks_of c.when-2.ensures) i))
    ∙ by-ticks c.args.rank.now c.args.other.now other
