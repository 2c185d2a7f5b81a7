use Rattle.std.proofs.Common.{subst, sym, arith}
use Rattle.vt_outbox.specs.inside.Outbox.{IsSorted}
use Rattle.vt_outbox.proofs.OutboxLemmas.{sorted-none}
use Rattle.vt_outbox.proofs.outbox.Outbox.new.Goals as goal

pub invariant_of-result : goal.invariant_of-result
invariant_of-result g c =
    let past = c.loop-test.false in
    let within = c.loop.auto.counter-end in
    subst (IsSorted c.args.config c.loop.lists.items 0) (sym c.picked.ensures)
    (sorted-none c.args.config c.loop.counter c.loop.lists.items c.loop.invariant (omega (arith, past, within)))
