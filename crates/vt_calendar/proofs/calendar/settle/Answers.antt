use Rattle.vt_calendar.proofs.TakenLemmas.{ready-open}
use Rattle.vt_calendar.proofs.calendar.settle.Goals as goal

pub returns-then-is_empty-clause-ready : goal.returns-then-is_empty-clause-ready
returns-then-is_empty-clause-ready g c =
    λ late kept first. ready-open c.args.now.now c.open.new.now c.args.present.now late c.open.result c.args.slots.now c.open.new.slots kept (c.is_empty.ensures.0 c.if-is_empty.true) first
    c.open.ensures.spread c.open.ensures.placed c.open.ensures.first
