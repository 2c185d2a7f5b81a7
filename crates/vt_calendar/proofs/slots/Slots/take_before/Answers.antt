use Rattle.vt_calendar.proofs.SlotLemmas.{moved-more, stayed-more, fewer, none-empty}
use Rattle.vt_calendar.proofs.slots.Slots.take_before.Goals as goal

pub loop-slot-smaller : goal.loop-slot-smaller
loop-slot-smaller g c = fewer c.in-Some.slot c.take_all-taken.result c.loop-slot.self c.take_all-taken.new.self c.take_all-taken.ensures c.in-Some.ensures.used.1

pub loop-slot-preserved : goal.loop-slot-preserved
loop-slot-preserved g c = (
  moved-more c.args.letters.now c.loop-slot.letters c.take_all-taken.result c.put_in_front.new.others c.in-Some.slot c.args.self.now c.loop-slot.self c.take_all-taken.new.self c.loop-slot.invariant.0 c.take_all-taken.ensures c.put_in_front.ensures.same,
  stayed-more c.args.bound c.in-Some.slot c.take_all-taken.result c.args.self.now c.loop-slot.self c.take_all-taken.new.self c.if-slot-bound.false c.take_all-taken.ensures c.loop-slot.invariant.1,
)

pub returns-in_default : goal.returns-in_default
returns-in_default g c = record {
  same = c.loop-slot.invariant.0;
  stayed = c.loop-slot.invariant.1;
  emptied = λ i l from below at. none-empty c.loop-slot.self i l c.in_default.ensures.nothing at;
}
