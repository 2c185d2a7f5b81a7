use Rattle.std.proofs.Common.{◌/◌, ◌%◌, ◌+◌, sym, ap, ◌∙◌}
use Rattle.vt_calendar.specs.inside.Digits.{high_slot}
use Rattle.vt_calendar.proofs.DigitLemmas.{slot-found-priority, slot-found-low, slot-found-high}
use Rattle.vt_calendar.proofs.digits.slot_of.Goals as goal

pub returns-then-ticks-present-clause-slot : goal.returns-then-ticks-present-clause-slot
returns-then-ticks-present-clause-slot c =
    c.priority.ensures ∙ slot-found-priority c.args.now c.args.time (sym c.ticks-ticks.ensures ∙ c.if-ticks-present.true ∙ c.ticks-present.ensures)

pub returns-then-ticks-present-2-clause-slot : goal.returns-then-ticks-present-2-clause-slot
returns-then-ticks-present-2-clause-slot c =
    ap (λ t. 256 + t % 256) c.ticks-ticks.ensures
    ∙ slot-found-low c.args.now c.args.time (λ e. c.if-ticks-present.false (c.ticks-ticks.ensures ∙ e ∙ sym c.ticks-present.ensures))
    (ap (λ t. t / 256) (sym c.ticks-ticks.ensures) ∙ c.if-ticks-present-2.true ∙ ap (λ t. t / 256) c.ticks-present.ensures)

pub returns-clause-slot : goal.returns-clause-slot
returns-clause-slot c =
    c.high_slot.ensures.slot ∙ (λ i. high_slot 7 256 (c.ticks-ticks.ensures i) (c.ticks-present.ensures i))
    ∙ slot-found-high c.args.now c.args.time (λ e. c.if-ticks-present.false (c.ticks-ticks.ensures ∙ e ∙ sym c.ticks-present.ensures))
