use Rattle.std.proofs.Common.{◌<◌, ◌^◌, ◌+◌, inl, inr, ◌∙◌}
use Rattle.vt_calendar.proofs.DigitLemmas.{high-known, high-next}
use Rattle.vt_calendar.proofs.digits.+high_slot.Goals as goal
use Rattle.vt_calendar.proofs.digits.+high_slot.Goals.{then-digits-eq0-via-then-digits-eq0, then-digits-eq0-via-else-digits-eq0+then-ticks-present}

pub returns-then-digits-eq0-clause-slot : goal.returns-then-digits-eq0-clause-slot
returns-then-digits-eq0-clause-slot t c =
    let small : c.args.ticks < 256 ^ (c.args.digits + 1) = c.requires.small in
    high-known c.args.digits c.args.first c.args.ticks c.args.present (elim c.then-digits-eq0.branch [
      | then-digits-eq0-via-then-digits-eq0 w ↦ inl w.if-digits-eq0.true
      | then-digits-eq0-via-else-digits-eq0+then-ticks-present w ↦ inr w.if-ticks-present.true
    ]) (λ none. rw none at small)

pub returns-clause-slot : goal.returns-clause-slot
returns-clause-slot t c =
    c.high_slot.ensures.slot ∙ high-next c.args.digits c.args.first c.args.ticks c.args.present c.if-digits-eq0.false c.if-ticks-present.false
