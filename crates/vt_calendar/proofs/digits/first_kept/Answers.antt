use Rattle.std.proofs.Common.{◌≡◌, ◌/◌, ◌*◌, sym, ap, ◌∙◌, arith}
use Rattle.vt_key.specs.promise.Times.{ticks_of, at}
use Rattle.vt_calendar.proofs.DigitLemmas.{kept-same, kept-high}
use Rattle.vt_calendar.proofs.digits.first_kept.Goals as goal

pub returns-then-ticks : goal.returns-then-ticks
returns-then-ticks c = kept-same c.args.now c.args.back (sym c.ticks.ensures ∙ c.if-ticks.true ∙ c.ticks-2.ensures)

pub returns : goal.returns
returns c =
    let first : c.tick.result ≡ at c.ticks-3.result 0 = c.tick.ensures in
    let now : c.ticks-3.result ≡ ticks_of c.args.now = c.ticks-3.ensures in
    ap (λ s. s / 256 * 256) c.slot_of.ensures.slot
    ∙ kept-high c.args.now c.args.back c.tick.result (λ e. c.if-ticks.false (c.ticks.ensures ∙ e ∙ sym c.ticks-2.ensures)) (omega (arith, first, now))
