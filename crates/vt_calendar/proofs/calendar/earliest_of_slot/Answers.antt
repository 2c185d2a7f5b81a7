use Rattle.std.proofs.Common.{◌≡◌, ◌≤◌, sym, ◌∙◌, arith}
use Rattle.vt_key.specs.promise.Times.{ticks_of, priority_of}
use Rattle.vt_calendar.specs.inside.Kept.{time_of}
use Rattle.vt_calendar.proofs.KeptLemmas.{earliest-own}
use Rattle.vt_calendar.proofs.calendar.earliest_of_slot.Goals as goal

pub returns-then-priority-eq0 : goal.returns-then-priority-eq0
returns-then-priority-eq0 g c =
    let first : priority_of c.args.time ≡ 0 = sym c.priority.ensures ∙ c.if-priority-eq0.true in
    sym (earliest-own c.args.time c.args.letters.now (λ y m.
    let ticks : ticks_of c.args.time ≤ ticks_of (time_of y) = c.requires.one_tick c.if-slot-lt-LOW_SLOTS.true y m in
    omega (arith, ticks, first)))
