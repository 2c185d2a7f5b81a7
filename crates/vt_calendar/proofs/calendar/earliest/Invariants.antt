use Rattle.std.proofs.Common.{◌≡◌}
use Rattle.vt_calendar.specs.inside.Kept.{earliest}
use Rattle.vt_calendar.proofs.calendar.earliest.Given as goal

abbrev pub invariant-loop-letter : goal.invariant-loop-letter
invariant-loop-letter g l =
    (goal.iterator-loop-letter g).can_next l.letter-iterator ×
    (goal.iterator-loop-letter g).is_finite l.letter-iterator ×
    (earliest l.fn.time l.fn.letters ≡ earliest l.least l.letter-iterator)
