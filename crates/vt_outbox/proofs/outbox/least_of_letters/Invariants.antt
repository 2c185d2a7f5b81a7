use Rattle.std.proofs.Common.{◌≡◌}
use Rattle.vt_key.specs.promise.Times.{TimeAtMost, earlier}
use Rattle.vt_steps.specs.promise.Letters.{least_time}
use Rattle.vt_outbox.proofs.outbox.least_of_letters.Given as goal

abbrev pub invariant-loop-letter : goal.invariant-loop-letter
invariant-loop-letter g l =
    (goal.iterator-loop-letter g).can_next l.letter-iterator ×
    (goal.iterator-loop-letter g).is_finite l.letter-iterator ×
    TimeAtMost l.least l.fn.end ×
    (earlier l.least (least_time l.fn.end l.letter-iterator) ≡ least_time l.fn.end l.fn.letters)
