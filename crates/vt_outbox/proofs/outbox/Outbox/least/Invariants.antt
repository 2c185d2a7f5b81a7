use Rattle.std.proofs.Common.{◌≡◌}
use Rattle.vt_steps.specs.promise.Letters.{least_time}
use Rattle.vt_outbox.proofs.OutboxLemmas.{letters_below}
use Rattle.vt_outbox.proofs.outbox.Outbox.least.Given as goal

abbrev pub invariant-loop-list : goal.invariant-loop-list
invariant-loop-list g l = l.least ≡ least_time l.fn.end (letters_below l.self.config l.list-index l.self.letters)
