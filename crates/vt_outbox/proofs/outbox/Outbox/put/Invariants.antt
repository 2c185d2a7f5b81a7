use Rattle.std.proofs.Common.{◌≡◌, [], ◌∷◌, ◌++◌, length}
use Rattle.vt_outbox.proofs.outbox.Outbox.put.Given as goal

abbrev pub ghost-push : goal.ghost-push
ghost-push g a = a.self.now.letters ++ a.letter ∷ []

abbrev pub invariant-loop-letter : goal.invariant-loop-letter
invariant-loop-letter g l = record l.self { letters = l.self.letters ++ l.letters } ≡ record l.fn.self { letters = l.fn.self.letters ++ l.fn.letters }

abbrev pub decreases-loop-letter : goal.decreases-loop-letter
decreases-loop-letter g l = length l.letters
