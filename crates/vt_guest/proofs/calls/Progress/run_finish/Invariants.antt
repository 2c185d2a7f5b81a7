use Rattle.std.proofs.Common.{◌≡◌, ℕ, []}
use Rattle.vt_guest.specs.inside.Progresses.{handling_of}
use Rattle.vt_guest.specs.promise.Handling.{handled}
use Rattle.vt_guest.proofs.calls.Progress.run_finish.Given as goal

abbrev pub invariant-calls : goal.invariant-calls
invariant-calls g l = (words : ℕ → ℕ) → handled l.code l.host words l.calls (handling_of g.row.SIZE l.self l.state) [] [] ≡ handled l.code l.host words l.fn.self.left (handling_of g.row.SIZE l.fn.self l.fn.state) [] []

abbrev pub decreases-calls : goal.decreases-calls
decreases-calls g l = l.calls
