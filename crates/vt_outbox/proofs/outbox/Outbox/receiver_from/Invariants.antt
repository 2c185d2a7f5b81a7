use Rattle.std.proofs.Common.{◌≡◌, ℕ, ◌<◌, ◌≤◌, false}
use Rattle.vt_steps.specs.promise.CellSteps.{may_send}
use Rattle.vt_outbox.proofs.outbox.Outbox.receiver_from.Given as goal

abbrev pub invariant-loop-u : goal.invariant-loop-u
invariant-loop-u g l = record {
  from : l.fn.v ≤ l.u;
  before : (k : ℕ) → l.fn.v ≤ k → k < l.u → may_send l.fn.self.config.workers l.own k l.fn.self.letters ≡ false;
}
