use Rattle.std.proofs.Common.{◌≡◌, ◌+◌, ◌*◌, length}
use Rattle.vt_steps.specs.promise.World.{LogicalProcess}
use Rattle.vt_lp.specs.inside.Held.{StandsFor, AllWithinRun}
use Rattle.vt_kernel.specs.inside.Settled.{IsLed}
use Rattle.vt_kernel.proofs.settling.settle_process.Given as goal

abbrev pub invariant-loop-undone : goal.invariant-loop-undone
invariant-loop-undone g l = record {
  led : (h : LogicalProcess _) → StandsFor (g.M.Model.handlers l.fn.model) l.fn.process h → IsLed (g.M.Model.handlers l.fn.model) h l.process l.fn.outbox l.outbox l.undone;
  within : AllWithinRun l.fn.process.config l.fn.outbox → AllWithinRun l.fn.process.config l.outbox;
  lp : l.process.lp ≡ l.fn.process.lp;
  config : l.process.config ≡ l.fn.process.config;
}

abbrev pub decreases-loop-undone : goal.decreases-loop-undone
decreases-loop-undone g l = 2 * length l.process.past + length l.process.pending + length l.process.waiting
