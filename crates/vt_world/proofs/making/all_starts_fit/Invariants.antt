use Rattle.std.proofs.Common.{ℕ, ◌+◌, ◌<◌, ◌≤◌, length}
use Rattle.vt_key.specs.declared.limits.TheConstants.{MAX_COUNT}
use Rattle.vt_model.specs.promise.Simulation.{simulation_of}
use Rattle.vt_steps.specs.promise.World.{start_sends}
use Rattle.vt_world.proofs.making.all_starts_fit.Given as goal

abbrev pub invariant-loop-w : goal.invariant-loop-w
invariant-loop-w g l = (v : ℕ) → v < l.w → l.serial + length (start_sends (simulation_of (g.M.Model.handlers l.model) l.config) v) ≤ MAX_COUNT
