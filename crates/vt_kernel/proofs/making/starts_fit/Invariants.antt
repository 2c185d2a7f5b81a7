use Rattle.std.proofs.Common.{◌≡◌, ℕ, ◌+◌, ◌-◌, ◌*◌, ◌<◌, ◌≤◌, length}
use Rattle.vt_key.specs.declared.limits.TheConstants.{MAX_COUNT}
use Rattle.vt_model.specs.promise.Simulation.{simulation_of}
use Rattle.vt_kernel.proofs.MakeLemmas.{started_sends}
use Rattle.vt_kernel.proofs.making.starts_fit.Given as goal

abbrev pub invariant-loop-p : goal.invariant-loop-p
invariant-loop-p g l = (n : ℕ) × (l.p ≡ n * l.config.workers + l.w) × (l.p < l.config.lps + l.config.workers)
    × (l.serial ≡ l.fn.serial + length (started_sends (simulation_of (g.M.Model.handlers l.model) l.config) l.w n)) × (l.serial ≤ MAX_COUNT)

abbrev pub decreases-loop-p : goal.decreases-loop-p
decreases-loop-p g l = l.config.lps + l.config.workers - l.p
