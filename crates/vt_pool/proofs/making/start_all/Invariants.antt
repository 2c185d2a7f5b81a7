use Rattle.std.proofs.Common.{◌≡◌, ◌+◌, ◌-◌, ◌*◌, ◌<◌, length, map}
use Rattle.vt_key.specs.declared.letter.Sign.TheVariants.{Plus}
use Rattle.vt_model.specs.promise.Simulation.{simulation_of}
use Rattle.vt_steps.specs.promise.Letters.{stamped, signed}
use Rattle.vt_lp.specs.inside.Held.{AllWithinRun}
use Rattle.vt_kernel.proofs.MakeLemmas.{started_sends}
use Rattle.vt_pool.specs.inside.Opening.{AreStarted}
use Rattle.vt_pool.proofs.making.start_all.Given as goal

abbrev pub invariant-loop-p : goal.invariant-loop-p
invariant-loop-p g l = record {
  at : l.p ≡ length l.processes.items * l.config.workers + l.w;
  near : l.p < l.config.lps + l.config.workers;
  started : AreStarted (g.M.Model.handlers l.model) l.config l.w 0 l.processes.items;
  outbox : l.outbox ≡ record { config = l.config; letters = map (signed Plus) (stamped l.w 0 (started_sends (simulation_of (g.M.Model.handlers l.model) l.config) l.w (length l.processes.items))) };
  serial : l.serial ≡ length (started_sends (simulation_of (g.M.Model.handlers l.model) l.config) l.w (length l.processes.items));
  within : AllWithinRun l.config l.outbox.letters;
}

abbrev pub decreases-loop-p : goal.decreases-loop-p
decreases-loop-p g l = l.config.lps + l.config.workers - l.p
