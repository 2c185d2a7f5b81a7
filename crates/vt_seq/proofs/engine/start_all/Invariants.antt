use Rattle.std.proofs.Common.{ℕ, ◌<◌, ◌≤◌, slice_index_or}
use Rattle.vt_model.specs.promise.Simulation.{simulation_of}
use Rattle.vt_key.specs.declared.limits.TheConstants.{MAX_COUNT}
use Rattle.vt_model.specs.inside.Process.{IsProcessStream}
use Rattle.vt_seq.proofs.StartLemmas.{AllStarted}
use Rattle.vt_seq.proofs.engine.start_all.Given as goal

abbrev pub invariant-loop-p : goal.invariant-loop-p
invariant-loop-p g l = record {
  started : AllStarted (simulation_of (g.M.Model.handlers l.model) l.config) l.p l.pending l.processes.items;
  numbered : (r : ℕ) (d : _) → r < l.p → (slice_index_or l.processes.items r d).number ≤ MAX_COUNT;
  streams : (r : ℕ) (d : _) → r < l.p → IsProcessStream l.config.seed r (slice_index_or l.processes.items r d).stream;
}
