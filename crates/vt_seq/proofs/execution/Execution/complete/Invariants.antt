use Rattle.std.proofs.Common.{◌≡◌, ℕ, ◌+◌}
use Rattle.vt_model.specs.promise.Simulation.{simulation_of}
use Rattle.vt_model.specs.promise.Sequential.{weight}
use Rattle.vt_seq.specs.inside.Given.{AddsSteps}
use Rattle.vt_seq.specs.inside.Standing.{IsAt}
use Rattle.vt_seq.proofs.execution.Execution.complete.Given as goal

abbrev pub invariant-loop : goal.invariant-loop
invariant-loop g l = record {
  model : l.self.model ≡ l.initial.self.model;
  config : l.self.config ≡ l.initial.self.config;
  steps : (n : ℕ) → IsAt (simulation_of (g.M.Model.handlers l.initial.self.model) l.initial.self.config) n l.initial.self
      → (k : ℕ) × IsAt (simulation_of (g.M.Model.handlers l.initial.self.model) l.initial.self.config) (k + n) l.self
      × AddsSteps (simulation_of (g.M.Model.handlers l.initial.self.model) l.initial.self.config) n k l.initial.records.items l.records.items;
}

abbrev pub decreases-loop : goal.decreases-loop
decreases-loop g l = weight (simulation_of (g.M.Model.handlers l.initial.self.model) l.initial.self.config) l.self.pending
