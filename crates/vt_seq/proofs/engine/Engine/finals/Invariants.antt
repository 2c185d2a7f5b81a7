use Rattle.std.proofs.Common.{◌≡◌, ℕ, map}
use Rattle.std.specs.List.{range_with_len}
use Rattle.vt_model.specs.promise.Simulation.{simulation_of, after}
use Rattle.vt_model.specs.promise.Sequential.{after_steps, events_of}
use Rattle.vt_seq.specs.inside.StandsFor.{StandsAt}
use Rattle.vt_seq.proofs.engine.Engine.finals.Given as goal

abbrev pub invariant-loop-p : goal.invariant-loop-p
invariant-loop-p g l =
    (n : ℕ) → StandsAt (simulation_of (g.M.Model.handlers l.self.model.now) l.self.config) n l.self.pending l.self.processes.items
    → l.values.items ≡ map (λ p. (g.M.Model.handlers l.self.model.now).finish p (after (simulation_of (g.M.Model.handlers l.self.model.now) l.self.config) p (events_of p (after_steps (simulation_of (g.M.Model.handlers l.self.model.now) l.self.config) n).executed)).state) (range_with_len 0 l.p)
