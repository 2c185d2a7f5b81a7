use Rattle.std.proofs.Common.{◌≡◌, map}
use Rattle.std.specs.List.{range_with_len}
use Rattle.vt_model.specs.promise.Simulation.{simulation_of, after}
use Rattle.vt_model.specs.promise.Sequential.{events_of, whole_run}
use Rattle.vt_world.proofs.world.World.finals.Given as goal

abbrev pub invariant-loop-lp : goal.invariant-loop-lp
invariant-loop-lp g l =
    let sim = simulation_of (g.M.Model.handlers l.self.model) l.self.config in
    l.values.items ≡ map (λ p. (g.M.Model.handlers l.self.model).finish p (after sim p (events_of p (whole_run sim))).state) (range_with_len 0 l.lp)
