use Rattle.std.proofs.Common.{◌≡◌, map}
use Rattle.std.specs.List.{range_with_len}
use Rattle.vt_model.specs.promise.Simulation.{simulation_of}
use Rattle.vt_steps.specs.inside.Finals.{final_value}
use Rattle.vt_station.proofs.crew.all_finals.Given as goal

abbrev pub invariant-loop-lp : goal.invariant-loop-lp
invariant-loop-lp g l = l.finals.items ≡ map (final_value (simulation_of (g.M.Model.handlers l.model) l.config)) (range_with_len 0 l.lp)
