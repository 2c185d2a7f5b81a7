use Rattle.std.proofs.Common.{[], ◌∷◌, ◌++◌, sym, ◌∙◌}
use Rattle.vt_model.specs.promise.Simulation.{simulation_of}
use Rattle.vt_model.proofs.RunLemmas.{map-next}
use Rattle.vt_steps.specs.inside.Finals.{final_value}
use Rattle.vt_station.proofs.crew.all_finals.Goals as goal

pub loop-lp-preserved : goal.loop-lp-preserved
loop-lp-preserved g c =
    let final = final_value (simulation_of (g.M.Model.handlers c.args.model.now) c.args.config) in
    let lp = c.loop-lp.lp in
    c.in-Ok.ensures.items ∙ (λ j. c.loop-lp.invariant j ++ c.in-Some.ensures j ∷ [])
    ∙ sym (map-next final lp)
