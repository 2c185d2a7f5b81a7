use Rattle.std.proofs.Common.{◌≡◌, ℕ, [], ◌∷◌, ◌++◌, sym, ◌∙◌, subst}
use Rattle.vt_model.specs.promise.Simulation.{simulation_of, after}
use Rattle.vt_model.specs.promise.Sequential.{events_of, whole_run}
use Rattle.vt_model.proofs.RunLemmas.{map-next}
use Rattle.vt_world.specs.promise.Calls.{RunWorld}
use Rattle.vt_world.proofs.world.World.finals.Goals as goal

pub loop-lp-preserved : goal.loop-lp-preserved
loop-lp-preserved g c =
    let H = g.M.Model.handlers in
    let now = c.args.self.now in
    let sim = simulation_of (H now.model) now.config in
    let p = c.loop-lp.lp in
    let final : ℕ → ℕ = λ q. (H now.model).finish q (after sim q (events_of q (whole_run sim))).state in
    let value : c.final_value.result ≡ final p =
    subst (λ (v : RunWorld _ _). c.final_value.result ≡ (H v.model).finish p (after (simulation_of (H v.model) v.config) p (events_of p (whole_run (simulation_of (H v.model) v.config)))).state) c.self.view_is c.final_value.ensures in
    c.in-Ok.ensures.items ∙ (λ j. c.loop-lp.invariant j ++ value j ∷ [])
    ∙ sym (map-next final p)
