use Rattle.std.proofs.Common.{◌≡◌, sym, subst}
use Rattle.vt_model.specs.promise.Simulation.{simulation_of}
use Rattle.vt_steps.specs.promise.World.{opening_part}
use Rattle.vt_kernel.specs.inside.Held.{HeldWorker, StandsFor}
use Rattle.vt_places.proofs.worker.open.Goals as goal

pub returns-clause-opening : goal.returns-clause-opening
returns-clause-opening g c =
    let H = g.M.Model.handlers c.args.model.now in
    subst (λ (k : HeldWorker _ _ _). StandsFor H k (opening_part (simulation_of H c.args.config) 0 c.args.w)) (sym c.in_ok-engine.ensures.made) c.in_ok-kernel.ensures.opening

pub returns-clause-made : goal.returns-clause-made
returns-clause-made g c =
    subst (λ (k : HeldWorker _ _ _). (k.worker ≡ c.args.w) × (k.config ≡ c.args.config)) (sym c.in_ok-engine.ensures.made) c.in_ok-kernel.ensures.made
