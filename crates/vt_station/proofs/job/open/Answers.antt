use Rattle.std.proofs.Common.{◌≡◌, sym, subst}
use Rattle.vt_model.specs.promise.Simulation.{simulation_of}
use Rattle.vt_steps.specs.promise.World.{opening_part}
use Rattle.vt_kernel.specs.inside.Held.{HeldWorker}
use Rattle.vt_pool.specs.inside.Steps.{IsLedFrom}
use Rattle.vt_station.proofs.job.open.Goals as goal

pub returns-clause-opening : goal.returns-clause-opening
returns-clause-opening g c =
    let H = g.M.Model.handlers c.args.model.now in
    subst (λ (k : HeldWorker _ _ _). IsLedFrom H k (opening_part (simulation_of H c.args.config) 0 c.args.worker) k) (sym c.in_ok-engine.ensures.made) c.in_ok-share.ensures.opening

pub returns-clause-made : goal.returns-clause-made
returns-clause-made g c =
    subst (λ (k : HeldWorker _ _ _). (k.worker ≡ c.args.worker) × (k.config ≡ c.args.config)) (sym c.in_ok-engine.ensures.made) c.in_ok-share.ensures.made
