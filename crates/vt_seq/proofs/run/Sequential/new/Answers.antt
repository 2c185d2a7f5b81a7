use Rattle.std.proofs.Common.{◌≡◌, refl, sym, subst}
use Rattle.vt_model.specs.promise.Simulation.{Simulation, simulation_of}
use Rattle.vt_seq.specs.inside.Standing.{IsAt}
use Rattle.vt_seq.proofs.run.Sequential.new.Goals as goal

pub invariant_of-result : goal.invariant_of-result
invariant_of-result g c =
    let e = c.in-Ok.execution in
    let own = simulation_of (g.M.Model.handlers e.model) e.config in
    let same : simulation_of (g.M.Model.handlers c.args.model.now) c.args.config ≡ own = λ j. simulation_of (g.M.Model.handlers (sym c.in-Ok.ensures.model j)) (sym c.in-Ok.ensures.config j) in
    ∣ (0, record { at = subst (λ (s : Simulation _ _). IsAt s 0 e) same c.in-Ok.ensures.opening; records = c.new-records.ensures.items }) ∣₁

pub returns : goal.returns
returns g c = record {
  model = c.in-Ok.ensures.model;
  config = c.in-Ok.ensures.config;
  opening = record { at = c.in-Ok.ensures.opening; records = c.new-records.ensures.items };
  refused = tt;
}

pub returns-in_default : goal.returns-in_default
returns-in_default g c = record { model = tt; config = tt; opening = tt; refused = refl }
