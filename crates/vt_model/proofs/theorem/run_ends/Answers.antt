use Rattle.vt_model.specs.promise.Simulation.{simulation_of}
use Rattle.vt_model.proofs.EndLemmas.{step-falls, ends, events-end, executed_all}
use Rattle.vt_model.proofs.LawLemmas.{lawful_of}
use Rattle.vt_model.proofs.theorem.run_ends.Goals as goal

pub returns : goal.returns
returns g c =
    let sim = simulation_of (g.M.Model.handlers c.args.model.now) c.args.config in
    let lawful = lawful_of (g.M.Model.handlers c.args.model.now) c.args.config (g.met.M.Model.start_within c.args.model.now) (g.met.M.Model.forward_within c.args.model.now) in
    record { falls = step-falls sim lawful; ends = ends sim lawful; stays = executed_all sim lawful; early = events-end sim lawful }
