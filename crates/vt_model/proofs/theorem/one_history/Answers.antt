use Rattle.vt_model.proofs.EndLemmas.{history_is_sequential}
use Rattle.vt_model.proofs.LawLemmas.{lawful_of}
use Rattle.vt_model.specs.promise.Simulation.{simulation_of}
use Rattle.vt_model.proofs.theorem.one_history.Goals as goal

pub returns : goal.returns
returns g c below lists h t l p is =
    history_is_sequential
    (simulation_of (g.M.Model.handlers c.args.model.now) c.args.config)
    (lawful_of (g.M.Model.handlers c.args.model.now) c.args.config
    (g.met.M.Model.start_within c.args.model.now) (g.met.M.Model.forward_within c.args.model.now))
    below lists h t l p is
