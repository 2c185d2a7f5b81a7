use Rattle.vt_model.specs.promise.Simulation.{simulation_of}
use Rattle.vt_model.proofs.DistinctLemmas.{distinct_pending}
use Rattle.vt_model.proofs.LawLemmas.{lawful_of}
use Rattle.vt_model.proofs.theorem.pending_keys_are_distinct.Goals as goal

pub returns : goal.returns
returns g c =
    let sim = simulation_of (g.M.Model.handlers c.args.model.now) c.args.config in
    distinct_pending sim (lawful_of (g.M.Model.handlers c.args.model.now) c.args.config (g.met.M.Model.start_within c.args.model.now) (g.met.M.Model.forward_within c.args.model.now))
