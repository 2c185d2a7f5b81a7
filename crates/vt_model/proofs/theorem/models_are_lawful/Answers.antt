use Rattle.vt_model.proofs.LawLemmas.{lawful_of}
use Rattle.vt_model.proofs.theorem.models_are_lawful.Goals as goal

pub returns : goal.returns
returns g c =
    lawful_of (g.M.Model.handlers c.args.model.now) c.args.config
    (g.met.M.Model.start_within c.args.model.now) (g.met.M.Model.forward_within c.args.model.now)
