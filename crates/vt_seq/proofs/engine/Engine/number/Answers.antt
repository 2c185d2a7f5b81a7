use Rattle.std.proofs.Common.{rules, ap}
use Rattle.vt_model.specs.promise.Simulation.{Triple}
use Rattle.vt_seq.proofs.StepLemmas.{looked_up}
use Rattle.vt_seq.proofs.engine.Engine.number.Goals as goal

pub returns-clause-value : goal.returns-clause-value
returns-clause-value g c n st =
    let lookup = c.in_ok-process.ensures.lookup in
    let at = looked_up _ n st (search (rules, c.args.self.now.all_there)) c.deref.ensures.value lookup.0 lookup.1 in
    (at.0, ap (λ (t : Triple _). t.number) at.1)
