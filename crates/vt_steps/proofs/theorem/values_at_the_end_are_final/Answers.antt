use Rattle.vt_steps.proofs.history.FinalValues.{quiet-at_end, quiet-values}
use Rattle.vt_steps.proofs.theorem.values_at_the_end_are_final.Goals as goal

pub returns : goal.returns
returns g c =
    let lawful = c.requires.1.1 in
    record {
      quiet = quiet-at_end g.sim lawful;
      values = λ serial steps w v part other at end there. quiet-values g.sim lawful serial steps (quiet-at_end g.sim lawful serial steps w part at end) v other there;
    }
