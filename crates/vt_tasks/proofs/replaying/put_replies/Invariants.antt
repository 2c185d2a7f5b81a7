use Rattle.std.proofs.Common.{◌≡◌, take}
use Rattle.vt_model.specs.promise.Simulation.{simulation_of}
use Rattle.vt_tasks.specs.inside.Replying.{PutsReplies}
use Rattle.vt_tasks.proofs.replaying.put_replies.Given as goal

-- the steps so far were answered, and the lines of the answers were put behind what was held
abbrev pub invariant-loop-numbered : goal.invariant-loop-numbered
invariant-loop-numbered g l =
    let first = l.fn.world in
    record {
      model : l.world.model ≡ first.model;
      config : l.world.config ≡ first.config;
      put : PutsReplies (simulation_of (g.M.Model.handlers first.model) first.config) first.world (take l.numbered-index l.steps) l.world.world (g.O.Write.contents l.fn.out) (g.O.Write.contents l.out) l.fn.text l.text;
    }
