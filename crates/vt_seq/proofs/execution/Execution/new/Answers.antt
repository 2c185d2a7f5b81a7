use Rattle.std.proofs.Common.{◌≤◌, ◌∙◌, length, refl, ap}
use Rattle.vt_model.specs.declared.settings.Config.{Config}
use Rattle.vt_model.specs.promise.Simulation.{simulation_of}
use Rattle.vt_seq.proofs.ProgressLemmas.{stands-after}
use Rattle.vt_seq.proofs.PlainLemmas.{at_least, items_count}
use Rattle.vt_seq.proofs.execution.Execution.new.Goals as goal

pub returns : goal.returns
returns g c =
    let e = c.in-Ok.engine in
    let sim = simulation_of (g.M.Model.handlers c.args.model.now) c.args.config in
    let there : sim.lps ≤ length e.processes.items = at_least (items_count e.processes e.all_there ∙ ap (λ (d : Config). d.lps) c.in-Ok.ensures.config) in
    record {
      model = c.in-Ok.ensures.model;
      config = c.in-Ok.ensures.config;
      opening = stands-after sim e.model.now e.config 0 e.pending e.processes.items there c.in-Ok.ensures.stands;
      refused = tt;
    }

pub returns-in_default : goal.returns-in_default
returns-in_default g c = record { model = tt; config = tt; opening = tt; refused = refl }
