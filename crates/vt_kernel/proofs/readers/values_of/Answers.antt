use Rattle.std.proofs.Common.{◌∙◌, ap}
use Rattle.std.proofs.lemmas.List.{take_all}
use Rattle.vt_kernel.specs.inside.Held.{held_values}
use Rattle.vt_kernel.proofs.readers.values_of.Goals as goal

pub returns-clause-values : goal.returns-clause-values
returns-clause-values g c =
    c.loop-process.invariant ∙ ap (held_values (g.M.Model.handlers c.args.model.now)) (take_all c.loop-process.process-index c.args.processes.now c.loop-process-test.false)
