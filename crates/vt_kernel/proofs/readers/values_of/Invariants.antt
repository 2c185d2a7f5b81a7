use Rattle.std.proofs.Common.{◌≡◌, take}
use Rattle.vt_kernel.specs.inside.Held.{held_values}
use Rattle.vt_kernel.proofs.readers.values_of.Given as goal

abbrev pub invariant-loop-process : goal.invariant-loop-process
invariant-loop-process g l = l.values.items ≡ held_values (g.M.Model.handlers l.model) (take l.process-index l.processes)
