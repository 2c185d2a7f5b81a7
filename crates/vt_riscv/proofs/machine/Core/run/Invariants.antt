use Rattle.std.proofs.Common.{◌≡◌}
use Rattle.vt_riscv.specs.inside.Cores.{machine_of}
use Rattle.vt_riscv.specs.promise.Steps.{run_of}
use Rattle.vt_riscv.proofs.machine.Core.run.Given as goal

abbrev pub invariant-steps : goal.invariant-steps
invariant-steps g l = run_of l.code l.left (machine_of g.row.N l.self l.state) ≡ run_of l.code l.fuel (machine_of g.row.N l.fn.self l.fn.state)

abbrev pub decreases-steps : goal.decreases-steps
decreases-steps g l = l.left
