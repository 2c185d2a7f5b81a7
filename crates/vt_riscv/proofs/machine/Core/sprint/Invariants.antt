use Rattle.std.proofs.Common.{◌≡◌, ◌+◌, ◌<◌, ◌≤◌, length, slice_index}
use Rattle.vt_riscv.specs.inside.Cores.{machine_of}
use Rattle.vt_riscv.specs.promise.Steps.{run_of}
use Rattle.vt_riscv.specs.inside.Sprints.{at_ready}
use Rattle.vt_riscv.proofs.machine.Core.sprint.Given as goal

abbrev pub invariant-steps : goal.invariant-steps
invariant-steps g l = record {
  run : run_of l.code l.fuel (machine_of g.row.N l.fn.self l.fn.state) ≡ run_of l.code (l.spare + slice_index l.rests l.at) (at_ready (machine_of g.row.N l.self l.state) l.heads l.at);
  within : l.at < length l.heads;
  few : l.spare + slice_index l.rests l.at ≤ l.fuel;
  registers : length l.self.registers ≡ 32;
}

abbrev pub decreases-steps : goal.decreases-steps
decreases-steps g l = l.spare + slice_index l.rests l.at
