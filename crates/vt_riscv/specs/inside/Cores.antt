-- Machines by their cores: all of a machine but its state.
use Rattle.std.specs.Prelude.{ℕ, List, []}
use Rattle.vt_riscv.specs.declared.machine.Core.{Core}
use Rattle.vt_riscv.specs.promise.Machines.{Machine}

-- the machine with a core and a state
abbrev pub machine_of : (N : ℕ) → Core → List ℕ → Machine N
machine_of N core bytes = record { pc = core.pc; registers = core.registers; state = bytes; stack = core.stack }

-- the machine with a core and no state. What doesn't depend on the state is said of this one
abbrev pub bare : Core → Machine 0
bare core = machine_of 0 core []

-- the core of a machine
abbrev pub core_of : {N : ℕ} → Machine N → Core
core_of m = record { pc = m.pc; registers = m.registers; stack = m.stack }
