-- Many steps in a row: pc is the address of an instruction made ready then.
use Rattle.std.specs.Prelude.{◌≡◌, ℕ, ◌+◌, ◌-◌, ◌<◌, nat_eq, if◌then◌else◌, Bool, true, false, List, length}
use Rattle.vt_riscv.specs.declared.ready.Head.{Head}
use Rattle.vt_riscv.specs.declared.code.Code.{Code}
use Rattle.vt_riscv.specs.promise.Machines.{Machine}
use Rattle.vt_riscv.specs.declared.machine.Stop.TheVariants.{Called}
use Rattle.vt_riscv.specs.declared.sprint.Go.{Go}
use Rattle.vt_riscv.specs.declared.sprint.Go.TheVariants as go
use Rattle.vt_riscv.specs.inside.Readiness.{address_at, head_at, instruction_at}
use Rattle.vt_riscv.specs.promise.Arithmetic.{sum}
use Rattle.vt_riscv.specs.promise.Steps.{Turn, Ran, goes_on, stops, register_of, with_register, behind, is_misaligned, run_of}

-- an instruction may begin where another jumps or branches to, if that is one of these
abbrev pub IsAim : Code → List Head → ℕ → ℕ → ℕ → Type 0
IsAim code heads immediate target k =
    target < length heads → (address_at (head_at heads target).index ≡ sum (address_at (head_at heads k).index) immediate) × (is_misaligned code (address_at (head_at heads target).index) ≡ false)

module _ {N : ℕ} where
  -- the machine with pc at an instruction that is ready
  abbrev pub at_ready : Machine N → List Head → ℕ → Machine N
  at_ready m heads k = record m { pc = address_at (head_at heads k).index }

  -- where the machine is after an instruction, by how it goes on. `Not` means that nothing was done
  abbrev pub seen : Machine N → List Head → ℕ → ℕ → Go → Turn N
  seen m heads immediate k go.Next = goes_on (record m { pc = behind (at_ready m heads k) (instruction_at heads immediate k) })
  seen m heads immediate k (go.At to) = goes_on (at_ready m heads to)
  seen m heads immediate k (go.To address) = goes_on (record m { pc = address })
  seen m heads immediate k go.Called = stops Called (at_ready m heads k)
  seen m heads immediate k go.Not = goes_on m

  -- and where it has to be, by what the instruction does to it
  abbrev pub due : Machine N → Turn N → Go → Turn N
  due m turn go.Next = turn
  due m turn (go.At to) = turn
  due m turn (go.To address) = turn
  due m turn go.Called = turn
  due m turn go.Not = goes_on m

  -- the machine at a call that ends before an index of the code, behind ADDI if the two are joined
  abbrev pub called_from : Machine N → Head → ℕ → ℕ → Machine N
  called_from m r next immediate = record m {
    pc = address_at next - 4;
    registers = if nat_eq r.destination 0 then m.registers else (with_register m r.destination (sum (register_of m r.first) immediate)).registers;
  }

  abbrev pub called_at : Machine N → List Head → ℕ → ℕ → Machine N
  called_at m heads immediate k = called_from m (head_at heads k) (head_at heads (k + 1)).index immediate

  -- what is left of a run, whose machine made some steps and perhaps stopped at a call
  abbrev pub rest_of : Code → Machine N → ℕ → Bool → Ran N
  rest_of code m left true = record { outcome = record { stop = Called; left = left }; machine = m }
  rest_of code m left false = run_of code left m
