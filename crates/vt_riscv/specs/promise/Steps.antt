-- What one instruction does, and a run of them.
use Rattle.std.specs.Prelude.{ℕ, zero, suc, ◌-◌, ◌/◌, ◌%◌, Bool, true, false, ◌||◌, not, nat_eq, nat_lt, nat_le, if◌then◌else◌, Option, Some, None, List, slice_index, slice_get, slice_set}
use Rattle.vt_riscv.specs.declared.layout.TheConstants.{IMAGE, DATA, STATE, STACK, RETURN}
use Rattle.vt_riscv.specs.declared.memory.Size.{Size}
use Rattle.vt_riscv.specs.declared.instruction.Operation.{Operation}
use Rattle.vt_riscv.specs.declared.instruction.Instruction.{Instruction}
use Rattle.vt_riscv.specs.declared.code.Code.{Code}
use Rattle.vt_riscv.specs.promise.Machines.{Machine}
use Rattle.vt_riscv.specs.declared.machine.Trap.{Trap}
use Rattle.vt_riscv.specs.declared.machine.Trap.TheVariants.{BadJump, BadInstruction, BadAddress, Breakpoint}
use Rattle.vt_riscv.specs.declared.machine.Stop.{Stop}
use Rattle.vt_riscv.specs.declared.machine.Stop.TheVariants.{Called, Ended, Trapped, Spent}
use Rattle.vt_riscv.specs.declared.machine.Outcome.{Outcome}
use Rattle.vt_riscv.specs.declared.effect.Effect.{Effect}
use Rattle.vt_riscv.specs.declared.effect.Effect.TheVariants.{Put, PutAddress, Jump, JumpTo, Branch, Load, LoadSigned, Store, Pass, Call, Fail}
use Rattle.vt_riscv.specs.promise.Arithmetic.{sum}
use Rattle.vt_riscv.specs.promise.Memory.{number_within, stored_within, extended}
use Rattle.vt_riscv.specs.promise.Effects.{effect_of}

-- why the machine stops, if it does, and the machine then
pub record Turn (N : ℕ) : Type 0 where
  pub stop : Option Stop
  pub machine : Machine N

-- how a run came out, and the machine then
pub record Ran (N : ℕ) : Type 0 where
  pub outcome : Outcome
  pub machine : Machine N

-- 2.5 Control Transfer Instructions: what the address of an instruction is a multiple of: 4, or 2 with compressed instructions
abbrev pub is_misaligned : Code → ℕ → Bool
is_misaligned code address = not (nat_eq (address % (if code.compressed then 2 else 4)) 0)

-- the instruction at an address, if one may stand there
abbrev pub fetch_of : Code → ℕ → Option Instruction
fetch_of code address =
    if nat_lt address IMAGE || is_misaligned code address then None else slice_get code.instructions.items ((address - IMAGE) / 2)

module _ {N : ℕ} where
  abbrev pub goes_on : Machine N → Turn N
  goes_on m = record { stop = None; machine = m }

  abbrev pub stops : Stop → Machine N → Turn N
  stops why m = record { stop = Some why; machine = m }

  -- a trap changes nothing
  abbrev pub trapped : Trap → Machine N → Turn N
  trapped why m = stops (Trapped why) m

  -- 2.1 Programmers' Model for Base Integer ISA: what a register holds
  abbrev pub register_of : Machine N → ℕ → ℕ
  register_of m r = slice_index m.registers (r % 32)

  -- the machine with another number in a register. Register 0 is always 0
  abbrev pub with_register : Machine N → ℕ → ℕ → Machine N
  with_register m r v = record m { registers = slice_set (slice_set m.registers (r % 32) v) 0 0 }

  -- the address behind an instruction
  abbrev pub behind : Machine N → Instruction → ℕ
  behind m i = sum m.pc i.length

  -- the machine behind an instruction that put a number into a register
  abbrev pub put_in : Machine N → Instruction → ℕ → Turn N
  put_in m i v = goes_on (record (with_register m i.destination v) { pc = behind m i })

  -- the machine behind an instruction that changed nothing else
  abbrev pub passed : Machine N → Instruction → Turn N
  passed m i = goes_on (record m { pc = behind m i })

  -- 2.5 Unconditional Jumps: to an address, and the address behind the instruction is put into a register
  abbrev pub jumped : Code → Machine N → Instruction → ℕ → Turn N
  jumped code m i to =
      if is_misaligned code to then trapped BadJump m
      else goes_on (record (with_register m i.destination (behind m i)) { pc = to })

  -- 2.5 Conditional Branches: to an address, if the branch is taken
  abbrev pub branched : Code → Machine N → Instruction → Bool → Turn N
  branched code m i true =
      if is_misaligned code (sum m.pc i.immediate) then trapped BadJump m
      else goes_on (record m { pc = sum m.pc i.immediate })
  branched code m i false = passed m i

  -- 2.6 Load and Store Instructions: the address that an instruction speaks of
  abbrev pub address : Machine N → Instruction → ℕ
  address m i = sum (register_of m i.first) i.immediate

  -- the number at an address, if all of it lies in one part of memory
  abbrev pub loaded_from : Code → Machine N → Size → ℕ → Option ℕ
  loaded_from code m size at =
      if nat_le STATE at then number_within size m.state (at - STATE)
      else (if nat_le (STATE - STACK) at then number_within size m.stack (at - (STATE - STACK))
      else (if nat_le DATA at then number_within size code.input.items (at - DATA)
      else (if nat_le IMAGE at then number_within size code.image.items (at - IMAGE)
      else None)))

  -- a loaded number is put into a register
  abbrev pub loaded_in : Machine N → Instruction → (ℕ → ℕ) → Option ℕ → Turn N
  loaded_in m i how None = trapped BadAddress m
  loaded_in m i how (Some v) = put_in m i (how v)

  abbrev pub loaded : Code → Machine N → Instruction → Size → ℕ → Turn N
  loaded code m i size at = loaded_in m i (λ (v : ℕ). v) (loaded_from code m size at)

  abbrev pub loaded_signed : Code → Machine N → Instruction → Size → ℕ → Turn N
  loaded_signed code m i size at = loaded_in m i (extended size) (loaded_from code m size at)

  -- a number is put into the state or the stack. The rest of memory can't be written
  abbrev pub state_put : Machine N → Instruction → Option (List ℕ) → Turn N
  state_put m i None = trapped BadAddress m
  state_put m i (Some bytes) = goes_on (record m { state = bytes; pc = behind m i })

  abbrev pub stack_put : Machine N → Instruction → Option (List ℕ) → Turn N
  stack_put m i None = trapped BadAddress m
  stack_put m i (Some bytes) = goes_on (record m { stack = bytes; pc = behind m i })

  abbrev pub stored_at : Machine N → Instruction → Size → ℕ → ℕ → Turn N
  stored_at m i size at v =
      if nat_le STATE at then state_put m i (stored_within size m.state (at - STATE) v)
      else (if nat_le (STATE - STACK) at then stack_put m i (stored_within size m.stack (at - (STATE - STACK)) v)
      else trapped BadAddress m)

  -- what an instruction does to the machine, by its effect
  abbrev pub done : Code → Machine N → Instruction → Effect → Turn N
  done code m i (Put v) = put_in m i v
  done code m i PutAddress = put_in m i (sum m.pc i.immediate)
  done code m i Jump = jumped code m i (sum m.pc i.immediate)
  done code m i JumpTo = jumped code m i (address m i - address m i % 2)
  done code m i (Branch taken) = branched code m i taken
  done code m i (Load size) = loaded code m i size (address m i)
  done code m i (LoadSigned size) = loaded_signed code m i size (address m i)
  done code m i (Store size) = stored_at m i size (address m i) (register_of m i.second)
  done code m i Pass = passed m i
  done code m i Call = stops Called m
  done code m i (Fail why) = trapped why m

  -- an instruction, by its operation
  abbrev pub exec_of : Code → Machine N → Instruction → Operation → Turn N
  exec_of code m i o = done code m i (effect_of o (register_of m i.first) (register_of m i.second) i.immediate)

  -- a step: the instruction at pc. Where there is none, the program ends, if that is the address to end at
  abbrev pub obeyed : Code → Machine N → Option Instruction → Turn N
  obeyed code m (Some i) = exec_of code m i i.operation
  obeyed code m None = if nat_eq m.pc RETURN then stops Ended m else trapped BadJump m

  abbrev pub step_of : Code → Machine N → Turn N
  step_of code m = obeyed code m (fetch_of code m.pc)

  -- what follows a step: more, or nothing
  abbrev pub followed : (Machine N → Ran N) → ℕ → Machine N → Option Stop → Ran N
  followed more fuel m None = more m
  followed more fuel m (Some why) = record { outcome = record { stop = why; left = fuel }; machine = m }

  -- a run of at most so many steps. It has ended where pc is the address to end at, even if it can't make another step
  unfoldable pub run_of : Code → ℕ → Machine N → Ran N
  run_of code zero m = record { outcome = record { stop = if nat_eq m.pc RETURN then Ended else Spent; left = 0 }; machine = m }
  run_of code (suc fuel) m = followed (run_of code fuel) fuel (step_of code m).machine (step_of code m).stop

  -- the machine behind the call that it stopped at, which was answered
  abbrev pub answered : Machine N → ℕ → Machine N
  answered m v = record (with_register m 10 v) { pc = sum m.pc 4 }
