-- Why a handler doesn't end, as a number.
use Rattle.std.specs.Prelude.{ℕ, ◌+◌, ◌*◌, ◌%◌, ◌^◌}
use Rattle.vt_riscv.specs.declared.machine.Trap.{Trap}
use Rattle.vt_riscv.specs.declared.machine.Trap.TheVariants as traps
use Rattle.vt_guest.specs.declared.trap.Reason.{Reason}
use Rattle.vt_guest.specs.declared.trap.Reason.TheVariants.{BadJump, BadInstruction, BadAddress, BadCall, TooMany, BadSend, Spent, Breakpoint}

-- the number of a reason
abbrev pub number_of : Reason → ℕ
number_of BadJump = 1
number_of BadInstruction = 2
number_of BadAddress = 3
number_of BadCall = 4
number_of TooMany = 5
number_of BadSend = 6
number_of Spent = 7
number_of Breakpoint = 8

-- the reason of a trap of the machine
abbrev pub reason_of : Trap → Reason
reason_of traps.BadJump = BadJump
reason_of traps.BadInstruction = BadInstruction
reason_of traps.BadAddress = BadAddress
reason_of traps.Breakpoint = Breakpoint

-- the value of a trap's record: the reason, and the address in the program
abbrev pub trap_value : Reason → ℕ → ℕ
trap_value why address = number_of why * 2 ^ 32 + address % 2 ^ 32
