-- Faults: their numbers, and the names that they carry.
use Rattle.std.specs.Prelude.{ℕ, List, Option, Some, None}
use Rattle.vt_key.specs.declared.fault.Fault.{Fault}
use Rattle.vt_key.specs.declared.fault.Fault.TheVariants.{Memory, NotLawful, Busy, Closed, Exhausted, TurnsSpent, BadOption, BadStep, Output}

-- the number of a fault, the same in all crates
abbrev pub fault_number : Fault → ℕ
fault_number Memory = 1
fault_number NotLawful = 2
fault_number Busy = 3
fault_number Closed = 4
fault_number Exhausted = 5
fault_number TurnsSpent = 6
fault_number (BadOption name) = 7
fault_number (BadStep line) = 8
fault_number Output = 9

-- the option that a fault names, as the bytes of its name
abbrev pub option_named : Fault → Option (List ℕ)
option_named (BadOption name) = Some name.now
option_named _ = None
