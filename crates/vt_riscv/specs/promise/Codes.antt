-- The instructions of a program: 1.5 Base Instruction-Length Encoding.
use Rattle.std.specs.Prelude.{ℕ, ◌+◌, ◌*◌, ◌/◌, ◌%◌, Bool, nat_eq, nat_le, if◌then◌else◌, List, length, map}
use Rattle.std.specs.List.{range_with_len}
use Rattle.vt_riscv.specs.declared.memory.Size.TheVariants.{Half, Word}
use Rattle.vt_riscv.specs.declared.instruction.Operation.TheVariants.{Bad}
use Rattle.vt_riscv.specs.declared.instruction.Instruction.{Instruction}
use Rattle.vt_riscv.specs.promise.Memory.{number_at}
use Rattle.vt_riscv.specs.promise.Decoding.{decode_of, plain}
use Rattle.vt_riscv.specs.promise.Compressed.{decode_compressed_of}

-- an instruction of 32 bits, whose lowest two bits are set. One that the code ends within is none
abbrev pub long_at : List ℕ → ℕ → Instruction
long_at bytes at = if nat_le (at + 4) (length bytes) then decode_of (number_at Word bytes at) else plain Bad

-- an instruction of 16 bits, where there may be any
abbrev pub short_of : Bool → ℕ → Instruction
short_of compressed half = if compressed then decode_compressed_of half else plain Bad

-- the instruction at an offset in a code, by its first 16 bits
abbrev pub instruction_with : Bool → List ℕ → ℕ → ℕ → Instruction
instruction_with compressed bytes at half = if nat_eq (half % 4) 3 then long_at bytes at else short_of compressed half

-- the instruction at an offset in a code
abbrev pub instruction_at : Bool → List ℕ → ℕ → Instruction
instruction_at compressed bytes at = instruction_with compressed bytes at (number_at Half bytes at)

-- the instruction at each even offset in a code
abbrev pub instructions_of : Bool → List ℕ → List Instruction
instructions_of compressed bytes = map (λ (k : ℕ). instruction_at compressed bytes (2 * k)) (range_with_len 0 (length bytes / 2))
