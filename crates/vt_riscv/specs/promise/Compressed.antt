-- Compressed instructions, of 16 bits, as the tables of section 16.8 of the manual (RVC Instruction Set Listings) lay them out for RV64C
-- without floating-point numbers. Each stands for an instruction of 32 bits. What a table leaves reserved is `Bad`, and a hint is the
-- instruction that it stands for, which does nothing.
use Rattle.std.specs.Prelude.{ℕ, ◌+◌, ◌*◌, ◌/◌, ◌%◌, ◌^◌, Bool, nat_eq, if◌then◌else◌}
use Rattle.vt_riscv.specs.declared.instruction.Operation.{Operation}
use Rattle.vt_riscv.specs.declared.instruction.Operation.TheVariants.{Bad, Lui, Jal, Jalr, Beq, Bne, Lw, Ld, Sw, Sd, Addi, Andi, Slli, Srli, Srai, Add, Sub, Xor, Or, And, Addiw, Addw, Subw, Ebreak}
use Rattle.vt_riscv.specs.declared.instruction.Instruction.{Instruction}
use Rattle.vt_riscv.specs.promise.Decoding.{by_sign}

-- so many bits of a half, from one on
abbrev pub bits_at : ℕ → ℕ → ℕ → ℕ
bits_at h from count = h / 2 ^ from % 2 ^ count

-- 16.2 Compressed Instruction Formats: the fields of a half. Three bits name one of the registers from 8 on
abbrev pub rd_in : ℕ → ℕ
rd_in h = bits_at h 7 5

abbrev pub rs2_in : ℕ → ℕ
rs2_in h = bits_at h 2 5

abbrev pub high_in : ℕ → ℕ
high_in h = 8 + bits_at h 7 3

abbrev pub low_in : ℕ → ℕ
low_in h = 8 + bits_at h 2 3

-- 16.3 Load and Store Instructions: offsets from the stack pointer and from a register
unfoldable pub lwsp_offset : ℕ → ℕ
lwsp_offset h = bits_at h 12 1 * 2 ^ 5 + bits_at h 4 3 * 2 ^ 2 + bits_at h 2 2 * 2 ^ 6

unfoldable pub ldsp_offset : ℕ → ℕ
ldsp_offset h = bits_at h 12 1 * 2 ^ 5 + bits_at h 5 2 * 2 ^ 3 + bits_at h 2 3 * 2 ^ 6

unfoldable pub swsp_offset : ℕ → ℕ
swsp_offset h = bits_at h 9 4 * 2 ^ 2 + bits_at h 7 2 * 2 ^ 6

unfoldable pub sdsp_offset : ℕ → ℕ
sdsp_offset h = bits_at h 10 3 * 2 ^ 3 + bits_at h 7 3 * 2 ^ 6

unfoldable pub word_offset : ℕ → ℕ
word_offset h = bits_at h 10 3 * 2 ^ 3 + bits_at h 6 1 * 2 ^ 2 + bits_at h 5 1 * 2 ^ 6

unfoldable pub double_offset : ℕ → ℕ
double_offset h = bits_at h 10 3 * 2 ^ 3 + bits_at h 5 2 * 2 ^ 6

-- 16.4 Control Transfer Instructions: how far a jump and a branch lead
unfoldable pub jump_offset : ℕ → ℕ
jump_offset h =
    by_sign (bits_at h 12 1 * 2 ^ 11 + bits_at h 11 1 * 2 ^ 4 + bits_at h 9 2 * 2 ^ 8 + bits_at h 8 1 * 2 ^ 10 + bits_at h 7 1 * 2 ^ 6 + bits_at h 6 1 * 2 ^ 7 + bits_at h 3 3 * 2 + bits_at h 2 1 * 2 ^ 5) (2 ^ 11)

unfoldable pub branch_offset : ℕ → ℕ
branch_offset h =
    by_sign (bits_at h 12 1 * 2 ^ 8 + bits_at h 10 2 * 2 ^ 3 + bits_at h 5 2 * 2 ^ 6 + bits_at h 3 2 * 2 + bits_at h 2 1 * 2 ^ 5) (2 ^ 8)

-- 16.5 Integer Computational Instructions: immediates and shift amounts
abbrev pub amount_in : ℕ → ℕ
amount_in h = bits_at h 12 1 * 2 ^ 5 + bits_at h 2 5

abbrev pub immediate_in : ℕ → ℕ
immediate_in h = by_sign (amount_in h) (2 ^ 5)

abbrev pub upper_in : ℕ → ℕ
upper_in h = by_sign (amount_in h * 2 ^ 12) (2 ^ 17)

unfoldable pub addi16sp_immediate : ℕ → ℕ
addi16sp_immediate h =
    by_sign (bits_at h 12 1 * 2 ^ 9 + bits_at h 6 1 * 2 ^ 4 + bits_at h 5 1 * 2 ^ 6 + bits_at h 3 2 * 2 ^ 7 + bits_at h 2 1 * 2 ^ 5) (2 ^ 9)

unfoldable pub addi4spn_immediate : ℕ → ℕ
addi4spn_immediate h = bits_at h 11 2 * 2 ^ 4 + bits_at h 7 4 * 2 ^ 6 + bits_at h 6 1 * 2 ^ 2 + bits_at h 5 1 * 2 ^ 3

-- a compressed instruction, with its result's register, the two that it reads, and its immediate
abbrev pub short : Operation → ℕ → ℕ → ℕ → ℕ → Instruction
short o rd rs1 rs2 immediate = record { operation = o; destination = rd; first = rs1; second = rs2; length = 2; immediate = immediate }

abbrev pub no_instruction : Instruction
no_instruction = short Bad 0 0 0 0

-- an instruction, unless it is reserved
abbrev pub unless_reserved : Bool → Instruction → Instruction
unless_reserved reserved i = if reserved then no_instruction else i

-- table 16.5, quadrant 0, by the upper three bits
unfoldable pub quadrant_0 : ℕ → ℕ → Instruction
quadrant_0 h n =
    if nat_eq n 0 then unless_reserved (nat_eq (addi4spn_immediate h) 0) (short Addi (low_in h) 2 0 (addi4spn_immediate h))
    else (if nat_eq n 2 then short Lw (low_in h) (high_in h) 0 (word_offset h)
    else (if nat_eq n 3 then short Ld (low_in h) (high_in h) 0 (double_offset h)
    else (if nat_eq n 6 then short Sw 0 (high_in h) (low_in h) (word_offset h)
    else (if nat_eq n 7 then short Sd 0 (high_in h) (low_in h) (double_offset h)
    else no_instruction))))

-- table 16.6, quadrant 1. The instruction C.ADDI16SP or C.LUI
unfoldable pub upper_of : ℕ → ℕ → Instruction
upper_of h rd =
    if nat_eq rd 2 then unless_reserved (nat_eq (amount_in h) 0) (short Addi 2 2 0 (addi16sp_immediate h))
    else unless_reserved (nat_eq (amount_in h) 0) (short Lui rd 0 0 (upper_in h))

-- the operation of an instruction of two registers
unfoldable pub registers_of : ℕ → ℕ → Operation
registers_of words n =
    if nat_eq words 0 then (if nat_eq n 0 then Sub else (if nat_eq n 1 then Xor else (if nat_eq n 2 then Or else And)))
    else (if nat_eq n 0 then Subw else (if nat_eq n 1 then Addw else Bad))

unfoldable pub arithmetic_of : ℕ → ℕ → Instruction
arithmetic_of h n =
    if nat_eq n 0 then short Srli (high_in h) (high_in h) 0 (amount_in h)
    else (if nat_eq n 1 then short Srai (high_in h) (high_in h) 0 (amount_in h)
    else (if nat_eq n 2 then short Andi (high_in h) (high_in h) 0 (immediate_in h)
    else short (registers_of (bits_at h 12 1) (bits_at h 5 2)) (high_in h) (high_in h) (low_in h) 0))

unfoldable pub quadrant_1 : ℕ → ℕ → Instruction
quadrant_1 h n =
    if nat_eq n 0 then short Addi (rd_in h) (rd_in h) 0 (immediate_in h)
    else (if nat_eq n 1 then unless_reserved (nat_eq (rd_in h) 0) (short Addiw (rd_in h) (rd_in h) 0 (immediate_in h))
    else (if nat_eq n 2 then short Addi (rd_in h) 0 0 (immediate_in h)
    else (if nat_eq n 3 then upper_of h (rd_in h)
    else (if nat_eq n 4 then arithmetic_of h (bits_at h 10 2)
    else (if nat_eq n 5 then short Jal 0 0 0 (jump_offset h)
    else (if nat_eq n 6 then short Beq 0 (high_in h) 0 (branch_offset h)
    else short Bne 0 (high_in h) 0 (branch_offset h)))))))

-- table 16.7, quadrant 2. The instruction C.JR or C.MV, or where `adds` isn't 0, C.EBREAK, C.JALR or C.ADD
unfoldable pub move_of : ℕ → ℕ → ℕ → Instruction
move_of rd rs2 adds =
    if nat_eq adds 0 then (if nat_eq rs2 0 then unless_reserved (nat_eq rd 0) (short Jalr 0 rd 0 0) else short Add rd 0 rs2 0)
    else (if nat_eq rs2 0 then (if nat_eq rd 0 then short Ebreak 0 0 0 0 else short Jalr 1 rd 0 0) else short Add rd rd rs2 0)

unfoldable pub quadrant_2 : ℕ → ℕ → Instruction
quadrant_2 h n =
    if nat_eq n 0 then short Slli (rd_in h) (rd_in h) 0 (amount_in h)
    else (if nat_eq n 2 then unless_reserved (nat_eq (rd_in h) 0) (short Lw (rd_in h) 2 0 (lwsp_offset h))
    else (if nat_eq n 3 then unless_reserved (nat_eq (rd_in h) 0) (short Ld (rd_in h) 2 0 (ldsp_offset h))
    else (if nat_eq n 4 then move_of (rd_in h) (rs2_in h) (bits_at h 12 1)
    else (if nat_eq n 6 then short Sw 0 2 (rs2_in h) (swsp_offset h)
    else (if nat_eq n 7 then short Sd 0 2 (rs2_in h) (sdsp_offset h)
    else no_instruction)))))

abbrev pub by_quadrant : ℕ → ℕ → Instruction
by_quadrant h n =
    if nat_eq n 0 then quadrant_0 h (h / 2 ^ 13)
    else (if nat_eq n 1 then quadrant_1 h (h / 2 ^ 13)
    else (if nat_eq n 2 then quadrant_2 h (h / 2 ^ 13)
    else no_instruction))

-- the instruction of a half
unfoldable pub decode_compressed_of : ℕ → Instruction
decode_compressed_of h = by_quadrant h (h % 4)
