-- Instructions from words of 32 bits, as chapter 24 of the manual (Instruction Set Listings) lays them out. What stands in no row of
-- its tables for RV64I and RV64M is `Bad`.
use Rattle.std.specs.Prelude.{ℕ, ◌+◌, ◌-◌, ◌*◌, ◌/◌, ◌%◌, ◌^◌, nat_eq, nat_lt, if◌then◌else◌}
use Rattle.vt_riscv.specs.declared.instruction.Operation.{Operation}
use Rattle.vt_riscv.specs.declared.instruction.Operation.TheVariants.{Bad, Lui, Auipc, Jal, Jalr, Beq, Bne, Blt, Bge, Bltu, Bgeu, Lb, Lh, Lw, Ld, Lbu, Lhu, Lwu, Sb, Sh, Sw, Sd, Addi, Slti, Sltiu, Xori, Ori, Andi, Slli, Srli, Srai, Add, Sub, Sll, Slt, Sltu, Xor, Srl, Sra, Or, And, Addiw, Slliw, Srliw, Sraiw, Addw, Subw, Sllw, Srlw, Sraw, Fence, Ecall, Ebreak, Mul, Mulh, Mulhsu, Mulhu, Div, Divu, Rem, Remu, Mulw, Divw, Divuw, Remw, Remuw}
use Rattle.vt_riscv.specs.declared.instruction.Instruction.{Instruction}

-- a number as 64 bits, by its sign, where `half` is half of what its bits can hold
abbrev pub by_sign : ℕ → ℕ → ℕ
by_sign x half = if nat_lt x half then x else ((x + (2 ^ 64 - half)) % 2 ^ 64 + (2 ^ 64 - half)) % 2 ^ 64

-- 2.2 Base Instruction Formats: the fields of a word
abbrev pub rd_of : ℕ → ℕ
rd_of w = w / 2 ^ 7 % 32

abbrev pub rs1_of : ℕ → ℕ
rs1_of w = w / 2 ^ 15 % 32

abbrev pub rs2_of : ℕ → ℕ
rs2_of w = w / 2 ^ 20 % 32

abbrev pub funct3_of : ℕ → ℕ
funct3_of w = w / 2 ^ 12 % 8

abbrev pub funct7_of : ℕ → ℕ
funct7_of w = w / 2 ^ 25

-- 2.3 Immediate Encoding Variants
abbrev pub i_immediate : ℕ → ℕ
i_immediate w = by_sign (w / 2 ^ 20) (2 ^ 11)

abbrev pub s_immediate : ℕ → ℕ
s_immediate w = by_sign (funct7_of w * 2 ^ 5 + rd_of w) (2 ^ 11)

abbrev pub b_immediate : ℕ → ℕ
b_immediate w = by_sign (funct7_of w / 2 ^ 6 * 2 ^ 12 + w / 2 ^ 7 % 2 * 2 ^ 11 + funct7_of w % 2 ^ 6 * 2 ^ 5 + w / 2 ^ 8 % 2 ^ 4 * 2) (2 ^ 12)

abbrev pub u_immediate : ℕ → ℕ
u_immediate w = by_sign (w - w % 2 ^ 12) (2 ^ 31)

abbrev pub j_immediate : ℕ → ℕ
j_immediate w = by_sign (funct7_of w / 2 ^ 6 * 2 ^ 20 + w / 2 ^ 12 % 2 ^ 8 * 2 ^ 12 + w / 2 ^ 20 % 2 * 2 ^ 11 + w / 2 ^ 21 % 2 ^ 10 * 2) (2 ^ 20)

-- an instruction of each format
unfoldable pub r_type : Operation → ℕ → Instruction
r_type o w = record { operation = o; destination = rd_of w; first = rs1_of w; second = rs2_of w; length = 4; immediate = 0 }

unfoldable pub i_type : Operation → ℕ → Instruction
i_type o w = record { operation = o; destination = rd_of w; first = rs1_of w; second = 0; length = 4; immediate = i_immediate w }

unfoldable pub s_type : Operation → ℕ → Instruction
s_type o w = record { operation = o; destination = 0; first = rs1_of w; second = rs2_of w; length = 4; immediate = s_immediate w }

unfoldable pub b_type : Operation → ℕ → Instruction
b_type o w = record { operation = o; destination = 0; first = rs1_of w; second = rs2_of w; length = 4; immediate = b_immediate w }

unfoldable pub u_type : Operation → ℕ → Instruction
u_type o w = record { operation = o; destination = rd_of w; first = 0; second = 0; length = 4; immediate = u_immediate w }

unfoldable pub j_type : Operation → ℕ → Instruction
j_type o w = record { operation = o; destination = rd_of w; first = 0; second = 0; length = 4; immediate = j_immediate w }

-- a shift by so many bits, and an instruction without fields
unfoldable pub shift_type : Operation → ℕ → ℕ → Instruction
shift_type o w amount = record { operation = o; destination = rd_of w; first = rs1_of w; second = 0; length = 4; immediate = amount }

abbrev pub plain : Operation → Instruction
plain o = record { operation = o; destination = 0; first = 0; second = 0; length = 4; immediate = 0 }

-- RV32I and RV64I Base Instruction Sets: the operations of each major opcode, by funct3 (and funct7)
abbrev pub branch_of : ℕ → Operation
branch_of n =
    if nat_eq n 0 then Beq else (if nat_eq n 1 then Bne else (if nat_eq n 4 then Blt else (if nat_eq n 5 then Bge else (if nat_eq n 6 then Bltu else (if nat_eq n 7 then Bgeu else Bad)))))

abbrev pub load_of : ℕ → Operation
load_of n =
    if nat_eq n 0 then Lb else (if nat_eq n 1 then Lh else (if nat_eq n 2 then Lw else (if nat_eq n 3 then Ld else (if nat_eq n 4 then Lbu else (if nat_eq n 5 then Lhu else (if nat_eq n 6 then Lwu else Bad))))))

abbrev pub store_of : ℕ → Operation
store_of n = if nat_eq n 0 then Sb else (if nat_eq n 1 then Sh else (if nat_eq n 2 then Sw else (if nat_eq n 3 then Sd else Bad)))

-- OP-IMM, of which SLLI, SRLI and SRAI have a shift amount of six bits below the upper six
unfoldable pub op_imm_of : ℕ → ℕ → Instruction
op_imm_of w n =
    if nat_eq n 0 then i_type Addi w
    else (if nat_eq n 1 then shift_type (if nat_eq (w / 2 ^ 26) 0 then Slli else Bad) w (w / 2 ^ 20 % 64)
    else (if nat_eq n 2 then i_type Slti w
    else (if nat_eq n 3 then i_type Sltiu w
    else (if nat_eq n 4 then i_type Xori w
    else (if nat_eq n 5 then shift_type (if nat_eq (w / 2 ^ 26) 0 then Srli else (if nat_eq (w / 2 ^ 26) 16 then Srai else Bad)) w (w / 2 ^ 20 % 64)
    else (if nat_eq n 6 then i_type Ori w
    else i_type Andi w))))))

-- OP-IMM-32, whose shift amounts have five bits below the upper seven
unfoldable pub op_imm_32_of : ℕ → ℕ → Instruction
op_imm_32_of w n =
    if nat_eq n 0 then i_type Addiw w
    else (if nat_eq n 1 then shift_type (if nat_eq (funct7_of w) 0 then Slliw else Bad) w (rs2_of w)
    else (if nat_eq n 5 then shift_type (if nat_eq (funct7_of w) 0 then Srliw else (if nat_eq (funct7_of w) 32 then Sraiw else Bad)) w (rs2_of w)
    else plain Bad))

-- OP: funct7 is 0 or 32, or 1 in the RV32M and RV64M Standard Extension
abbrev pub op_base_of : ℕ → Operation
op_base_of n =
    if nat_eq n 0 then Add else (if nat_eq n 1 then Sll else (if nat_eq n 2 then Slt else (if nat_eq n 3 then Sltu else (if nat_eq n 4 then Xor else (if nat_eq n 5 then Srl else (if nat_eq n 6 then Or else And))))))

abbrev pub op_other_of : ℕ → Operation
op_other_of n = if nat_eq n 0 then Sub else (if nat_eq n 5 then Sra else Bad)

abbrev pub op_mul_of : ℕ → Operation
op_mul_of n =
    if nat_eq n 0 then Mul else (if nat_eq n 1 then Mulh else (if nat_eq n 2 then Mulhsu else (if nat_eq n 3 then Mulhu else (if nat_eq n 4 then Div else (if nat_eq n 5 then Divu else (if nat_eq n 6 then Rem else Remu))))))

unfoldable pub op_of : ℕ → ℕ → Operation
op_of funct7 n = if nat_eq funct7 0 then op_base_of n else (if nat_eq funct7 32 then op_other_of n else (if nat_eq funct7 1 then op_mul_of n else Bad))

-- OP-32, by the same three numbers of funct7
abbrev pub op_32_base_of : ℕ → Operation
op_32_base_of n = if nat_eq n 0 then Addw else (if nat_eq n 1 then Sllw else (if nat_eq n 5 then Srlw else Bad))

abbrev pub op_32_other_of : ℕ → Operation
op_32_other_of n = if nat_eq n 0 then Subw else (if nat_eq n 5 then Sraw else Bad)

abbrev pub op_32_mul_of : ℕ → Operation
op_32_mul_of n =
    if nat_eq n 0 then Mulw else (if nat_eq n 4 then Divw else (if nat_eq n 5 then Divuw else (if nat_eq n 6 then Remw else (if nat_eq n 7 then Remuw else Bad))))

unfoldable pub op_32_of : ℕ → ℕ → Operation
op_32_of funct7 n = if nat_eq funct7 0 then op_32_base_of n else (if nat_eq funct7 32 then op_32_other_of n else (if nat_eq funct7 1 then op_32_mul_of n else Bad))

-- JALR has funct3 0. FENCE is 0 and FENCE.I 1, of which the other fields are ignored (2.7 Memory Ordering Instructions, 3 Zifencei)
abbrev pub jalr_of : ℕ → Operation
jalr_of n = if nat_eq n 0 then Jalr else Bad

abbrev pub fence_of : ℕ → Operation
fence_of n = if nat_lt n 2 then Fence else Bad

-- SYSTEM: 2.8 Environment Call and Breakpoints
abbrev pub system_of : ℕ → Operation
system_of w = if nat_eq w 0x73 then Ecall else (if nat_eq w 0x100073 then Ebreak else Bad)

-- the instruction of a word, by its major opcode (table 24.1)
abbrev pub by_opcode : ℕ → ℕ → Instruction
by_opcode w n =
    if nat_eq n 0x37 then u_type Lui w
    else (if nat_eq n 0x17 then u_type Auipc w
    else (if nat_eq n 0x6f then j_type Jal w
    else (if nat_eq n 0x67 then i_type (jalr_of (funct3_of w)) w
    else (if nat_eq n 0x63 then b_type (branch_of (funct3_of w)) w
    else (if nat_eq n 0x03 then i_type (load_of (funct3_of w)) w
    else (if nat_eq n 0x23 then s_type (store_of (funct3_of w)) w
    else (if nat_eq n 0x13 then op_imm_of w (funct3_of w)
    else (if nat_eq n 0x1b then op_imm_32_of w (funct3_of w)
    else (if nat_eq n 0x33 then r_type (op_of (funct7_of w) (funct3_of w)) w
    else (if nat_eq n 0x3b then r_type (op_32_of (funct7_of w) (funct3_of w)) w
    else (if nat_eq n 0x0f then plain (fence_of (funct3_of w))
    else (if nat_eq n 0x73 then plain (system_of w)
    else plain Bad))))))))))))

unfoldable pub decode_of : ℕ → Instruction
decode_of w = by_opcode w (w % 2 ^ 7)
