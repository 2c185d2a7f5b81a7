-- What instructions do, by the numbers in their registers.
use Rattle.std.specs.Prelude.{ℕ, not, nat_eq, nat_lt, bit_and, bit_or, bit_xor}
use Rattle.std.specs.Int.{w64, from_bool}
use Rattle.vt_riscv.specs.declared.memory.Size.TheVariants.{Byte, Half, Word, Double}
use Rattle.vt_riscv.specs.declared.instruction.Operation.{Operation}
use Rattle.vt_riscv.specs.declared.instruction.Operation.TheVariants.{Bad, Lui, Auipc, Jal, Jalr, Beq, Bne, Blt, Bge, Bltu, Bgeu, Lb, Lh, Lw, Ld, Lbu, Lhu, Lwu, Sb, Sh, Sw, Sd, Addi, Slti, Sltiu, Xori, Ori, Andi, Slli, Srli, Srai, Add, Sub, Sll, Slt, Sltu, Xor, Srl, Sra, Or, And, Addiw, Slliw, Srliw, Sraiw, Addw, Subw, Sllw, Srlw, Sraw, Fence, Ecall, Ebreak, Mul, Mulh, Mulhsu, Mulhu, Div, Divu, Rem, Remu, Mulw, Divw, Divuw, Remw, Remuw}
use Rattle.vt_riscv.specs.declared.machine.Trap.TheVariants.{BadInstruction, Breakpoint}
use Rattle.vt_riscv.specs.declared.effect.Effect.{Effect}
use Rattle.vt_riscv.specs.declared.effect.Effect.TheVariants.{Put, PutAddress, Jump, JumpTo, Branch, Load, LoadSigned, Store, Pass, Call, Fail}
use Rattle.vt_riscv.specs.promise.Arithmetic.{sum, difference, sum_of_words, difference_of_words, left, right, right_signed, left_of_word, right_of_word, right_signed_of_word, less_signed, product, product_of_words, upper_signed, upper_mixed, upper_unsigned, quotient, rest, quotient_signed, rest_signed, quotient_of_words, rest_of_words, signed_quotient_of_words, signed_rest_of_words}

-- what an operation does, where the first register holds `x`, the second `y`, and the immediate is `n`
abbrev pub effect_of : Operation → ℕ → ℕ → ℕ → Effect
effect_of Bad x y n = Fail BadInstruction
-- 2.4 Integer Computational Instructions, and 5.2 of RV64I
effect_of Addi x y n = Put (sum x n)
effect_of Slti x y n = Put (from_bool (less_signed x n))
effect_of Sltiu x y n = Put (from_bool (nat_lt x n))
effect_of Xori x y n = Put (bit_xor x n)
effect_of Ori x y n = Put (bit_or x n)
effect_of Andi x y n = Put (bit_and x n)
effect_of Slli x y n = Put (left x n)
effect_of Srli x y n = Put (right x n)
effect_of Srai x y n = Put (right_signed x n)
effect_of Lui x y n = Put n
effect_of Auipc x y n = PutAddress
effect_of Addiw x y n = Put (sum_of_words x n)
effect_of Slliw x y n = Put (left_of_word x n)
effect_of Srliw x y n = Put (right_of_word x n)
effect_of Sraiw x y n = Put (right_signed_of_word x n)
effect_of Add x y n = Put (sum x y)
effect_of Sub x y n = Put (difference x y)
effect_of Sll x y n = Put (left x y)
effect_of Slt x y n = Put (from_bool (less_signed x y))
effect_of Sltu x y n = Put (from_bool (nat_lt x y))
effect_of Xor x y n = Put (bit_xor x y)
effect_of Srl x y n = Put (right x y)
effect_of Sra x y n = Put (right_signed x y)
effect_of Or x y n = Put (bit_or x y)
effect_of And x y n = Put (bit_and x y)
effect_of Addw x y n = Put (sum_of_words x y)
effect_of Subw x y n = Put (difference_of_words x y)
effect_of Sllw x y n = Put (left_of_word x y)
effect_of Srlw x y n = Put (right_of_word x y)
effect_of Sraw x y n = Put (right_signed_of_word x y)
-- 2.5 Control Transfer Instructions
effect_of Jal x y n = Jump
effect_of Jalr x y n = JumpTo
effect_of Beq x y n = Branch (nat_eq x y)
effect_of Bne x y n = Branch (not (nat_eq x y))
effect_of Blt x y n = Branch (less_signed x y)
effect_of Bge x y n = Branch (not (less_signed x y))
effect_of Bltu x y n = Branch (nat_lt x y)
effect_of Bgeu x y n = Branch (not (nat_lt x y))
-- 2.6 Load and Store Instructions, and 5.3 of RV64I
effect_of Lb x y n = LoadSigned Byte
effect_of Lh x y n = LoadSigned Half
effect_of Lw x y n = LoadSigned Word
effect_of Ld x y n = Load Double
effect_of Lbu x y n = Load Byte
effect_of Lhu x y n = Load Half
effect_of Lwu x y n = Load Word
effect_of Sb x y n = Store Byte
effect_of Sh x y n = Store Half
effect_of Sw x y n = Store Word
effect_of Sd x y n = Store Double
-- 2.7 Memory Ordering Instructions
effect_of Fence x y n = Pass
-- 2.8 Environment Call and Breakpoints
effect_of Ecall x y n = Call
effect_of Ebreak x y n = Fail Breakpoint
-- 7.1 Multiplication Operations
effect_of Mul x y n = Put (product x y)
effect_of Mulh x y n = Put (upper_signed x y)
effect_of Mulhsu x y n = Put (upper_mixed x y)
effect_of Mulhu x y n = Put (upper_unsigned x y)
effect_of Mulw x y n = Put (product_of_words x y)
-- 7.2 Division Operations
effect_of Div x y n = Put (quotient_signed w64 x y)
effect_of Divu x y n = Put (quotient w64 x y)
effect_of Rem x y n = Put (rest_signed w64 x y)
effect_of Remu x y n = Put (rest x y)
effect_of Divw x y n = Put (signed_quotient_of_words x y)
effect_of Divuw x y n = Put (quotient_of_words x y)
effect_of Remw x y n = Put (signed_rest_of_words x y)
effect_of Remuw x y n = Put (rest_of_words x y)
