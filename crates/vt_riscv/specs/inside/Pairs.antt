-- Pairs of instructions in a row, for which one instruction can stand.
use Rattle.std.specs.Prelude.{◌≡◌, ℕ, ◌-◌, ◌^◌, ◌<◌, Bool, true, false, List, Option, Some, None, if◌then◌else◌, ◌||◌, nat_lt, nat_le}
use Rattle.std.specs.Option.{option_map}
use Rattle.vt_riscv.specs.declared.layout.TheConstants.{IMAGE, DATA}
use Rattle.vt_riscv.specs.declared.instruction.Operation.{Operation}
use Rattle.vt_riscv.specs.declared.instruction.Operation.TheVariants.{Lui, Addi, Andi, Slli, Srli, Ecall}
use Rattle.vt_riscv.specs.declared.instruction.Instruction.{Instruction}
use Rattle.vt_riscv.specs.declared.effect.Effect.{Effect}
use Rattle.vt_riscv.specs.declared.effect.Effect.TheVariants.{Load, LoadSigned}
use Rattle.vt_riscv.specs.promise.Arithmetic.{sum}
use Rattle.vt_riscv.specs.promise.Memory.{number_within, extended}
use Rattle.vt_riscv.specs.promise.Effects.{effect_of}

-- the second reads and writes the register that the first one writes
pub record IsOver (i j : Instruction) : Type 0 where
  pub reads : j.first ≡ i.destination
  pub writes : j.destination ≡ i.destination

-- ECALL behind ADDI: a call that keeps which register ADDI writes, and what
pub record IsCallWith (i j f : Instruction) : Type 0 where
  pub adds : i.operation ≡ Addi
  pub calls : j.operation ≡ Ecall
  pub long : j.length ≡ 4
  pub immediate : f.immediate ≡ i.immediate

-- SRLI behind SLLI by the same amount: ANDI that keeps the low bits
pub record IsMask (i j f : Instruction) : Type 0 where
  pub over : IsOver i j
  pub left : i.operation ≡ Slli
  pub right : j.operation ≡ Srli
  pub same : j.immediate ≡ i.immediate
  pub amount : i.immediate < 64
  pub mask : f.immediate ≡ 2 ^ (64 - i.immediate) - 1

-- what a load puts into a register, from these bytes
abbrev pub loaded_by : Effect → List ℕ → ℕ → Option ℕ
loaded_by (Load size) image at = number_within size image at
loaded_by (LoadSigned size) image at = option_map (extended size) (number_within size image at)
loaded_by _ image at = None

-- what an operation loads from an address, if that lies in the image
abbrev pub constant_at : List ℕ → Operation → ℕ → Option ℕ
constant_at image o address = if nat_lt address IMAGE || nat_le DATA address then None else loaded_by (effect_of o 0 0 0) image (address - IMAGE)

-- a load of a constant behind LUI: LUI of what is loaded
pub record IsConstant (image : List ℕ) (i j f : Instruction) : Type 0 where
  pub over : IsOver i j
  pub upper : i.operation ≡ Lui
  pub number : constant_at image j.operation (sum i.immediate j.immediate) ≡ Some f.immediate

-- operations of those that stand for two
abbrev pub joins : Operation → Bool
joins Ecall = true
joins Andi = true
joins Lui = true
joins _ = false

-- it stands for two in a row, but for its length
pub record IsJoined (image : List ℕ) (i j f : Instruction) : Type 0 where
  pub destination : f.destination ≡ i.destination
  pub some : 0 < f.destination
  pub first : f.first ≡ i.first
  pub only : joins f.operation ≡ true
  pub call : f.operation ≡ Ecall → IsCallWith i j f
  pub mask : f.operation ≡ Andi → IsMask i j f
  pub constant : f.operation ≡ Lui → IsConstant image i j f
