-- Numbers in memory, the low byte first: 1.4 Memory, 2.6 Load and Store Instructions.
use Rattle.std.specs.Prelude.{ℕ, ◌+◌, ◌%◌, ◌^◌, List, [], ◌∷◌, length, nat_le, if◌then◌else◌, Option, Some, None, slice_index, slice_set}
use Rattle.std.specs.Int.{w8, w16, w32, w64, from_le_bytes, to_le_bytes, cast_signed, cast_unsigned}
use lib.Seq.{paste}
use Rattle.vt_riscv.specs.declared.memory.Size.{Size}
use Rattle.vt_riscv.specs.declared.memory.Size.TheVariants.{Byte, Half, Word, Double}

-- how many bytes a number has
abbrev pub width : Size → ℕ
width Byte = 1
width Half = 2
width Word = 4
width Double = 8

-- the number that lies at an offset in these bytes
abbrev pub number_at : Size → List ℕ → ℕ → ℕ
number_at Byte m at = slice_index m at
number_at Half m at = from_le_bytes w16 (slice_index m at ∷ slice_index m (at + 1) ∷ [])
number_at Word m at = from_le_bytes w32 (slice_index m at ∷ slice_index m (at + 1) ∷ slice_index m (at + 2) ∷ slice_index m (at + 3) ∷ [])
number_at Double m at =
    from_le_bytes w64 (slice_index m at ∷ slice_index m (at + 1) ∷ slice_index m (at + 2) ∷ slice_index m (at + 3) ∷ slice_index m (at + 4) ∷ slice_index m (at + 5) ∷ slice_index m (at + 6) ∷ slice_index m (at + 7) ∷ [])

-- the number that lies at an offset in these bytes, if all of it does
abbrev pub number_within : Size → List ℕ → ℕ → Option ℕ
number_within size bytes at = if nat_le (at + width size) (length bytes) then Some (number_at size bytes at) else None

-- these bytes with a number at an offset: `paste` puts so many bytes over those that lie there
abbrev pub stored : Size → List ℕ → ℕ → ℕ → List ℕ
stored Byte m at v = slice_set m at (v % 2 ^ 8)
stored Half m at v = paste m at (to_le_bytes w16 (v % 2 ^ 16)) 2
stored Word m at v = paste m at (to_le_bytes w32 (v % 2 ^ 32)) 4
stored Double m at v = paste m at (to_le_bytes w64 v) 8

-- these bytes with a number at an offset, if there is room for all of it
abbrev pub stored_within : Size → List ℕ → ℕ → ℕ → Option (List ℕ)
stored_within size bytes at v = if nat_le (at + width size) (length bytes) then Some (stored size bytes at v) else None

-- a number from memory as 64 bits, by its sign
abbrev pub extended : Size → ℕ → ℕ
extended Byte v = cast_unsigned w64 (cast_signed w8 (v % 2 ^ 8))
extended Half v = cast_unsigned w64 (cast_signed w16 (v % 2 ^ 16))
extended Word v = cast_unsigned w64 (cast_signed w32 (v % 2 ^ 32))
extended Double v = v
