-- The flags that a handler leaves for its reverse.
use Rattle.std.specs.Prelude.{ℕ, ◌^◌, Bool, not, nat_eq, bit_and}
use Rattle.vt_model.specs.declared.flags.Bits.{Bits}

-- whether a flag is set
abbrev pub has_flag : Bits → ℕ → Bool
has_flag b i = not (nat_eq (bit_and b.flags (2 ^ i)) 0)
