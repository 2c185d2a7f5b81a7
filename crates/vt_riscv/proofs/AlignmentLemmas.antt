-- Addresses that are multiples of 4.
use Rattle.std.proofs.Common.{◌≡◌, ℕ, ◌%◌, Bool, true, false, not, nat_eq, if◌then◌else◌, ap, sym, arith}

-- a multiple of 4 is one of 2
even_too : (address : ℕ) (compressed : Bool) → address % 4 ≡ 0 → address % (if compressed then 2 else 4) ≡ 0
even_too address true four = omega (arith, four)
even_too address false four = four

-- so an instruction may begin there, whether some are compressed or not
pub never_misaligned : (address : ℕ) (compressed : Bool) → address % 4 ≡ 0 → false ≡ not (nat_eq (address % (if compressed then 2 else 4)) 0)
never_misaligned address compressed four = sym (ap (λ (rest : ℕ). not (nat_eq rest 0)) (even_too address compressed four))
