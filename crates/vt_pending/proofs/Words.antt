-- Words of 64 bits: a bit is set, and one that was set is cleared.
use Rattle.std.proofs.Common.{◌≡◌, ◌≢◌, ◌↔◌, ◌⊎◌, sym, ap, ◌∙◌, inl, inr, arith}
use Rattle.std.specs.Prelude.{ℕ, ◌*◌, ◌^◌, ◌<◌, bit_or, bit_xor, IsBitSet}
use Rattle.std.specs.Int.{bit_at}
use Rattle.std.proofs.lemmas.Nat.{pow_pos}
use Rattle.std.proofs.lemmas.Nat.Bits.{bit_at-lt, bit_at_or, bit_at_xor, bit_at-pow_same, bit_at-pow_other, and_pow}

-- a bit is set where it is 1
one-is-set : (n k : ℕ) → bit_at n k ≡ 1 → IsBitSet n k
one-is-set n k one none =
    let some : 1 * 2 ^ k ≡ 0 = ap (λ b. b * 2 ^ k) (sym one) ∙ sym (and_pow n k) ∙ none in
    omega (arith, some, pow_pos k)

set-is-one : (n k : ℕ) → IsBitSet n k → bit_at n k ≡ 1
set-is-one n k set = elim (small (bit_at n k) (bit_at-lt n k)) [
  | inl none ↦ absurd (set (and_pow n k ∙ ap (λ b. b * 2 ^ k) none ∙ omega arith))
  | inr one ↦ one
] where
  small : (b : ℕ) → b < 2 → (b ≡ 0) ⊎ (b ≡ 1)
  small b less = search (arith, less)

-- one bit was set: it is set now, and the others are as they were
pub set-bit : (n k : ℕ) → IsBitSet (bit_or n (2 ^ k)) k
set-bit n k = one-is-set (bit_or n (2 ^ k)) k (omega (arith, bit_at_or n (2 ^ k) k, bit_at-pow_same k, bit_at-lt n k))

pub set-other-bit : (n k i : ℕ) → i ≢ k → IsBitSet (bit_or n (2 ^ k)) i ↔ IsBitSet n i
set-other-bit n k i other =
    let same : bit_at (bit_or n (2 ^ k)) i ≡ bit_at n i = omega (arith, bit_at_or n (2 ^ k) i, bit_at-pow_other k i other) in (
      (λ set. one-is-set n i (sym same ∙ set-is-one (bit_or n (2 ^ k)) i set)),
      (λ set. one-is-set (bit_or n (2 ^ k)) i (same ∙ set-is-one n i set)),
    )

-- one that was set was turned: it is clear now, and the others are as they were
pub clear-bit : (n k : ℕ) → IsBitSet n k → IsBitSet (bit_xor n (2 ^ k)) k → ⊥
clear-bit n k set still =
    let one = set-is-one (bit_xor n (2 ^ k)) k still in
    omega (arith, one, bit_at_xor n (2 ^ k) k, bit_at-pow_same k, set-is-one n k set)

pub clear-other-bit : (n k i : ℕ) → i ≢ k → IsBitSet (bit_xor n (2 ^ k)) i ↔ IsBitSet n i
clear-other-bit n k i other =
    let same : bit_at (bit_xor n (2 ^ k)) i ≡ bit_at n i = omega (arith, bit_at_xor n (2 ^ k) i, bit_at-pow_other k i other, bit_at-lt n i) in (
      (λ set. one-is-set n i (sym same ∙ set-is-one (bit_xor n (2 ^ k)) i set)),
      (λ set. one-is-set (bit_xor n (2 ^ k)) i (same ∙ set-is-one n i set)),
    )
