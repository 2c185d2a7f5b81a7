-- What is mixed into a sum comes out again.
use Rattle.std.proofs.Common.{◌≡◌, ℕ, ◌+◌, ◌*◌, ◌/◌, ◌%◌, ◌^◌, ◌<◌, bit_or, bit_xor, ap, ◌∙◌, arith}
use Rattle.std.proofs.lemmas.Nat.{or_comm, or_shifted}
use Rattle.std.specs.Int.Bits.{xor_assoc, xor_self, xor_zero_r}
use Rattle.std.specs.Int.{w64, rotate_left, rotate_right}

left_parts : (a : ℕ) → a < 2 ^ 64 → rotate_left w64 a 8 ≡ (a % 2 ^ 56) * 2 ^ 8 + a / 2 ^ 56
left_parts a fits =
    let low : (a * 2 ^ 8) % 2 ^ 64 ≡ (a % 2 ^ 56) * 2 ^ 8 = omega arith in
    let small : a / 2 ^ 56 < 2 ^ 8 = omega arith in
    ap (λ (x : ℕ). bit_or x (a / 2 ^ 56)) low ∙ or_shifted (a % 2 ^ 56) 8 (a / 2 ^ 56) small

right_parts : (b : ℕ) → b < 2 ^ 64 → rotate_right w64 b 8 ≡ (b % 2 ^ 8) * 2 ^ 56 + b / 2 ^ 8
right_parts b fits =
    let high : (b * 2 ^ 56) % 2 ^ 64 ≡ (b % 2 ^ 8) * 2 ^ 56 = omega arith in
    let small : b / 2 ^ 8 < 2 ^ 56 = omega arith in
    ap (bit_or (b / 2 ^ 8)) high ∙ or_comm (b / 2 ^ 8) ((b % 2 ^ 8) * 2 ^ 56) ∙ or_shifted (b % 2 ^ 8) 56 (b / 2 ^ 8) small

pub left_lt : (a : ℕ) → a < 2 ^ 64 → rotate_left w64 a 8 < 2 ^ 64
left_lt a fits = omega (arith, left_parts a fits)

pub right-left : (a : ℕ) → a < 2 ^ 64 → rotate_right w64 (rotate_left w64 a 8) 8 ≡ a
right-left a fits =
    let b : ℕ = (a % 2 ^ 56) * 2 ^ 8 + a / 2 ^ 56 in
    let small : b < 2 ^ 64 = omega arith in
    let halves : (b % 2 ^ 8) * 2 ^ 56 + b / 2 ^ 8 ≡ a = omega arith in
    ap (λ (x : ℕ). rotate_right w64 x 8) (left_parts a fits) ∙ right_parts b small ∙ halves

pub xor-xor : (x t : ℕ) → bit_xor (bit_xor x t) t ≡ x
xor-xor x t = xor_assoc x t t ∙ ap (bit_xor x) (xor_self t) ∙ xor_zero_r x
