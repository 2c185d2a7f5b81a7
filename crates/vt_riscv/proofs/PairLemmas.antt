-- Numbers of pairs of instructions.
use Rattle.std.proofs.Common.{◌≡◌, ℕ, ◌+◌, ◌-◌, ◌*◌, ◌/◌, ◌%◌, ◌^◌, ◌<◌, ◌∙◌, bit_and, sym, ap, arith}
use Rattle.std.proofs.Math.Arith.{mod-mul}
use Rattle.std.proofs.Math.Nat.{div-eq_of_lt-le, mul-div_cancel, mul-mod_left}
use Rattle.std.proofs.lemmas.Nat.{and_mask, pow-add, pow_pos}
use Rattle.vt_riscv.specs.promise.Arithmetic.{left, right}

-- 64 bits are those above and those below
parted : (amount : ℕ) → amount < 64 → 2 ^ (64 - amount) * 2 ^ amount ≡ 18446744073709551616
parted amount few =
    let all : 64 - amount + amount ≡ 64 = omega (arith, few) in
    sym (pow-add 2 (64 - amount) amount) ∙ ap (λ (n : ℕ). 2 ^ n) all

divided : (p q : ℕ) → 0 < p → (q + 1) * p ≡ 18446744073709551616 → 18446744073709551615 / p ≡ q
divided p q some whole = div-eq_of_lt-le p (omega (arith, some, whole)) (omega (arith, whole))

-- what is left of ones
pub ones : (amount : ℕ) → amount < 64 → 18446744073709551615 / 2 ^ amount ≡ 2 ^ (64 - amount) - 1
ones amount few =
    let some : 0 < 2 ^ (64 - amount) = pow_pos (64 - amount) in
    let one : 2 ^ (64 - amount) - 1 + 1 ≡ 2 ^ (64 - amount) = omega (arith, some) in
    divided (2 ^ amount) (2 ^ (64 - amount) - 1) (pow_pos amount) (ap (λ (n : ℕ). n * 2 ^ amount) one ∙ parted amount few)

-- a multiple's rest
rest_of : (x m p : ℕ) → 0 < m → 0 < p → x * p % (m * p) / p ≡ x % m
rest_of x m p some more =
    ap (λ (n : ℕ). n / p) (mod-mul (x * p) some more
    ∙ (λ j. mul-div_cancel x more j % m * p + mul-mod_left x p j)
    ∙ omega arith)
    ∙ mul-div_cancel (x % m) more

-- a shift to the left and one back keep the low bits
pub back : (x amount : ℕ) → amount < 64 → right (left x amount) amount ≡ bit_and x (2 ^ (64 - amount) - 1)
back x amount few =
    let same : amount % 64 ≡ amount = omega (arith, few) in
    ap (λ (n : ℕ). x * 2 ^ n % 2 ^ 64 / 2 ^ n) same
    ∙ ap (λ (n : ℕ). x * 2 ^ amount % n / 2 ^ amount) (sym (parted amount few))
    ∙ rest_of x (2 ^ (64 - amount)) (2 ^ amount) (pow_pos (64 - amount)) (pow_pos amount)
    ∙ sym (and_mask x (64 - amount))
