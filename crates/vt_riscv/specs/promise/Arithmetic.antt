-- What instructions compute of 64-bit numbers: chapters 2, 5 and 7 of the manual.
use Rattle.std.specs.Prelude.{ℕ, ◌+◌, ◌-◌, ◌*◌, ◌/◌, ◌%◌, ◌^◌, Bool, nat_eq, int_lt, int_rem, if◌then◌else◌}
use Rattle.std.specs.Int.{Width, w32, w64, w128, bit_not, cast_signed, cast_unsigned, int_shr, int_wrapping_div}

-- the low 32 bits
abbrev pub low : ℕ → ℕ
low x = x % 2 ^ 32

-- a 32-bit number as 64 bits, by its sign
abbrev pub sign_extended : ℕ → ℕ
sign_extended x = cast_unsigned w64 (cast_signed w32 x)

-- sums and differences, without the carry
abbrev pub sum : ℕ → ℕ → ℕ
sum x y = (x + y) % 2 ^ 64

abbrev pub difference : ℕ → ℕ → ℕ
difference x y = (x + (2 ^ 64 - y)) % 2 ^ 64

abbrev pub sum_of_words : ℕ → ℕ → ℕ
sum_of_words x y = sign_extended ((low x + low y) % 2 ^ 32)

abbrev pub difference_of_words : ℕ → ℕ → ℕ
difference_of_words x y = sign_extended ((low x + (2 ^ 32 - low y)) % 2 ^ 32)

-- shifts: to the left, to the right with zeros, and to the right with the sign. The amount is the low six bits, or five for words
abbrev pub left : ℕ → ℕ → ℕ
left x by = (x * 2 ^ (by % 64)) % 2 ^ 64

abbrev pub right : ℕ → ℕ → ℕ
right x by = x / 2 ^ (by % 64)

abbrev pub right_signed : ℕ → ℕ → ℕ
right_signed x by = cast_unsigned w64 (int_shr (cast_signed w64 x) (by % 64))

abbrev pub left_of_word : ℕ → ℕ → ℕ
left_of_word x by = sign_extended ((low x * 2 ^ (by % 32)) % 2 ^ 32)

abbrev pub right_of_word : ℕ → ℕ → ℕ
right_of_word x by = sign_extended (low x / 2 ^ (by % 32))

abbrev pub right_signed_of_word : ℕ → ℕ → ℕ
right_signed_of_word x by = sign_extended (cast_unsigned w32 (int_shr (cast_signed w32 (low x)) (by % 32)))

-- whether one number is less than another, read with a sign
abbrev pub less_signed : ℕ → ℕ → Bool
less_signed x y = int_lt (cast_signed w64 x) (cast_signed w64 y)

-- 7.1 Multiplication Operations
abbrev pub product : ℕ → ℕ → ℕ
product x y = (x * y) % 2 ^ 64

abbrev pub product_of_words : ℕ → ℕ → ℕ
product_of_words x y = sign_extended ((low x * low y) % 2 ^ 32)

-- a number as 128 bits, by its sign
abbrev pub doubled : ℕ → ℕ
doubled x = cast_unsigned w128 (cast_signed w64 x)

-- the upper half of a product of 128 bits, of numbers with signs, of one with and one without, and of numbers without
abbrev pub upper_signed : ℕ → ℕ → ℕ
upper_signed x y = (doubled x * doubled y) % 2 ^ 128 / 2 ^ 64

abbrev pub upper_mixed : ℕ → ℕ → ℕ
upper_mixed x y = (doubled x * y) % 2 ^ 128 / 2 ^ 64

abbrev pub upper_unsigned : ℕ → ℕ → ℕ
upper_unsigned x y = x * y / 2 ^ 64

-- 7.2 Division Operations. A quotient by zero is all ones, and the rest is the dividend. The least number with a sign, divided by
-- minus one, gives itself, and the rest is zero
abbrev pub quotient : Width → ℕ → ℕ → ℕ
quotient w x y = if nat_eq y 0 then bit_not w 0 else x / y

abbrev pub rest : ℕ → ℕ → ℕ
rest x y = if nat_eq y 0 then x else x % y

abbrev pub quotient_signed : Width → ℕ → ℕ → ℕ
quotient_signed w x y = if nat_eq y 0 then bit_not w 0 else cast_unsigned w (int_wrapping_div w (cast_signed w x) (cast_signed w y))

abbrev pub rest_signed : Width → ℕ → ℕ → ℕ
rest_signed w x y = if nat_eq y 0 then x else cast_unsigned w (int_rem (cast_signed w x) (cast_signed w y))

-- quotients and rests of words, as 64 bits
abbrev pub quotient_of_words : ℕ → ℕ → ℕ
quotient_of_words x y = sign_extended (quotient w32 (low x) (low y))

abbrev pub rest_of_words : ℕ → ℕ → ℕ
rest_of_words x y = sign_extended (rest (low x) (low y))

abbrev pub signed_quotient_of_words : ℕ → ℕ → ℕ
signed_quotient_of_words x y = sign_extended (quotient_signed w32 (low x) (low y))

abbrev pub signed_rest_of_words : ℕ → ℕ → ℕ
signed_rest_of_words x y = sign_extended (rest_signed w32 (low x) (low y))
