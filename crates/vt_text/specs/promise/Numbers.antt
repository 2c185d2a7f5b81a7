-- Numbers as text.
use Rattle.std.specs.Prelude.{ℕ, ◌+◌, ◌-◌, ◌*◌, ◌^◌, ◌&&◌, Bool, List, length, nat_lt, nat_le, fold, Option, Some, None, if◌then◌else◌}
use Rattle.std.specs.Char.{is_ascii_digit}
use Rattle.std.specs.List.{list_all}
use Rattle.vt_text.specs.declared.number.TheConstants.{NUMBER_LEN}

-- the number with these decimal digits
abbrev pub decimal_value : List ℕ → ℕ
decimal_value digits = fold (λ n digit. n * 10 + (digit - 48)) 0 digits

-- 1 to 20 decimal digits
abbrev pub is_number : List ℕ → Bool
is_number text = nat_lt 0 (length text) && nat_le (length text) NUMBER_LEN && list_all is_ascii_digit text

-- the number that a text of 1 to 20 decimal digits has, where it is below 2 ^ 64
abbrev pub number_said : List ℕ → Option ℕ
number_said text = if is_number text && nat_lt (decimal_value text) (2 ^ 64) then Some (decimal_value text) else None
