-- The value of digits.
use Rattle.std.proofs.Common.{◌≡◌, ℕ, ◌+◌, ◌-◌, ◌*◌, ◌^◌, ◌<◌, ◌≤◌, true, false, List, [], ◌∷◌, length, get_or, take, drop, Some, None, ap, sym, ◌∙◌, arith, take-append-drop, ◌==◌, true≢false}
use Rattle.std.proofs.lemmas.Bool.{lt-ltb, le-ltb, le-leb}
use Rattle.std.proofs.Math.Bool.{and-false}
use Rattle.std.specs.List.{fold, list_all}
use Rattle.std.specs.Char.{is_ascii_digit}
use Rattle.std.proofs.lemmas.List.Sums.{fold-append, fold_more}
use Rattle.std.specs.Fmt.{decimal}
use Rattle.std.proofs.Common.{rules}
use Rattle.std.proofs.lemmas.Fmt.{digits_decimal, digits_value-decimal, decimal_nonempty, length-decimal-le}
use Rattle.std.proofs.lemmas.Str.Parse.{IsNumeralModel, numerals_by_fold}
use Rattle.vt_text.specs.promise.Numbers.{decimal_value, is_number, number_said}

abbrev more : ℕ → ℕ → ℕ
more n digit = n * 10 + (digit - 48)

grows : (n : ℕ) (xs : List ℕ) → n ≤ fold more n xs
grows n [] = omega arith
grows n (x ∷ xs) = omega (arith, grows (n * 10 + (x - 48)) xs)

-- the first digits have no greater value
pub first_digits : (xs : List ℕ) (i : ℕ) → i < length xs → decimal_value (take i xs) * 10 + (get_or xs i 0 - 48) ≤ decimal_value xs
first_digits xs i h =
    let front = fold_more more 0 xs i 0 h in
    let whole : fold more 0 xs ≡ fold more (fold more 0 (take (i + 1) xs)) (drop (i + 1) xs) =
    ap (fold more 0) (sym (take-append-drop (i + 1) xs)) ∙ fold-append more 0 (take (i + 1) xs) (drop (i + 1) xs) in
    let rest = grows (fold more 0 (take (i + 1) xs)) (drop (i + 1) xs) in
    omega (arith, front, whole, rest)

-- a number that is too large is none
pub too_large : (xs : List ℕ) → 2 ^ 64 ≤ decimal_value xs → number_said xs ≡ None
too_large xs h = rw (le-ltb (decimal_value xs) (2 ^ 64) h, and-false (is_number xs))

pub a_number : (xs : List ℕ) → 0 < length xs → length xs ≤ 20 → list_all is_ascii_digit xs ≡ true → decimal_value xs < 2 ^ 64 → number_said xs ≡ Some (decimal_value xs)
a_number xs some few digits small = rw (lt-ltb 0 (length xs) some, le-leb (length xs) 20 few, digits, lt-ltb _ _ small)

pub not_empty : (xs : List ℕ) → false ≡ (length xs == 0) → 0 < length xs
not_empty [] e = absurd (true≢false (sym e))
not_empty (x ∷ xs) e = omega arith

-- decimal digits are read as their number
pub decimal_model : IsNumeralModel (λ ds. list_all is_ascii_digit ds ≡ true) decimal_value
decimal_model = numerals_by_fold (λ ds. list_all is_ascii_digit ds ≡ true) (search rules) (fold more) (search rules)

-- the digits of a number are read as that number
pub number_said-decimal : (n : ℕ) → n < 2 ^ 64 → number_said (decimal n) ≡ Some n
number_said-decimal n h =
    let value : decimal_value (decimal n) ≡ n = digits_value-decimal decimal_model n h in
    let small : decimal_value (decimal n) < 2 ^ 64 = omega arith in
    a_number (decimal n) (decimal_nonempty n h) (length-decimal-le 20 n (omega arith) (omega arith) h) (digits_decimal decimal_model n h) small ∙ ap Some value
