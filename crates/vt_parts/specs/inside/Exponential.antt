-- Exponential numbers, as functions of a word.
use Rattle.std.specs.Prelude.{ℕ, ◌+◌, ◌-◌, ◌*◌, ◌/◌, ◌%◌, ◌^◌, slice_index}
use Rattle.std.specs.Int.{w32, leading_zeros}
use Rattle.vt_parts.specs.declared.exponentials.TheConstants.{ONE, LN_2, STEP, KNOTS}

-- on the straight line between two knots
abbrev pub on_line : ℕ → ℕ → ℕ
on_line knot beyond = (slice_index KNOTS knot * (STEP - beyond) + slice_index KNOTS (knot + 1) * beyond) / STEP

-- a word without the zeros in front
abbrev pub shifted : ℕ → ℕ
shifted word = word * 2 ^ leading_zeros w32 word % 2 ^ 64

-- minus the logarithm of a word's part of 2 ^ 32: so many halvings, and the rest on the line
abbrev pub minus_log : ℕ → ℕ
minus_log word = leading_zeros w32 word * LN_2 + on_line (shifted word / STEP % 64) (shifted word % STEP)

-- that times the mean, rounded to a tick
abbrev pub exponential_ticks : ℕ → ℕ → ℕ
exponential_ticks word mean = (mean * minus_log word + ONE / 2) / ONE
