-- Counts of 64 bits, as a model keeps them.
use Rattle.std.specs.Prelude.{ℕ, ◌+◌, ◌-◌, ◌%◌, ◌^◌}

-- a count with one more
abbrev pub one_more : ℕ → ℕ
one_more n = (n + 1) % 2 ^ 64

-- a count with one fewer
abbrev pub one_fewer : ℕ → ℕ
one_fewer n = (n + (2 ^ 64 - 1)) % 2 ^ 64
