-- Numbers that are drawn.
use Rattle.std.specs.Prelude.{ℕ, ◌*◌, ◌/◌, ◌^◌}

-- the number below n that a word gives: the word times n, divided by 2 ^ 32 and rounded down
abbrev pub scaled : ℕ → ℕ → ℕ
scaled w n = w * n / 2 ^ 32
