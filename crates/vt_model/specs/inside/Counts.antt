-- Counts of 64 bits, as a model keeps them.
use Rattle.std.specs.Prelude.{◌≡◌, ℕ, ◌-◌, ◌^◌, ◌<◌}
use Rattle.std.proofs.Common.{arith}
use Rattle.vt_model.specs.promise.Counts.{one_more, one_fewer}

-- one more and then one fewer
pub fewer-more : (n : ℕ) → n < 2 ^ 64 → one_fewer (one_more n) ≡ n
fewer-more n fits = omega arith
