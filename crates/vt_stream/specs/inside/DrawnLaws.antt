-- How large a drawn number is.
use Rattle.std.proofs.Common.{ℕ, ◌-◌, ◌*◌, ◌^◌, ◌<◌, ◌≤◌, arith}
use Rattle.std.proofs.lemmas.Nat.{div_below}
use Rattle.std.proofs.Math.Nat.{mul-le-mul_right}
use Rattle.vt_stream.specs.promise.Drawn.{scaled}

pub scaled_below : (w n : ℕ) → w < 2 ^ 32 → 0 < n → scaled w n < n
scaled_below w n small some =
    let most : w * n ≤ (2 ^ 32 - 1) * n = mul-le-mul_right n (omega arith) in
    div_below (w * n) (2 ^ 32) n (omega arith) (omega arith)
