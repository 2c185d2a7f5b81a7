-- How large drawn numbers are.
use Rattle.std.proofs.Common.{◌≡◌, ℕ, zero, suc, ◌+◌, ◌-◌, ◌^◌, ◌<◌, ◌≤◌, true, false, List, [], ◌∷◌, length, nat_lt, if◌then◌else◌, refl, arith}
use Rattle.std.specs.List.{sum}
use Rattle.std.proofs.lemmas.Bool.{ltb-false}
use Rattle.std.proofs.lemmas.List.Sums.{sum_by-cons}
use Rattle.vt_stream.specs.promise.Drawn.{scaled}
use Rattle.vt_stream.specs.inside.DrawnLaws.{scaled_below}
use Rattle.vt_parts.specs.inside.Drawing.{happens, chosen, weight_drawn, first_hit, failures}

-- a point below the sum belongs to one of the weights
pub chosen_within : (ws : List ℕ) (point : ℕ) → point < sum ws → chosen ws point < length ws
chosen_within [] point low = absurd (omega (arith, low))
chosen_within (w ∷ ws) point low =
    elim (nat_lt point w) as (λ b. nat_lt point w ≡ b → (if b then 0 else suc (chosen ws (point - w))) < suc (length ws)) [
      | true ↦ λ e. omega arith
      | false ↦ λ e.
          let total : sum (w ∷ ws) ≡ w + sum ws = sum_by-cons (λ n. n) w ws in
          omega (arith, chosen_within ws (point - w) (omega (arith, ltb-false point w e, total, low)))
    ] refl

-- a drawn index is that of one of the weights
pub weight_drawn_below : (ws : List ℕ) (word : ℕ) → word < 2 ^ 32 → 0 < sum ws → weight_drawn ws word < length ws
weight_drawn_below ws word small some = chosen_within ws (scaled word (sum ws)) (scaled_below word (sum ws) small some)

-- a hit is at one of the words, or behind them
first_hit_within : (words : ℕ → ℕ) (p q at left : ℕ) → first_hit words p q at left ≤ at + left
first_hit_within words p q at zero = omega arith
first_hit_within words p q at (suc left) =
    elim (happens (words at) p q) as (λ b. (if b then at else first_hit words p q (suc at) left) ≤ at + suc left) [
      | true ↦ omega arith
      | false ↦ omega (arith, first_hit_within words p q (suc at) left)
    ]

-- it fails no more often than it is tried
pub failures_within : (words : ℕ → ℕ) (p q limit : ℕ) → failures words p q limit ≤ limit
failures_within words p q limit = omega (arith, first_hit_within words p q 0 limit)
