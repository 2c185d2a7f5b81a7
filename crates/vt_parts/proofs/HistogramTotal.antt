-- What a count adds to the total of a histogram.
use Rattle.std.proofs.Common.{◌≡◌, ℕ, ◌+◌, ◌%◌, ◌^◌, ◌<◌, true, false, length, slice_index, nat_lt, if◌then◌else◌, refl, arith}
use Rattle.std.proofs.lemmas.Bool.{ltb-true}
use Rattle.std.proofs.lemmas.List.Sums.{sum_by-set}
use Rattle.vt_model.specs.promise.Counts.{one_more}
use Rattle.vt_parts.specs.declared.histogram.Histogram.{Histogram}
use Rattle.vt_parts.specs.inside.Histogram.{IsHistogram, bin_of, with_bin, with_beyond, total, counted}

pub total_counted : {N : ℕ} (h : Histogram N) (value : ℕ) → IsHistogram h → total (counted h value) ≡ (total h + 1) % 2 ^ 64
total_counted {N} h value is =
    let bin = bin_of h value in
    elim (nat_lt bin N) as (λ b. nat_lt bin N ≡ b → total (if b then with_bin h bin one_more else with_beyond h one_more) ≡ (total h + 1) % 2 ^ 64) [
      | true ↦ λ e.
          let in_range : bin < length h.bins = omega (arith, is.long, ltb-true bin N e) in
          omega (arith, sum_by-set (λ x. x) h.bins bin (one_more (slice_index h.bins bin)) 0 in_range)
      | false ↦ λ e. omega arith
    ] refl
