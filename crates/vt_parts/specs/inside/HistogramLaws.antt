-- The laws of a histogram: its calls keep it one, and one of them undoes the other.
use Rattle.std.proofs.Common.{◌≡◌, ℕ, ◌<◌, ◌∙◌, true, false, length, slice_index, slice_set, nat_lt, if◌then◌else◌, refl, ap, arith, get_or-set_same}
use Rattle.std.proofs.lemmas.Bool.{ltb-true}
use Rattle.std.proofs.lemmas.List.{set-set, set-get_or, length-set, length-replicate}
use Rattle.std.proofs.lemmas.List.Elements.{All-set, All-get_or, All-replicate}
use Rattle.vt_model.specs.promise.Counts.{one_more, one_fewer}
use Rattle.vt_model.specs.inside.Counts.{fewer-more}
use Rattle.vt_parts.specs.declared.histogram.Histogram.{Histogram}
use Rattle.vt_parts.specs.inside.Histogram.{IsHistogram, IsCount, empty_histogram, bin_of, with_bin, with_beyond, counted, uncounted}

module _ {N : ℕ} where
  -- an empty histogram is a histogram
  pub empty_histogram_is : (width : ℕ) → IsHistogram {N = N} (empty_histogram width)
  empty_histogram_is width = record { long = length-replicate N 0; bins = All-replicate IsCount N 0 (omega arith); beyond = omega arith }

  -- a count leaves a histogram
  pub counted_is : (h : Histogram N) (value : ℕ) → IsHistogram h → IsHistogram (counted h value)
  counted_is h value is =
      let bin = bin_of h value in
      elim (nat_lt bin N) as (λ b. IsHistogram (if b then with_bin h bin one_more else with_beyond h one_more)) [
        | true ↦ record {
          long = length-set h.bins bin (one_more (slice_index h.bins bin)) ∙ is.long;
          bins = All-set IsCount h.bins bin (one_more (slice_index h.bins bin)) (omega arith) is.bins;
          beyond = is.beyond;
        }
        | false ↦ record { long = is.long; bins = is.bins; beyond = omega arith }
      ]

  -- one bin counted and uncounted
  bin_undone : (h : Histogram N) (bin : ℕ) → IsHistogram h → bin < N → with_bin (with_bin h bin one_more) bin one_fewer ≡ h
  bin_undone h bin is within =
      let in_range : bin < length h.bins = omega (arith, is.long, within) in
      let before = slice_index h.bins bin in
      let count : one_fewer (slice_index (slice_set h.bins bin (one_more before)) bin) ≡ before =
      ap one_fewer (get_or-set_same h.bins bin (one_more before) 0 in_range) ∙ fewer-more before (All-get_or IsCount h.bins bin 0 in_range is.bins) in
      let bins : slice_set (slice_set h.bins bin (one_more before)) bin (one_fewer (slice_index (slice_set h.bins bin (one_more before)) bin)) ≡ h.bins =
      set-set h.bins bin (one_more before) (one_fewer (slice_index (slice_set h.bins bin (one_more before)) bin)) ∙ ap (slice_set h.bins bin) count ∙ set-get_or h.bins bin 0 in
      λ j. record h { bins = bins j }

  -- `uncount` undoes `count`
  pub uncounted_counted : (h : Histogram N) (value : ℕ) → IsHistogram h → uncounted (counted h value) value ≡ h
  uncounted_counted h value is =
      let bin = bin_of h value in
      elim (nat_lt bin N) as (λ b. nat_lt bin N ≡ b → uncounted (if b then with_bin h bin one_more else with_beyond h one_more) value ≡ h) [
        | true ↦ λ e. (λ j. if e j then with_bin (with_bin h bin one_more) bin one_fewer else with_beyond (with_bin h bin one_more) one_fewer) ∙ bin_undone h bin is (ltb-true bin N e)
        | false ↦ λ e. (λ j. if e j then with_bin (with_beyond h one_more) bin one_fewer else with_beyond (with_beyond h one_more) one_fewer) ∙ (λ j. record h { beyond = fewer-more h.beyond is.beyond j })
      ] refl
