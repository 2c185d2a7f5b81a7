-- What a histogram's calls do.
use Rattle.std.specs.Prelude.{◌≡◌, ℕ, ◌+◌, ◌%◌, ◌/◌, ◌^◌, ◌<◌, max, length, replicate, All, slice_index, slice_index_or, slice_set, nat_lt, if◌then◌else◌}
use Rattle.std.specs.List.{sum}
use Rattle.vt_model.specs.promise.Counts.{one_more, one_fewer}
use Rattle.vt_parts.specs.declared.histogram.Histogram.{Histogram}

-- a count is a 64-bit number
abbrev pub IsCount : ℕ → Type 0
IsCount n = n < 2 ^ 64

module _ {N : ℕ} where
  -- a histogram has its bins, and its counts are 64-bit numbers
  pub record IsHistogram (h : Histogram N) : Type 0 where
    pub long : length h.bins ≡ N
    pub bins : All IsCount h.bins
    pub beyond : h.beyond < 2 ^ 64

  -- a histogram of nothing
  abbrev pub empty_histogram : ℕ → Histogram N
  empty_histogram width = record { width = width; bins = replicate N 0; beyond = 0 }

  -- the bin of a value
  abbrev pub bin_of : Histogram N → ℕ → ℕ
  bin_of h value = value / max h.width 1

  -- how many values fell into a bin: none where there is no such bin
  abbrev pub count_in : Histogram N → ℕ → ℕ
  count_in h bin = slice_index_or h.bins bin 0

  -- how many values lay beyond all bins
  abbrev pub count_beyond : Histogram N → ℕ
  count_beyond h = h.beyond

  -- with another count in one bin
  abbrev pub with_bin : Histogram N → ℕ → (ℕ → ℕ) → Histogram N
  with_bin h bin change = record h { bins = slice_set h.bins bin (change (slice_index h.bins bin)) }

  -- with another count beyond the bins
  abbrev pub with_beyond : Histogram N → (ℕ → ℕ) → Histogram N
  with_beyond h change = record h { beyond = change h.beyond }

  -- with another count where this value belongs
  abbrev pub recounted : Histogram N → ℕ → (ℕ → ℕ) → Histogram N
  recounted h value change = if nat_lt (bin_of h value) N then with_bin h (bin_of h value) change else with_beyond h change

  -- with a value counted
  abbrev pub counted : Histogram N → ℕ → Histogram N
  counted h value = recounted h value one_more

  -- with a value no longer counted
  abbrev pub uncounted : Histogram N → ℕ → Histogram N
  uncounted h value = recounted h value one_fewer

  -- how many values were counted
  abbrev pub total : Histogram N → ℕ
  total h = (h.beyond + sum h.bins) % 2 ^ 64
