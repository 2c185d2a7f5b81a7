-- Marks kept as bits: 64 indices in a word.
use Rattle.std.specs.Prelude.{◌≡◌, ℕ, ◌*◌, ◌/◌, ◌%◌, ◌^◌, ◌≤◌, Bool, false, not, nat_eq, List, map, length, slice_index_or}
use Rattle.std.specs.Int.{bit_at}
use Rattle.std.specs.List.{range_with_len}

-- a bit of a word is set
abbrev pub is_one : ℕ → ℕ → Bool
is_one word bit = nat_eq (bit_at word bit) 1

-- the bit of an index is set; past the last word no bit is
abbrev pub is_set : List ℕ → ℕ → Bool
is_set words index = is_one (slice_index_or words (index / 64) 0) (index % 64)

-- the marks of so many indices
abbrev pub marks_of : ℕ → List ℕ → List Bool
marks_of count words = map (is_set words) (range_with_len 0 count)

-- the sums have a bit for each word, which is set if one of the word's is
abbrev pub AreSums : List ℕ → List ℕ → Type 0
AreSums words sums = (word : ℕ) → is_set sums word ≡ not (nat_eq (slice_index_or words word 0) 0)

-- each index has a bit in the words, no other bit is set there, and each word has its bit in the sums
pub record AreKept (count : ℕ) (words sums : List ℕ) : Type 0 where
  pub few_words : length words ≤ 2 ^ 58
  pub few_sums : length sums ≤ 2 ^ 58
  pub placed : count ≤ 64 * length words
  pub summed : length words ≤ 64 * length sums
  pub told : AreSums words sums
  pub none_beyond : (index : ℕ) → count ≤ index → is_set words index ≡ false
