-- Bits of one word, and of words in a row.
use Rattle.std.proofs.Common.{◌≡◌, ◌≢◌, ◌⊎◌, inl, inr, ℕ, zero, suc, ◌+◌, ◌-◌, ◌*◌, ◌/◌, ◌%◌, ◌^◌, ◌<◌, ◌≤◌, Bool, true, false, nat_eq, not, min, bit_and, List, [], ◌∷◌, length, slice_index_or, refl, sym, ◌∙◌, ap, arith, w64}
use Rattle.std.specs.Int.{bit_at, trailing_zeros}
use Rattle.std.proofs.lemmas.Bool.{cases_lt}
use Rattle.std.proofs.lemmas.Bool.Decides.{nat_tests}
use Rattle.std.proofs.lemmas.Nat.{and_le_l}
use Rattle.std.proofs.lemmas.Nat.Bits.{bit_at_and, bit_at-zero, bit_at-lt, bit_at-trailing_zeros, ones_shl, bit_at_mask_inside, bit_at_mask_below}
use Rattle.vt_marks.specs.inside.Bits.{is_one, is_set, AreSums}

-- a bit that is 0 isn't set, and one that is 1 is
pub cleared : (word bit : ℕ) → bit_at word bit ≡ 0 → is_one word bit ≡ false
cleared word bit zero_there = ap (λ b. nat_eq b 1) zero_there

pub one_there : (word bit : ℕ) → bit_at word bit ≡ 1 → is_one word bit ≡ true
one_there word bit one = ap (λ b. nat_eq b 1) one

-- ---- the bits of a word from one on

module _ (word from : ℕ) (small : word < 2 ^ 64) (within : from < 64) where
  abbrev mask : ℕ
  mask = 18446744073709551615 * 2 ^ from % 18446744073709551616

  abbrev pub rest : ℕ
  rest = bit_and word mask

  mask-is : mask ≡ 2 ^ 64 - 2 ^ from
  mask-is = ones_shl 64 from (omega (arith, within))

  rest-low : (i : ℕ) → i < from → bit_at rest i ≡ 0
  rest-low i less =
      let none : bit_at mask i ≡ 0 = ap (λ m. bit_at m i) mask-is ∙ bit_at_mask_below from 64 i less in
      bit_at_and word mask i ∙ ap (min (bit_at word i)) none ∙ (omega arith)

  rest-high : (i : ℕ) → from ≤ i → i < 64 → bit_at rest i ≡ bit_at word i
  rest-high i more less =
      let one : bit_at mask i ≡ 1 = ap (λ m. bit_at m i) mask-is ∙ bit_at_mask_inside from 64 i more less in
      let two = bit_at-lt word i in
      bit_at_and word mask i ∙ ap (min (bit_at word i)) one ∙ (omega (arith, two))

  pub none-from : rest ≡ 0 → (i : ℕ) → from ≤ i → i < 64 → is_one word i ≡ false
  none-from gone i more less = cleared word i (sym (rest-high i more less) ∙ ap (λ n. bit_at n i) gone ∙ bit_at-zero i)

  -- the first of them
  pub record IsFirst (bit : ℕ) : Type 0 where
    pub from_there : from ≤ bit
    pub within_word : bit < 64
    pub one : is_one word bit ≡ true
    pub first : (other : ℕ) → from ≤ other → other < bit → is_one word other ≡ false

  pub first-from : rest ≢ 0 → IsFirst (trailing_zeros w64 rest)
  first-from some =
      let less = and_le_l word mask in
      let found = bit_at-trailing_zeros w64 rest (omega (arith, some)) (omega (arith, less, small)) in
      let bit = trailing_zeros w64 rest in
      let on = λ (below : bit < from). (let no = rest-low bit below in absurd (omega (arith, found.1, no))) in
      let more : from ≤ bit = go (cases_lt bit from) on in
      record {
        from_there = more;
        within_word = found.0;
        one = one_there word bit (sym (rest-high bit more found.0) ∙ found.1);
        first = λ other later less_there. cleared word other (sym (rest-high other later (let b = found.0 in omega (arith, b, less_there))) ∙ found.2 other less_there);
      }
    where
      go : {bit : ℕ} → (bit < from) ⊎ (from ≤ bit) → (bit < from → ⊥) → from ≤ bit
      go (inl below) never = absurd (never below)
      go (inr more) never = more

-- ---- words in a row

-- the bit of an index, by its word
pub in-word : (words : List ℕ) (index at word : ℕ) (value : Bool) → index / 64 ≡ at → slice_index_or words at 0 ≡ word → is_one word (index % 64) ≡ value → is_set words index ≡ value
in-word words index at word value here there is = ap (λ k. is_one (slice_index_or words k 0) (index % 64)) here ∙ ap (λ n. is_one n (index % 64)) there ∙ is

-- past the last word no bit is set
get-past : (words : List ℕ) (k : ℕ) → length words ≤ k → slice_index_or words k 0 ≡ 0
get-past [] k past = refl
get-past (w ∷ ws) zero past = absurd (omega arith)
get-past (w ∷ ws) (suc k) past = get-past ws k (omega arith)

pub past-words : (words : List ℕ) (index : ℕ) → length words ≤ index / 64 → is_set words index ≡ false
past-words words index past = in-word words index (index / 64) 0 false refl (get-past words (index / 64) past) (cleared 0 (index % 64) (bit_at-zero (index % 64)))

-- ---- words, and sums that tell which of them have a bit that is set

some-there : (word : ℕ) → not (nat_eq word 0) ≡ true → word ≢ 0
some-there zero is e = let f : false ≡ true = is in absurd (let k : false ≡ true = f in cc)
some-there (suc word) is e = absurd (omega (arith, e))

none-there : (word : ℕ) → not (nat_eq word 0) ≡ false → word ≡ 0
none-there word is = grind (arith, nat_tests)

module _ (words sums : List ℕ) (from : ℕ) (told : AreSums words sums) (here : (bit : ℕ) → from % 64 ≤ bit → bit < 64 → is_one (slice_index_or words (from / 64) 0) bit ≡ false) where
  -- an index of a word that is passed
  passed : (next other : ℕ) → ((word : ℕ) → from / 64 + 1 ≤ word → word < next → is_set sums word ≡ false) → from ≤ other → other / 64 < next → is_set words other ≡ false
  passed next other between later before = go (cases_lt (from / 64) (other / 64))
    where
      go : ((from / 64 < other / 64) ⊎ (other / 64 ≤ from / 64)) → is_set words other ≡ false
      go (inl more) =
          let gone = none-there (slice_index_or words (other / 64) 0) (sym (told (other / 64)) ∙ between (other / 64) (omega (arith, more)) before) in
          in-word words other (other / 64) 0 false refl gone (cleared 0 (other % 64) (bit_at-zero (other % 64)))
      go (inr same) =
          let one : other / 64 ≡ from / 64 = omega (arith, same, later) in
          in-word words other (from / 64) _ false one refl (here (other % 64) (omega (arith, one, later)) (omega arith))

  -- none of the sums after the word of an index is set: none of the indices is
  pub nothing-later : ((word : ℕ) → from / 64 + 1 ≤ word → is_set sums word ≡ false) → (other : ℕ) → from ≤ other → is_set words other ≡ false
  nothing-later nowhere other later = passed (other / 64 + 1) other (λ word more less. nowhere word more) later (omega arith)

  -- the first one in the first word that has one
  module _ (next : ℕ) (later : from / 64 + 1 ≤ next) (there : is_set sums next ≡ true) (between : (word : ℕ) → from / 64 + 1 ≤ word → word < next → is_set sums word ≡ false)
      (small : slice_index_or words next 0 < 2 ^ 64) where
    abbrev pub first_bit : ℕ
    first_bit = trailing_zeros w64 (slice_index_or words next 0)

    found : (first_bit < 64) × (bit_at (slice_index_or words next 0) first_bit ≡ 1) × ((i : ℕ) → i < first_bit → bit_at (slice_index_or words next 0) i ≡ 0)
    found =
        let some = some-there (slice_index_or words next 0) (sym (told next) ∙ there) in
        bit_at-trailing_zeros w64 (slice_index_or words next 0) (omega (arith, some)) small

    pub bit-within : first_bit < 64
    bit-within = found.0

    pub word-within : next < length words
    word-within = go (cases_lt next (length words))
      where
        go : ((next < length words) ⊎ (length words ≤ next)) → next < length words
        go (inl less) = less
        go (inr past) = absurd (some-there (slice_index_or words next 0) (sym (told next) ∙ there) (get-past words next past))

    pub later-set : (from ≤ next * 64 + first_bit) × (is_set words (next * 64 + first_bit) ≡ true)
    later-set =
        let less = found.0 in
        let at : (next * 64 + first_bit) / 64 ≡ next = omega (arith, less) in
        let bit : (next * 64 + first_bit) % 64 ≡ first_bit = omega (arith, less) in (
          omega (arith, later),
          in-word words (next * 64 + first_bit) next (slice_index_or words next 0) true at refl (ap (is_one (slice_index_or words next 0)) bit ∙ one_there _ first_bit found.1),
        )

    pub later-first : (other : ℕ) → from ≤ other → other < next * 64 + first_bit → is_set words other ≡ false
    later-first other after before = go (cases_lt (other / 64) next)
      where
        go : ((other / 64 < next) ⊎ (next ≤ other / 64)) → is_set words other ≡ false
        go (inl less) = passed next other between after less
        go (inr more) =
            let less = found.0 in
            let one : other / 64 ≡ next = omega (arith, more, less, before) in
            in-word words other next _ false one refl (cleared _ (other % 64) (found.2 (other % 64) (omega (arith, one, before))))
