-- Marks as a list, and as bits.
use Rattle.std.proofs.Common.{◌≡◌, ◌≢◌, ◌⊎◌, inl, inr, ℕ, ◌/◌, ◌%◌, ◌<◌, ◌≤◌, Bool, true, false, not, nat_eq, List, ◌++◌, take, drop, length, replicate, slice_get, slice_set, slice_index_or, Option, Some, None, IfNone, refl, sym, ◌∙◌, ap, arith}
use Rattle.std.proofs.Math.Seq.{take-append_seam}
use Rattle.std.proofs.lemmas.Bool.{cases_lt}
use Rattle.std.proofs.lemmas.List.{same_lists, length-set, get_or-set_same, get_or-set_other, get_or-replicate, length-replicate}
use Rattle.std.proofs.lemmas.List.FromFn.{length-map-range_with_len, get_or-map-range_with_len}
use Rattle.std.proofs.lemmas.Nat.Bits.{bit_at-zero}
use Rattle.std.proofs.lemmas.Option.{slice_get-get_or, slice_get_past, none-some, same_Some}
use Rattle.vt_marks.specs.inside.Bits.{is_set, marks_of, AreSums}
use Rattle.vt_marks.proofs.BitLemmas.{cleared, in-word, past-words}

-- the mark of an index
pub mark-is : (count : ℕ) (words : List ℕ) (index : ℕ) (d : Bool) → index < count → slice_index_or (marks_of count words) index d ≡ is_set words index
mark-is count words index d within = get_or-map-range_with_len (is_set words) 0 count index index d within (omega arith)

pub mark-there : (count : ℕ) (words : List ℕ) (index : ℕ) → index < count → slice_get (marks_of count words) index ≡ Some (is_set words index)
mark-there count words index within =
    let long = length-map-range_with_len (is_set words) 0 count in
    slice_get-get_or (marks_of count words) index false (omega (arith, long, within)) ∙ ap Some (mark-is count words index false within)

-- an index that is marked has its bit set
pub unset-unmarked : (count : ℕ) (words : List ℕ) (index : ℕ) → is_set words index ≡ false → slice_get (marks_of count words) index ≡ Some true → ⊥
unset-unmarked count words index off on = go (cases_lt index count)
  where
    go : ((index < count) ⊎ (count ≤ index)) → ⊥
    go (inl within) =
        let same : Some (is_set words index) ≡ Some true = sym (mark-there count words index within) ∙ on in
        let both : is_set words index ≡ true = same_Some _ _ same in
        let never : false ≡ true = sym off ∙ both in absurd (let k : false ≡ true = never in cc)
    go (inr past) =
        let long = length-map-range_with_len (is_set words) 0 count in
        absurd (none-some true (sym (slice_get_past (marks_of count words) index (omega (arith, long, past))) ∙ on))

-- and an index whose bit is set is marked, since none beyond them is
pub set-marked : (count : ℕ) (words : List ℕ) (index : ℕ) → ((other : ℕ) → count ≤ other → is_set words other ≡ false) → is_set words index ≡ true → slice_get (marks_of count words) index ≡ Some true
set-marked count words index beyond on = go (cases_lt index count)
  where
    go : ((index < count) ⊎ (count ≤ index)) → slice_get (marks_of count words) index ≡ Some true
    go (inl within) = mark-there count words index within ∙ ap Some on
    go (inr past) = absurd (let never : false ≡ true = sym (beyond index past) ∙ on in let k : false ≡ true = never in cc)

-- the whole of a list that was written in place
pub whole : (new old : List ℕ) (len : ℕ) → len ≡ length new → take len (new ++ drop (length new) old) ≡ new
whole new old len long = ap (λ n. take n (new ++ drop (length new) old)) long ∙ take-append_seam new (drop (length new) old)

-- ---- an index is marked anew

module _ (count : ℕ) (words : List ℕ) (index : ℕ) (value : Bool) (new : List ℕ) (own : is_set new index ≡ value) (others : (other : ℕ) → other ≢ index → is_set new other ≡ is_set words other) where
  pub marked-anew : marks_of count new ≡ slice_set (marks_of count words) index value
  marked-anew =
      let long = length-map-range_with_len (is_set words) 0 count in
      let long_new = length-map-range_with_len (is_set new) 0 count in
      let long_set = length-set (marks_of count words) index value in
      same_lists (marks_of count new) (slice_set (marks_of count words) index value) (omega (arith, long, long_new, long_set)) (λ k d less.
      let within : k < count = omega (arith, less, long_new) in
      mark-is count new k d within ∙ go k d within (cases_lt k index) (cases_lt index k))
    where
      apart : (k : ℕ) (d : Bool) → k < count → k ≢ index → is_set new k ≡ slice_index_or (slice_set (marks_of count words) index value) k d
      apart k d within away = others k away ∙ sym (get_or-set_other (marks_of count words) index k value d away ∙ mark-is count words k d within)

      go : (k : ℕ) (d : Bool) → k < count → ((k < index) ⊎ (index ≤ k)) → ((index < k) ⊎ (k ≤ index)) → is_set new k ≡ slice_index_or (slice_set (marks_of count words) index value) k d
      go k d within (inl less) _ = apart k d within (λ e. omega (arith, e, less))
      go k d within (inr _) (inl more) = apart k d within (λ e. omega (arith, e, more))
      go k d within (inr a) (inr b) =
          let same : k ≡ index = omega (arith, a, b) in
          let long = length-map-range_with_len (is_set words) 0 count in
          let there : index < length (marks_of count words) = omega (arith, long, same, within) in
          ap (is_set new) same ∙ own ∙ sym (ap (λ i. slice_index_or (slice_set (marks_of count words) index value) i d) same ∙ get_or-set_same (marks_of count words) index value d there)

  -- and none beyond the indices is
  pub none-anew : index < count → ((other : ℕ) → count ≤ other → is_set words other ≡ false) → (other : ℕ) → count ≤ other → is_set new other ≡ false
  none-anew within none other past = others other (λ e. omega (arith, e, within, past)) ∙ none other past

-- the sums, where a word and its bit are written
pub summed-anew : (words sums new_words new_sums : List ℕ) (at word : ℕ) → at < length words → AreSums words sums → new_words ≡ slice_set words at word
    → is_set new_sums at ≡ not (nat_eq word 0) → ((other : ℕ) → other ≢ at → is_set new_sums other ≡ is_set sums other) → AreSums new_words new_sums
summed-anew words sums new_words new_sums at word within told is own others k = go (cases_lt k at) (cases_lt at k)
  where
    apart : k ≢ at → is_set new_sums k ≡ not (nat_eq (slice_index_or new_words k 0) 0)
    apart away = others k away ∙ told k ∙ ap (λ n. not (nat_eq n 0)) (sym (ap (λ (ws : List ℕ). slice_index_or ws k 0) is ∙ get_or-set_other words at k word 0 away))

    go : ((k < at) ⊎ (at ≤ k)) → ((at < k) ⊎ (k ≤ at)) → is_set new_sums k ≡ not (nat_eq (slice_index_or new_words k 0) 0)
    go (inl less) _ = apart (λ e. omega (arith, e, less))
    go (inr _) (inl more) = apart (λ e. omega (arith, e, more))
    go (inr a) (inr b) =
        let same : k ≡ at = omega (arith, a, b) in
        ap (is_set new_sums) same ∙ own ∙ ap (λ n. not (nat_eq n 0)) (sym (ap (λ (ws : List ℕ). slice_index_or ws k 0) is ∙ ap (λ i. slice_index_or (slice_set words at word) i 0) same ∙ get_or-set_same words at word 0 within))

-- ---- none is marked

-- in words that are all 0 none is set
pub zeros-unset : (n index : ℕ) → is_set (replicate n 0) index ≡ false
zeros-unset n index = go (cases_lt (index / 64) n)
  where
    go : ((index / 64 < n) ⊎ (n ≤ index / 64)) → is_set (replicate n 0) index ≡ false
    go (inl within) = in-word (replicate n 0) index (index / 64) 0 false refl (get_or-replicate n (index / 64) 0 0 within) (cleared 0 (index % 64) (bit_at-zero (index % 64)))
    go (inr past) = past-words (replicate n 0) index (let long = length-replicate {A = ℕ} n 0 in omega (arith, long, past))

pub none-marked : (count n : ℕ) → marks_of count (replicate n 0) ≡ replicate count false
none-marked count n =
    let long = length-map-range_with_len (is_set (replicate n 0)) 0 count in
    let long_too = length-replicate count false in
    same_lists (marks_of count (replicate n 0)) (replicate count false) (omega (arith, long, long_too)) (λ k d less.
    let within : k < count = omega (arith, less, long) in
    mark-is count (replicate n 0) k d within ∙ zeros-unset n k ∙ sym (get_or-replicate count k false d within))

-- ---- options

pub if_none-more : {X : Type 0} {P Q : Type 0} (o : Option X) → (P → Q) → IfNone o P → IfNone o Q
if_none-more None more h = more h
if_none-more (Some x) more h = h
