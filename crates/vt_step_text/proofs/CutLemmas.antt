-- A list that is cut at the first element that passes a test.
use Rattle.std.proofs.Common.{◌≡◌, ℕ, ◌+◌, ◌-◌, ◌<◌, Bool, true, false, cond, List, [], ◌∷◌, length, take, drop, Some, None, subst, arith, refl}
use Rattle.std.proofs.lemmas.List.Splits.{slice_split_first, slice_split_none}
use Rattle.std.proofs.lemmas.List.Sums.{fails_before_first}
use Rattle.std.proofs.lemmas.Option.{cond_some}
use Rattle.std.specs.List.{slice_split, position, position_or_len}
use Rattle.std.proofs.lemmas.Bool.{ltb-true, ltb-false}
use Rattle.std.proofs.lemmas.List.{take_rest}

-- the parts are what stands before that element, and the parts of what stands behind it
pub cut_at : (p : ℕ → Bool) (xs : List ℕ) (i : ℕ) → position p xs ≡ Some i → slice_split p xs ≡ take i xs ∷ slice_split p (take (length xs - (i + 1)) (drop (i + 1) xs))
cut_at p xs i e =
    let here = cond_some _ _ _ e in
    let within : position_or_len p xs < length xs = ltb-true _ _ here.0 in
    rw take_rest (subst (λ (k : ℕ). slice_split p xs ≡ take k xs ∷ slice_split p (drop (k + 1) xs)) here.1 (slice_split_first p xs 0 within))

none_fails : (b : Bool) (n : ℕ) → cond b (Some n) None ≡ None → b ≡ false
none_fails b n = elim b as (λ v. cond v (Some n) None ≡ None → v ≡ false) [ true ↦ λ e. cc | false ↦ λ e. refl ]

-- where there is none, the list is the one part
pub not_cut : (p : ℕ → Bool) (xs : List ℕ) → position p xs ≡ None → slice_split p xs ≡ xs ∷ []
not_cut p xs e =
    let past = ltb-false _ _ (none_fails _ _ e) in
    slice_split_none p xs (λ k d h. fails_before_first p xs k d (omega arith))
