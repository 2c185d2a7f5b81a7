-- How large the sums of a pass may be.
use Rattle.std.proofs.Common.{◌≡◌, ℕ, zero, suc, ◌+◌, ◌^◌, ◌<◌, ◌≤◌, Bool, true, false, cond, List, [], ◌∷◌, length, slice_get, slice_set, arith}
use Rattle.std.specs.List.{count_by}
use Rattle.std.proofs.lemmas.List.Sums.{count_by-le-length, sum_by-cons}
use Rattle.vt_key.specs.declared.limits.TheConstants.{MAX_WORKERS}
use Rattle.vt_steps.specs.promise.BoardSteps.{is_clear}
use Rattle.vt_board.specs.inside.BoardOfRun.{most_summed}

-- how many flags are set
set_count : List Bool → ℕ
set_count flags = count_by (λ flag. flag) flags

-- the first flag is counted, if it is set
count-cons : (flag : Bool) (flags : List Bool) → set_count (flag ∷ flags) ≡ cond flag 1 0 + set_count flags
unfolding set_count
count-cons flag flags = sum_by-cons (λ b. cond b 1 0) flag flags

-- one flag more is set
count-set : (flags : List Bool) (w : ℕ) → is_clear (slice_get flags w) ≡ true → set_count (slice_set flags w true) ≡ set_count flags + 1
count-set [] w clear = absurd (let h : false ≡ true = clear in cc)
count-set (true ∷ flags) zero clear = absurd (let h : false ≡ true = clear in cc)
count-set (false ∷ flags) zero clear = omega (arith, count-cons false flags, count-cons true flags)
count-set (flag ∷ flags) (suc w) clear =
    omega (arith, count-set flags w clear, count-cons flag flags, count-cons flag (slice_set flags w true))

-- a reporter's count is below 2^64, so the sum keeps its bound
pub summed : (flags : List Bool) (w sum count : ℕ) → is_clear (slice_get flags w) ≡ true → sum ≤ most_summed flags → count < 2 ^ 64 → sum + count ≤ most_summed (slice_set flags w true)
unfolding set_count
summed flags w sum count clear bound small = let c = count-set flags w clear in omega arith

-- there are few workers, so there is room for one count more
pub room : (flags : List Bool) (sum count : ℕ) → length flags ≤ MAX_WORKERS → sum ≤ most_summed flags → count < 2 ^ 64 → sum + count < 2 ^ 128
room flags sum count few bound small = let c = count_by-le-length (λ flag. flag) flags in omega arith
