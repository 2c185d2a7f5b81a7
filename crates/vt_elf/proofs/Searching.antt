-- The least number that passes a test.
use Rattle.std.proofs.Common.{◌≡◌, ℕ, suc, zero, ◌+◌, ◌<◌, ◌≤◌, Bool, true, false, Some, None, refl, ⊎_elim, add-one, arith}
use Rattle.std.proofs.lemmas.Bool.{cases_lt}
use Rattle.vt_elf.specs.promise.Symbols.{first_below}

-- what is found is found below greater bounds too
pub still_found : (test : ℕ → Bool) (k n : ℕ) {i : ℕ} → first_below test k ≡ Some i → k ≤ n → first_below test n ≡ Some i
still_found test k zero found le = let e : k ≡ 0 = omega arith in rw e at found
still_found test k (suc n) {i} found le =
    ⊎_elim
    (λ (h : k < suc n). rw (still_found test k n found (omega arith)) refl)
    (λ (h : suc n ≤ k). let e : k ≡ suc n = omega arith in rw e at found)
    (cases_lt k (suc n))

-- the first that passes is found
pub found_first : (test : ℕ → Bool) (k n : ℕ) → first_below test k ≡ None → test k ≡ true → k < n → first_below test n ≡ Some k
found_first test k n none passes lt =
    let here : first_below test (suc k) ≡ Some k = rw (none, passes) refl in
    still_found test (suc k) n here (omega arith)
