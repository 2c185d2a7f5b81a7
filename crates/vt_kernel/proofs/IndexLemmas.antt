-- Looking up a process of a worker.
use Rattle.std.proofs.Common.{◌≡◌, ℕ, ◌+◌, ◌-◌, ◌/◌, ◌%◌, ◌<◌, ◌≤◌, List, length, Option, Some, None, IfSome, IfNone, Bor, arith}
use Rattle.std.specs.Slice.{IsItemAt}
use Rattle.vt_kernel.proofs.ProcessLemmas.{index-unknown}

-- an index among those of a worker's processes is that of a process of the run
pub process-below : (lps workers w p : ℕ) → 1 ≤ workers → p % workers ≡ w → p / workers < (lps + (workers - 1) - w) / workers → p < lps
process-below lps workers w p some own inside =
    let no : lps ≤ p → ⊥ = λ past. index-unknown lps workers w p some past own inside in
    omega arith

module _ {X : Type 0} where
  -- what a reference that was looked up tells of its index
  pub found-below : (xs : List X) (i : ℕ) (o : Option (Bor X)) → IsItemAt xs i o → IfSome o (λ _. i < length xs)
  found-below xs i None h = tt
  found-below xs i (Some b) h = omega (arith, h)

  pub missed-past : (xs : List X) (i : ℕ) (o : Option (Bor X)) → IsItemAt xs i o → IfNone o (length xs ≤ i)
  missed-past xs i None h = omega (arith, h)
  missed-past xs i (Some b) h = tt

-- what follows of each
pub if_some : {Y A B : Type 0} (o : Option Y) → (A → B) → IfSome o (λ _. A) → IfSome o (λ _. B)
if_some None f h = tt
if_some (Some y) f h = f h

pub if_none : {Y A B : Type 0} (o : Option Y) → (A → B) → IfNone o A → IfNone o B
if_none None f h = f h
if_none (Some y) f h = tt
