-- The first flags of an array: those of the workers.
use Rattle.std.proofs.Common.{◌≡◌, ℕ, ◌<◌, ◌≤◌, Bool, true, false, List, length, take, replicate, slice_set, ap, sym, ◌∙◌, arith}
use Rattle.std.proofs.Math.Seq.{take-set-lt}
use Rattle.std.proofs.lemmas.List.{length-take-le, take-replicate}

-- a flag of the first ones is set
pub set-first : (flags : List Bool) (workers w : ℕ) → workers ≤ length flags → w < length (take workers flags) → take workers (slice_set flags w true) ≡ slice_set (take workers flags) w true
set-first flags workers w all within =
    let l = length-take-le workers flags all in
    take-set-lt workers flags w true (omega arith)

-- the first of flags that are all clear
pub clear-first : (flags : List Bool) (workers : ℕ) → workers ≤ length flags → take workers (replicate (length flags) false) ≡ replicate (length (take workers flags)) false
clear-first flags workers all = take-replicate workers (length flags) false all ∙ ap (λ n. replicate n false) (sym (length-take-le workers flags all))
