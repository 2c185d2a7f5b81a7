-- What lies in memory after a segment's bytes are put there.
use Rattle.std.proofs.Common.{◌≡◌, ℕ, ◌+◌, ◌-◌, ◌<◌, ◌≤◌, zero, suc, ◌⊎◌, cond, length, take, drop, get_or, List, [], ◌∷◌, refl, sym, ap, ◌∙◌, ⊎_elim, inl, inr, arith, length-take, length-drop}
use Rattle.std.proofs.lemmas.Bool.{le-leb, lt-leb, lt-ltb, le-ltb, cases_lt}
use Rattle.std.proofs.lemmas.List.{get_or_append_left, get_or-append_right, get_or-take, get_or-drop}
use Rattle.std.proofs.lemmas.List.Edits.{get_or-between}
use Rattle.std.proofs.Math.Seq.{drop-cons}
use Rattle.std.specs.List.{AllByRecursion, slice_range}
use borrow.Rule.Slice.PartMut.{put_mid}
use Rattle.vt_elf.specs.declared.segment.Segment.{Segment}
use Rattle.vt_elf.specs.promise.Segments.{file_byte, has_byte, memory_byte}

-- an address that a segment has a byte for, and one that it has none for
pub has : {X : Type 0} (s : Segment) (address : ℕ) (x y : X) → s.address ≤ address → address < s.address + s.file_size → cond (has_byte s address) x y ≡ x
has s address x y from to = rw (le-leb s.address address from, lt-ltb address (s.address + s.file_size) to) refl

pub has_not : {X : Type 0} (s : Segment) (address : ℕ) (x y : X) → (address < s.address) ⊎ (s.address + s.file_size ≤ address) → cond (has_byte s address) x y ≡ y
has_not s address x y (inl below) = rw (lt-leb s.address address below) refl
has_not s address x y (inr above) =
    ⊎_elim
    (λ (h : address < s.address). rw (lt-leb s.address address h) refl)
    (λ (h : s.address ≤ address). rw (le-leb s.address address h, le-ltb address (s.address + s.file_size) above) refl)
    (cases_lt address s.address)

-- a byte of a list over a part of which others were written
pub put_before : (to count : ℕ) (old new : List ℕ) (k : ℕ) → to ≤ length old → k < to → get_or (put_mid to count old new) k 0 ≡ get_or old k 0
put_before to count old new k fits below =
    let short : k < length (take to old) = omega (arith, length-take to old) in
    get_or_append_left (take to old) _ 0 k short ∙ get_or-take to old k 0 below

pub put_within : (to count : ℕ) (old new : List ℕ) (k : ℕ) → to ≤ length old → length new ≡ count → to ≤ k → k < to + count → get_or (put_mid to count old new) k 0 ≡ get_or new (k - to) 0
put_within to count old new k fits size from below =
    let front : length (take to old) ≡ to = omega (arith, length-take to old) in
    let short : k - to < length new = omega arith in
    get_or-append_right (take to old) _ to k 0 front from ∙ get_or_append_left new _ 0 (k - to) short

pub put_behind : (to count : ℕ) (old new : List ℕ) (k : ℕ) → to ≤ length old → length new ≡ count → to + count ≤ k → get_or (put_mid to count old new) k 0 ≡ get_or old k 0
put_behind to count old new k fits size above =
    let front : length (take to old) ≡ to = omega (arith, length-take to old) in
    let rest : count ≤ k - to = omega arith in
    let from : to ≤ k = omega arith in
    let index : to + (count + ((k - to) - count)) ≡ k = omega arith in
    get_or-append_right (take to old) _ to k 0 front from
    ∙ get_or-append_right new _ count (k - to) 0 size rest
    ∙ get_or-drop count (drop to old) ((k - to) - count) 0
    ∙ get_or-drop to old (count + ((k - to) - count)) 0
    ∙ ap (λ i. get_or old i 0) index

-- a byte of the memory from `base` on over which a segment's bytes were put
pub put_byte : (file memory new : List ℕ) (s : Segment) (base to count k : ℕ) → base ≤ s.address → to ≡ s.address - base → count ≡ s.file_size → to + count ≤ length memory → s.offset + s.file_size ≤ length file → new ≡ slice_range file s.offset (s.offset + s.file_size) → get_or (put_mid to count memory new) k 0 ≡ cond (has_byte s (base + k)) (file_byte file s (base + k)) (get_or memory k 0)
put_byte file memory new s base to count k begins at all fits whole is =
    let size : length new ≡ count = omega (arith, ap length is, length-take ((s.offset + s.file_size) - s.offset) (drop s.offset file), length-drop s.offset file) in
    ⊎_elim
    (λ (below : k < to).
    put_before to count memory new k (omega arith) below
    ∙ sym (has_not s (base + k) _ _ (inl (omega arith))))
    (λ (from : to ≤ k).
    ⊎_elim
    (λ (below : k < to + count).
    let index : s.offset + (k - to) ≡ s.offset + ((base + k) - s.address) = omega arith in
    put_within to count memory new k (omega arith) size from below
    ∙ ap (λ ys. get_or ys (k - to) 0) is
    ∙ get_or-between file s.offset (s.offset + s.file_size) (k - to) 0 (omega arith)
    ∙ ap (λ i. get_or file i 0) index
    ∙ sym (has s (base + k) _ _ (omega arith) (omega arith)))
    (λ (above : to + count ≤ k).
    put_behind to count memory new k (omega arith) size above
    ∙ sym (has_not s (base + k) _ _ (inr (omega arith))))
    (cases_lt k (to + count)))
    (cases_lt k to)

-- what holds of each element holds of the i-th
pub all_at : {X : Type 0} (P : X → Type 0) (xs : List X) (i : ℕ) (d : X) → i < length xs → AllByRecursion P xs → P (get_or xs i d)
all_at P [] i d below all = absurd (omega arith)
all_at P (x ∷ xs) zero d below all = all.0
all_at P (x ∷ xs) (suc i) d below all = all_at P xs i d (omega arith) all.1
