-- Instructions made ready.
use Rattle.std.proofs.Common.{◌≡◌, inl, inr, ℕ, ◌+◌, ◌-◌, ◌%◌, ◌^◌, ◌<◌, ◌≤◌, ◌∙◌, Bool, true, false, if◌then◌else◌, List, [], ◌∷◌, ◌++◌, length, slice_index, refl, sym, ap, subst, arith}
use Rattle.std.proofs.lemmas.List.{get_or_append_left, length-append}
use Rattle.std.proofs.Math.Seq.{get_or-append_seam}
use Rattle.std.proofs.lemmas.Bool.{cases_lt}
use Rattle.vt_riscv.specs.declared.instruction.Instruction.{Instruction}
use Rattle.vt_riscv.specs.declared.ready.Head.{Head}
use Rattle.vt_riscv.specs.declared.ready.Entry.{Entry}
use Rattle.vt_riscv.specs.inside.Readiness.{address_at, step_of, ended, head_at, instruction_of, steps_at, Stands, IsMade, IsReady, IsReadyAt, AreEnded, IsAimed}

-- what is at an index of two lists, the first of which is longer
kept : (xs : List ℕ) (x : ℕ) (k : ℕ) → k ≤ length xs → (y : ℕ) → slice_index (xs ++ x ∷ []) k ≡ slice_index ((xs ++ x ∷ []) ++ y ∷ []) k
kept xs x k within y = sym (get_or_append_left (xs ++ x ∷ []) (y ∷ []) 0 k (omega (arith, within, length-append xs (x ∷ []))))

module _ (compressed : Bool) (image : List ℕ) (list : List Instruction) where
  -- only the head, the index behind it, the immediate and the steps tell
  moved : (r s : Head) (a b m n u v : ℕ) → r ≡ s → a ≡ b → m ≡ n → u ≡ v → IsReady compressed image list r a m u → IsReady compressed image list s b n v
  moved r s a b m n u v heads behind immediate steps is =
      subst (λ (x : Head). IsReady compressed image list x b n v) heads
      (subst (λ (x : ℕ). IsReady compressed image list r x n v) behind
      (subst (λ (x : ℕ). IsReady compressed image list r a x v) immediate
      (subst (λ (x : ℕ). IsReady compressed image list r a m x) steps is)))

  -- what ends the instructions is `Bad`
  end_ready : (index next immediate steps : ℕ) → address_at index % (if compressed then 2 else 4) ≡ 0 → IsReady compressed image list (ended index) next immediate steps
  end_ready index next immediate steps even = record {
    small = record { destination = omega arith; first = omega arith; second = omega arith };
    aligned = even;
    behind = λ good. absurd (good refl);
    few = λ good. absurd (good refl);
    stands = λ good. absurd (good refl);
  }

  -- what was made is ready
  made_ready : (index : ℕ) (e : Entry) → IsMade compressed image list index e → address_at index % (if compressed then 2 else 4) ≡ 0 → index + e.span < 2 ^ 32
      → IsReady compressed image list e.head (index + e.span) e.immediate e.steps
  made_ready index e made even few = record {
    small = made.small;
    aligned = subst (λ (p : ℕ). address_at p % (if compressed then 2 else 4) ≡ 0) (sym made.here) even;
    behind = λ good. omega (arith, made.here);
    few = λ good. few;
    stands = λ good. subst (λ (p : ℕ). Stands compressed image list p (instruction_of e.head (index + e.span) e.immediate) e.steps) (sym made.here) (made.stands good);
  }

  module _ (heads : List Head) (immediates rests : List ℕ) (index rest : ℕ) (many : length immediates ≡ length heads) (as_many : length rests ≡ length heads)
      (each : (k : ℕ) → k < length heads → IsReadyAt compressed image list (heads ++ ended index ∷ []) (rests ++ rest ∷ []) (slice_index immediates k) k)
      (even : address_at index % (if compressed then 2 else 4) ≡ 0) where
    -- with one more all are ready
    pub one_more : (e : Entry) (behind after : ℕ) → IsMade compressed image list index e → behind ≡ index + e.span → behind < 2 ^ 32 → rest ≡ after + e.steps
        → (k : ℕ) → k < length (heads ++ e.head ∷ []) → IsReadyAt compressed image list ((heads ++ e.head ∷ []) ++ ended behind ∷ []) ((rests ++ rest ∷ []) ++ after ∷ []) (slice_index (immediates ++ e.immediate ∷ []) k) k
    one_more e behind after made step few steps k inside =
        let r = e.head in
        let all = (heads ++ r ∷ []) ++ ended behind ∷ [] in
        let more = (rests ++ rest ∷ []) ++ after ∷ [] in
        let long : length (heads ++ r ∷ []) ≡ length heads + 1 = length-append heads (r ∷ []) in
        let longer : length (rests ++ rest ∷ []) ≡ length rests + 1 = length-append rests (rest ∷ []) in
        let new : head_at all (length heads) ≡ r = get_or_append_left (heads ++ r ∷ []) (ended behind ∷ []) (ended 0) (length heads) (omega (arith, long)) ∙ get_or-append_seam heads r [] (ended 0) in
        elim (cases_lt k (length heads)) [
          | inl old ↦ (
              let same : head_at (heads ++ ended index ∷ []) k ≡ head_at all k =
              get_or_append_left heads (ended index ∷ []) (ended 0) k old
              ∙ sym (get_or_append_left (heads ++ r ∷ []) (ended behind ∷ []) (ended 0) k (omega (arith, old, long)) ∙ get_or_append_left heads (r ∷ []) (ended 0) k old) in
              let next : (head_at (heads ++ ended index ∷ []) (k + 1)).index ≡ (head_at all (k + 1)).index = elim (cases_lt (k + 1) (length heads)) [
                | inl before ↦ ap (λ (h : Head). h.index) (
                    get_or_append_left heads (ended index ∷ []) (ended 0) (k + 1) before
                    ∙ sym (get_or_append_left (heads ++ r ∷ []) (ended behind ∷ []) (ended 0) (k + 1) (omega (arith, before, long)) ∙ get_or_append_left heads (r ∷ []) (ended 0) (k + 1) before))
                | inr last ↦ (
                    let at : k + 1 ≡ length heads = omega (arith, old, last) in
                    ap (λ (n : ℕ). (head_at (heads ++ ended index ∷ []) n).index) at
                    ∙ ap (λ (h : Head). h.index) (get_or-append_seam heads (ended index) [] (ended 0))
                    ∙ sym (ap (λ (n : ℕ). (head_at all n).index) at ∙ ap (λ (h : Head). h.index) new ∙ made.here))
              ] in
              let number : slice_index immediates k ≡ slice_index (immediates ++ e.immediate ∷ []) k = sym (get_or_append_left immediates (e.immediate ∷ []) 0 k (omega (arith, old, many))) in
              let here : slice_index (rests ++ rest ∷ []) k ≡ slice_index more k = kept rests rest k (omega (arith, old, as_many)) after in
              let there : slice_index (rests ++ rest ∷ []) (k + 1) ≡ slice_index more (k + 1) = kept rests rest (k + 1) (omega (arith, old, as_many)) after in
              moved _ _ _ _ _ _ _ _ same next number (λ j. here j - there j) (each k old))
          | inr past ↦ (
              let at : length heads ≡ k = omega (arith, past, inside, long) in
              let number : slice_index (immediates ++ e.immediate ∷ []) (length heads) ≡ e.immediate = ap (slice_index (immediates ++ e.immediate ∷ [])) (sym many) ∙ get_or-append_seam immediates e.immediate [] 0 in
              let next : (head_at all (length heads + 1)).index ≡ behind = ap (λ (n : ℕ). (head_at all n).index) (sym long) ∙ ap (λ (h : Head). h.index) (get_or-append_seam (heads ++ r ∷ []) (ended behind) [] (ended 0)) in
              let here : slice_index more (length heads) ≡ rest = sym (kept rests rest (length heads) (omega (arith, as_many)) after) ∙ ap (slice_index (rests ++ rest ∷ [])) (sym as_many) ∙ get_or-append_seam rests rest [] 0 in
              let there : slice_index more (length heads + 1) ≡ after = ap (slice_index more) (omega (arith, as_many, longer)) ∙ get_or-append_seam (rests ++ rest ∷ []) after [] 0 in
              let own : steps_at more (length heads) ≡ e.steps = omega (arith, here, there, steps) in
              subst (λ (n : ℕ). IsReadyAt compressed image list all more (slice_index (immediates ++ e.immediate ∷ []) n) n) at
              (moved _ _ _ _ _ _ _ _ (sym new) (sym (next ∙ step)) (sym number) (sym own) (made_ready index e made even (omega (arith, step, few)))))
        ]

    -- with what ends them all are ready
    pub closed : (k : ℕ) → k < length (heads ++ ended index ∷ []) → IsReadyAt compressed image list (heads ++ ended index ∷ []) (rests ++ rest ∷ []) (slice_index (immediates ++ 0 ∷ []) k) k
    closed k inside =
        let long : length (heads ++ ended index ∷ []) ≡ length heads + 1 = length-append heads (ended index ∷ []) in
        elim (cases_lt k (length heads)) [
          | inl old ↦ subst (λ (m : ℕ). IsReadyAt compressed image list (heads ++ ended index ∷ []) (rests ++ rest ∷ []) m k) (sym (get_or_append_left immediates (0 ∷ []) 0 k (omega (arith, old, many)))) (each k old)
          | inr past ↦ (
              let at : k ≡ length heads = omega (arith, past, inside, long) in
              let last : head_at (heads ++ ended index ∷ []) k ≡ ended index = ap (head_at (heads ++ ended index ∷ [])) at ∙ get_or-append_seam heads (ended index) [] (ended 0) in
              moved _ _ _ _ _ _ _ _ (sym last) refl refl refl (end_ready index _ _ _ even))
        ]

-- what ends them is `Bad`
pub ended_so : (heads : List Head) (index : ℕ) → AreEnded (heads ++ ended index ∷ [])
ended_so heads index k last =
    let at : k ≡ length heads = omega (arith, last, length-append heads (ended index ∷ [])) in
    ap (λ (h : Head). h.operation) (ap (head_at (heads ++ ended index ∷ [])) at ∙ get_or-append_seam heads (ended index) [] (ended 0))

-- the address behind an instruction is one at which another may begin
pub even_on : (compressed : Bool) (index length : ℕ) → address_at index % (if compressed then 2 else 4) ≡ 0 → address_at (index + step_of compressed length) % (if compressed then 2 else 4) ≡ 0
even_on true index length even = omega arith
even_on false index length even = omega (arith, even)

-- with one more instruction all lead where they have to
pub one_aimed : (heads : List Head) (immediates targets : List ℕ) (new : ℕ) → ((k : ℕ) → k < length targets → IsAimed heads (slice_index immediates k) (slice_index targets k) k)
    → IsAimed heads (slice_index immediates (length targets)) new (length targets) → (k : ℕ) → k < length (targets ++ new ∷ []) → IsAimed heads (slice_index immediates k) (slice_index (targets ++ new ∷ []) k) k
one_aimed heads immediates targets new each last k inside = elim (cases_lt k (length targets)) [
  | inl old ↦ subst (λ (t : ℕ). IsAimed heads (slice_index immediates k) t k) (sym (get_or_append_left targets (new ∷ []) 0 k old)) (each k old)
  | inr past ↦ (
      let at : length targets ≡ k = omega (arith, past, inside, length-append targets (new ∷ [])) in
      subst (λ (n : ℕ). IsAimed heads (slice_index immediates n) (slice_index (targets ++ new ∷ []) n) n) at
      (subst (λ (t : ℕ). IsAimed heads (slice_index immediates (length targets)) t (length targets)) (sym (get_or-append_seam targets new [] 0)) last))
]
