-- Letters that are taken out of a calendar: the first one, and that of a rank.
use Rattle.std.proofs.Common.{◌≡◌, ℕ, zero, suc, ◌≤◌, inl, inr, Bool, true, false, ◌||◌, cond, List, [], ◌∷◌, ◌++◌, find, slice_get, slice_set, Option, Some, None, MatchOption, refl, sym, subst, ap, ◌∙◌, arith}
use Rattle.std.specs.List.{list_any}
use Rattle.std.specs.List.Sorted.{IsPermutation}
use Rattle.std.proofs.lemmas.List.Folds.{list_any-append}
use Rattle.std.proofs.lemmas.List.Sorted.{IsPermutation-refl, IsPermutation-append_left, list_any-IsPermutation}
use Rattle.vt_key.specs.promise.Times.{Time, TimeBefore, TimeAtMost}
use Rattle.vt_key.specs.promise.Lists.{Among, IsRisingBy}
use Rattle.vt_key.specs.promise.Queues.{letter_rank, has_rank, without_first}
use Rattle.vt_key.specs.declared.order.Rank.{Rank}
use Rattle.vt_key.specs.declared.letter.Letter.{Letter}
use Rattle.vt_key.proofs.ListLemmas.{every-without_first, find-passes, among-append}
use Rattle.vt_key.proofs.OrderLemmas.{same-rank_same}
use Rattle.vt_calendar.specs.inside.Digits.{slot_of}
use Rattle.vt_calendar.specs.inside.Slots.{items_in, IsChanged}
use Rattle.vt_calendar.specs.inside.Kept.{time_of, in_order, letters_kept, count_rank, leads, AreOrdered, ArePlaced, AreSpread, IsKept, IsReady}
use Rattle.vt_calendar.proofs.SlotLemmas.{set-found, items-less, items-among}
use Rattle.vt_calendar.proofs.ApartLemmas.{permuted-order, one-out, none-out, absent, found-out, not-found, none-passes}
use Rattle.vt_calendar.proofs.KeptLemmas.{lacking, slots-late, kept-spread, none-late, taken-late, taken-present}

-- ---- the first that passes a test

module _ {X : Type 0} where
  -- what is left stands in the list
  without-among : (test : X → Bool) (xs : List X) (x : X) → Among x (without_first test xs) → Among x xs
  without-among test [] x m = absurd m
  without-among test (y ∷ ys) x m = elim (test y) as (λ b. Among x (cond b ys (y ∷ without_first test ys)) → Among x (y ∷ ys)) [
    | true ↦ λ n. inr n
    | false ↦ λ n. elim n [ inl own ↦ inl own | inr k ↦ inr (without-among test ys x k) ]
  ] m

  rising-without : (Before : X → X → Type 0) (test : X → Bool) (xs : List X) → IsRisingBy Before xs → IsRisingBy Before (without_first test xs)
  rising-without Before test [] rises = tt
  rising-without Before test (x ∷ xs) rises = elim (test x) as (λ b. IsRisingBy Before (cond b xs (x ∷ without_first test xs))) [
    | true ↦ rises.1
    | false ↦ (every-without_first (Before x) test xs rises.0, rising-without Before test xs rises.1)
  ]

  -- a list that stays what it was
  set-same : (lists : List X) (i : ℕ) (l : X) → slice_get lists i ≡ Some l → slice_set lists i l ≡ lists
  set-same [] i l h = refl
  set-same (k ∷ lists) zero l h = let same : k ≡ l = (let z : Some k ≡ Some l = h in cc) in ap (λ m. m ∷ lists) (sym same)
  set-same (k ∷ lists) (suc i) l h = ap (λ ls. k ∷ ls) (set-same lists i l h)

module _ {P : Type 0} where
  -- ---- the first letter

  pub ready-open : (time start : Time) (present late spread : List (Letter P)) (slots new : List (List (Letter P))) → IsKept time present late slots → present ≡ [] → leads late present ≡ false
      → AreSpread start [] spread slots new → ArePlaced start new → (spread ≡ [] → items_in new ≡ []) → IsReady start spread late new (in_order (letters_kept present late slots))
  ready-open time start present late spread slots new kept none first spreads placed last =
      let no_late : late ≡ [] = none-late late (subst (λ (l : List (Letter P)). leads late l ≡ false) none first) in
      let all : letters_kept present late slots ≡ items_in slots = λ i. none i ++ (no_late i ++ items_in slots) in
      let same : IsPermutation (letters_kept present late slots) (spread ++ items_in new) = subst (λ (l : List (Letter P)). IsPermutation l (spread ++ items_in new)) (sym all) spreads.same in
      let both = kept-spread time start present late spread spread slots new new kept same placed (record {
        same = IsPermutation-refl (spread ++ items_in new);
        ordered = spreads.ordered;
        reached = spreads.reached;
        placed = λ h. h;
      }) in
      record {
        kept = subst (λ (l : List (Letter P)). IsKept start spread l new) (sym no_late) both.0;
        same = ap (λ (l : List (Letter P)). in_order (letters_kept spread l new)) no_late ∙ both.1;
        not_late = ap (λ (l : List (Letter P)). leads l spread) no_late;
        last = last;
      }

  -- what a calendar without letters has
  ready-none : (time : Time) (late : List (Letter P)) (slots : List (List (Letter P))) (letters : List (Letter P)) → IsReady time [] late slots letters → letters ≡ []
  ready-none time late slots letters ready =
      sym ready.same ∙ ap (λ (l : List (Letter P)). in_order (l ++ items_in slots)) (none-late late ready.not_late) ∙ ap in_order (ready.last refl)

  pub ready-taken : (time : Time) (present late left : List (Letter P)) (slots : List (List (Letter P))) (letters : List (Letter P)) (o : Option (Letter P))
      → MatchOption o ((present ≡ []) × (left ≡ [])) (λ x. present ≡ x ∷ left) → IsReady time present late slots letters
      → IsKept time left late slots × MatchOption o ((letters ≡ []) × (in_order (letters_kept left late slots) ≡ [])) (λ x. letters ≡ x ∷ in_order (letters_kept left late slots))
  ready-taken time present late left slots letters None taken ready =
      let none : letters ≡ [] = ready-none time late slots letters (subst (λ (l : List (Letter P)). IsReady time l late slots letters) taken.0 ready) in
      let same : present ≡ left = taken.0 ∙ sym taken.1 in
      (subst (λ (l : List (Letter P)). IsKept time l late slots) same ready.kept, (none, ap (λ (l : List (Letter P)). in_order (letters_kept l late slots)) (sym same) ∙ ready.same ∙ none))
  ready-taken time present late left slots letters (Some x) taken ready =
      let both = taken-present time left late x slots (subst (λ (l : List (Letter P)). IsKept time l late slots) taken ready.kept) (subst (λ (l : List (Letter P)). leads late l ≡ false) taken ready.not_late) in
      (both.0, sym ready.same ∙ ap (λ (l : List (Letter P)). in_order (letters_kept l late slots)) taken ∙ both.1)

  pub late-taken : (time : Time) (present late left : List (Letter P)) (slots : List (List (Letter P))) (o : Option (Letter P))
      → MatchOption o ((late ≡ []) × (left ≡ [])) (λ x. late ≡ x ∷ left) → IsKept time present late slots → leads late present ≡ true
      → IsKept time present left slots
      × MatchOption o ((in_order (letters_kept present late slots) ≡ []) × (in_order (letters_kept present left slots) ≡ [])) (λ x. in_order (letters_kept present late slots) ≡ x ∷ in_order (letters_kept present left slots))
  late-taken time present late left slots None taken kept first =
      absurd (let never : false ≡ true = sym (ap (λ (l : List (Letter P)). leads l present) taken.0) ∙ first in cc)
  late-taken time present late left slots (Some x) taken kept first =
      let both = taken-late time present left x slots (subst (λ (l : List (Letter P)). IsKept time present l slots) taken kept) (subst (λ (l : List (Letter P)). leads l present ≡ true) taken first) in
      (both.0, ap (λ (l : List (Letter P)). in_order (letters_kept present l slots)) taken ∙ both.1)

  -- the first letter of all is that of the present time, or the late one that leads
  pub ready-first : (time : Time) (present late : List (Letter P)) (slots : List (List (Letter P))) (letters : List (Letter P)) → IsReady time present late slots letters → slice_get present 0 ≡ slice_get letters 0
  ready-first time [] late slots letters ready = ap (λ (l : List (Letter P)). slice_get l 0) (sym (ready-none time late slots letters ready))
  ready-first time (x ∷ present) late slots letters ready = ap (λ (l : List (Letter P)). slice_get l 0) (sym (taken-present time present late x slots ready.kept ready.not_late).1 ∙ ready.same)

  pub late-first : (time : Time) (present late : List (Letter P)) (slots : List (List (Letter P))) → IsKept time present late slots → leads late present ≡ true → slice_get late 0 ≡ slice_get (in_order (letters_kept present late slots)) 0
  late-first time present [] slots kept first = absurd (let never : false ≡ true = first in cc)
  late-first time present (x ∷ late) slots kept first = ap (λ (l : List (Letter P)). slice_get l 0) (sym (taken-late time present late x slots kept first).1)

  -- ---- the letter of a rank

  -- these letters are held once the one of a rank was taken out of others, if it was there
  pub record IsWithout (rank : Rank) (found : Option (Letter P)) (time : Time) (present late : List (Letter P)) (slots : List (List (Letter P))) (letters : List (Letter P)) : Type 0 where
    pub kept : IsKept time present late slots
    pub item : found ≡ find (has_rank rank) letters
    pub others : in_order (letters_kept present late slots) ≡ without_first (has_rank rank) letters

  module _ (rank : Rank) (time : Time) (present late : List (Letter P)) (slots : List (List (Letter P))) (kept : IsKept time present late slots) where
    abbrev test : Letter P → Bool
    test = has_rank rank

    abbrev all : List (Letter P)
    all = letters_kept present late slots

    -- what has the rank has its time
    its-time : (y : Letter P) → letter_rank y ≡ rank → time_of y ≡ rank.key.time
    its-time y is = ap (λ (r : Rank). r.key.time) is

    has-own : (y : Letter P) → letter_rank y ≡ rank → test y ≡ true
    has-own y is = subst (λ (r : Rank). has_rank r y ≡ true) is (same-rank_same (letter_rank y))

    one-less : (x : Letter P) (part less : List (Letter P)) → find test part ≡ Some x → less ≡ without_first test part → IsPermutation part (x ∷ less)
    one-less x part less found is = subst (λ (l : List (Letter P)). IsPermutation part (x ∷ l)) (sym is) (found-out test x part found)

    pub out-of_late : (x : Letter P) (left : List (Letter P)) → Some x ≡ find test late → left ≡ without_first test late → IsWithout rank (Some x) time present left slots (in_order all)
    out-of_late x left found is =
        let less : IsPermutation all (x ∷ letters_kept present left slots) = lacking present (late ++ items_in slots) (left ++ items_in slots) x (IsPermutation-append_left (items_in slots) late (x ∷ left) (one-less x late left (sym found) is)) in
        let out = one-out rank x all (letters_kept present left slots) kept.apart less (find-passes test late x (sym found)) in
        record {
          kept = record {
            apart = out.0;
            present_ordered = kept.present_ordered;
            late_ordered = subst AreOrdered (sym is) (rising-without _ test late kept.late_ordered);
            present_reached = kept.present_reached;
            late_reached = λ y m. kept.late_reached y (without-among test late y (subst (Among y) is m));
            placed = kept.placed;
          };
          item = out.1;
          others = out.2;
        }

    -- where it is nowhere
    out-of_none : (count_rank rank all ≡ 0) → IsWithout rank None time present late slots (in_order all)
    out-of_none absent =
        let out = none-out rank all absent in
        record { kept = kept; item = out.0; others = out.1 }

    pub out-of_present : (o : Option (Letter P)) (left same_late : List (Letter P)) → TimeAtMost rank.key.time time → None ≡ find test late → same_late ≡ without_first test late
        → o ≡ find test present → left ≡ without_first test present → IsWithout rank o time left same_late slots (in_order all)
    out-of_present None left same_late reached none stays found is =
        let same : left ≡ present = is ∙ not-found test present (sym found) in
        let same_too : same_late ≡ late = stays ∙ not-found test late (sym none) in
        let nowhere : count_rank rank all ≡ 0 = absent rank all (λ y m own. elim (among-append y present (late ++ items_in slots) m) [
          | inl p ↦ none-passes test present (sym found) y p (has-own y own)
          | inr rest ↦ elim (among-append y late (items_in slots) rest) [
            | inl l ↦ none-passes test late (sym none) y l (has-own y own)
            | inr s ↦
                let after : TimeBefore time (time_of y) = slots-late time slots kept.placed y s in
                let at : time_of y ≡ rank.key.time = its-time y own in
                omega (arith, after, at, reached)
          ]
        ]) in
        subst (λ (l : List (Letter P)). IsWithout rank None time left l slots (in_order all)) (sym same_too)
        (subst (λ (l : List (Letter P)). IsWithout rank None time l late slots (in_order all)) (sym same) (out-of_none nowhere))
    out-of_present (Some x) left same_late reached none stays found is =
        let same_too : same_late ≡ late = stays ∙ not-found test late (sym none) in
        let less : IsPermutation all (x ∷ letters_kept left late slots) = IsPermutation-append_left (late ++ items_in slots) present (x ∷ left) (one-less x present left (sym found) is) in
        let out = one-out rank x all (letters_kept left late slots) kept.apart less (find-passes test present x (sym found)) in
        subst (λ (l : List (Letter P)). IsWithout rank (Some x) time left l slots (in_order all)) (sym same_too) (record {
          kept = record {
            apart = out.0;
            present_ordered = subst AreOrdered (sym is) (rising-without _ test present kept.present_ordered);
            late_ordered = kept.late_ordered;
            present_reached = λ y m. kept.present_reached y (without-among test present y (subst (Among y) is m));
            late_reached = kept.late_reached;
            placed = kept.placed;
          };
          item = out.1;
          others = out.2;
        })

    pub out-of_slot : (o : Option (Letter P)) (list : List (Letter P)) (new : List (List (Letter P))) → TimeBefore time rank.key.time → IsChanged (slot_of time rank.key.time) list (without_first test list) slots new
        → o ≡ find test list → IsWithout rank o time present late new (in_order all)
    out-of_slot None list new later changed found =
        let slot : ℕ = slot_of time rank.key.time in
        let same : new ≡ slots = changed.is ∙ ap (slice_set slots slot) (not-found test list (sym found)) ∙ set-same slots slot list changed.there in
        let nowhere : count_rank rank all ≡ 0 = absent rank all (λ y m own.
        let at : time_of y ≡ rank.key.time = its-time y own in
        elim (among-append y present (late ++ items_in slots) m) [
          | inl p ↦ let reached : time_of y ≤ time = kept.present_reached y p in omega (arith, at, reached, later)
          | inr rest ↦ elim (among-append y late (items_in slots) rest) [
            | inl l ↦ let reached : time_of y ≤ time = kept.late_reached y l in omega (arith, at, reached, later)
            | inr s ↦
                let r = items-among y slots s in
                let here : r.0 ≡ slot = sym (kept.placed r.0 r.1 y r.2 r.3).1 ∙ ap (slot_of time) at in
                let is : r.1 ≡ list = (let z : Some r.1 ≡ Some list = sym r.2 ∙ ap (slice_get slots) here ∙ changed.there in cc) in
                none-passes test list (sym found) y (subst (Among y) is r.3) (has-own y own)
          ]
        ]) in
        subst (λ (lists : List (List (Letter P))). IsWithout rank None time present late lists (in_order all)) (sym same) (out-of_none nowhere)
    out-of_slot (Some x) list new later changed found =
        let slot : ℕ = slot_of time rank.key.time in
        let rest : List (Letter P) = without_first test list in
        let one : IsPermutation (items_in slots) (x ∷ items_in new) = subst (λ (lists : List (List (Letter P))). IsPermutation (items_in slots) (x ∷ items_in lists)) (sym changed.is)
        (items-less slots slot list x rest changed.there (found-out test x list (sym found))) in
        let less : IsPermutation all (x ∷ letters_kept present late new) = lacking present (late ++ items_in slots) (late ++ items_in new) x (lacking late (items_in slots) (items_in new) x one) in
        let out = one-out rank x all (letters_kept present late new) kept.apart less (find-passes test list x (sym found)) in
        record {
          kept = record {
            apart = out.0;
            present_ordered = kept.present_ordered;
            late_ordered = kept.late_ordered;
            present_reached = kept.present_reached;
            late_reached = kept.late_reached;
            placed = λ i l y at m. elim (set-found slots slot i rest l (subst (λ (lists : List (List (Letter P))). slice_get lists i ≡ Some l) changed.is at)) [
              | inl here ↦ let it = kept.placed slot list y changed.there (without-among test list y (subst (Among y) here.1 m)) in (it.0, it.1 ∙ sym here.0)
              | inr other ↦ kept.placed i l y other.1 m
            ];
          };
          item = out.1;
          others = out.2;
        }

  -- ---- a test of all letters

  pub any-kept : (test : Letter P → Bool) (present late : List (Letter P)) (slots : List (List (Letter P)))
      → (list_any test present || (list_any test late || list_any test (items_in slots))) ≡ list_any test (in_order (letters_kept present late slots))
  any-kept test present late slots =
      let all : List (Letter P) = letters_kept present late slots in
      ap (λ b. list_any test present || b) (sym (list_any-append test late (items_in slots))) ∙ sym (list_any-append test present (late ++ items_in slots)) ∙ list_any-IsPermutation test all (in_order all) (permuted-order all)

-- where one of the first two tests was passed, and where neither was
pub one-of-first : (p l s : Bool) → (p || l) ≡ true → (p || (l || s)) ≡ true
one-of-first true l s h = refl
one-of-first false true s h = refl
one-of-first false false s h = absurd (let never : false ≡ true = h in cc)

pub only-last : (p l s : Bool) → (p || l) ≡ false → s ≡ (p || (l || s))
only-last true l s h = absurd (let never : true ≡ false = h in cc)
only-last false true s h = absurd (let never : true ≡ false = h in cc)
only-last false false s h = refl
