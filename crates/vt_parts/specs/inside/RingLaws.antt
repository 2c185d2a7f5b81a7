-- The laws of a ring: its calls keep it a ring, and two of them undo the two others.
use Rattle.std.proofs.Common.{◌≡◌, ℕ, ◌+◌, ◌-◌, ◌<◌, ◌≤◌, ◌⊎◌, ◌∙◌, true, false, List, [], ◌∷◌, zero, suc, length, slice_get, slice_set, get_or, nat_lt, if◌then◌else◌, Some, None, is_none, inl, inr, refl, ap, arith}
use Rattle.std.proofs.lemmas.Bool.{eqb-false, ltb-true, ltb-false, leb-false, lt-leb}
use Rattle.std.proofs.lemmas.List.{set-set, set-get_or, length-set, length-replicate}
use Rattle.std.proofs.lemmas.Option.{slice_get-get_or}
use Rattle.vt_parts.specs.declared.ring.Ring.{Ring}
use Rattle.vt_parts.specs.inside.Ring.{IsRing, round, is_empty, is_full, empty_ring, pushed, push_answer, unpushed, first, popped, with_front, unpopped}

-- an index is before the end, or it is counted from the beginning
pub round_is : (n head behind : ℕ) → ((behind < n - head) × (round n head behind ≡ head + behind)) ⊎ ((n - head ≤ behind) × (round n head behind ≡ behind - (n - head)))
round_is n head behind =
    elim (nat_lt behind (n - head)) as (λ b. nat_lt behind (n - head) ≡ b →
    ((behind < n - head) × ((if b then head + behind else behind - (n - head)) ≡ head + behind)) ⊎ ((n - head ≤ behind) × ((if b then head + behind else behind - (n - head)) ≡ behind - (n - head)))) [
      | true ↦ λ e. inl (ltb-true behind (n - head) e, refl)
      | false ↦ λ e. inr (ltb-false behind (n - head) e, refl)
    ] refl

-- an index is one of n
pub round_below : (n head behind : ℕ) → head < n → behind ≤ n → round n head behind < n
round_below n head behind known few = elim (round_is n head behind) [ inl before ↦ omega arith | inr past ↦ omega arith ]

-- one slot on and then all but one is all round
round_back : (n head : ℕ) → head < n → round n (round n head 1) (n - 1) ≡ head
round_back n head known =
    elim (round_is n head 1) [
      | inl before ↦ elim (round_is n (round n head 1) (n - 1)) [ inl low ↦ omega arith | inr high ↦ omega arith ]
      | inr past ↦ elim (round_is n (round n head 1) (n - 1)) [ inl low ↦ omega arith | inr high ↦ omega arith ]
    ]

-- what is within a list is there
pub some_within : {T : Type 0} (xs : List T) (i : ℕ) → i < length xs → (x : T) × (slice_get xs i ≡ Some x)
some_within [] i within = absurd (omega arith)
some_within (x ∷ xs) zero within = (x, refl)
some_within (x ∷ xs) (suc i) within = some_within xs i (omega arith)

module _ {T : Type 0} {N : ℕ} where
  -- an empty ring is a ring
  pub empty_is : (blank : T) → 0 < N → IsRing {N = N} (empty_ring blank)
  empty_is blank some = record { slots = length-replicate N blank; head = some; len = omega arith }

  -- a push leaves a ring
  pub pushed_is : (r : Ring T N) (item : T) → IsRing r → IsRing (pushed r item)
  pushed_is r item is =
      elim (is_full r) as (λ b. is_full r ≡ b → IsRing (if b then r else record r { items = slice_set r.items (round N r.head r.len) item; len = r.len + 1 })) [
        | true ↦ λ e. is
        | false ↦ λ e. record { slots = length-set r.items (round N r.head r.len) item ∙ is.slots; head = is.head; len = omega (arith, leb-false N r.len e) }
      ] refl

  -- a pop leaves a ring
  pub popped_is : (r : Ring T N) → IsRing r → IsRing (popped r)
  popped_is r is =
      elim (is_empty r) as (λ b. IsRing (if b then r else record r { head = round N r.head 1; len = r.len - 1 })) [
        | true ↦ is
        | false ↦ record { slots = is.slots; head = round_below N r.head 1 is.head (omega (arith, is.head)); len = omega (arith, is.len) }
      ]

  -- `unpush` of what `push` answered undoes it
  pub unpushed_pushed : (r : Ring T N) (item : T) → IsRing r → unpushed (pushed r item) (push_answer r) ≡ r
  unpushed_pushed r item is =
      let at = round N r.head r.len in
      let with_item : Ring T N = record r { items = slice_set r.items at item; len = r.len + 1 } in
      let in_range : at < length r.items = omega (arith, is.slots, round_below N r.head r.len is.head is.len) in
      let len : r.len + 1 - 1 ≡ r.len = omega arith in
      let items : slice_set (slice_set r.items at item) (round N r.head (r.len + 1 - 1)) (get_or r.items at item) ≡ r.items =
      ap (λ (n : ℕ). slice_set (slice_set r.items at item) (round N r.head n) (get_or r.items at item)) len
      ∙ set-set r.items at item (get_or r.items at item)
      ∙ set-get_or r.items at item in
      elim (is_full r) as (λ b. unpushed (if b then r else with_item) (if b then None else slice_get r.items at) ≡ r) [
        | true ↦ refl
        | false ↦ ap (unpushed with_item) (slice_get-get_or r.items at item in_range) ∙ (λ j. record r { items = items j; len = len j })
      ]

  -- a push is refused just where the ring is full
  pub push_refused : (r : Ring T N) → IsRing r → is_none (push_answer r) ≡ is_full r
  push_refused r is =
      let at = round N r.head r.len in
      let in_range : at < length r.items = omega (arith, is.slots, round_below N r.head r.len is.head is.len) in
      elim (is_full r) as (λ b. is_none (if b then None else slice_get r.items at) ≡ b) [ true ↦ refl | false ↦ ap is_none (some_within r.items at in_range).1 ]

  -- a pop gives nothing just where the ring is empty
  pub pop_refused : (r : Ring T N) → IsRing r → is_none (first r) ≡ is_empty r
  pop_refused r is =
      elim (is_empty r) as (λ b. is_none (if b then None else slice_get r.items r.head) ≡ b) [ true ↦ refl | false ↦ ap is_none (some_within r.items r.head (omega (arith, is.head, is.slots))).1 ]

  -- the slot before the first one again
  with_front-popped : (r : Ring T N) → IsRing r → 0 < r.len → with_front (record r { head = round N r.head 1; len = r.len - 1 }) ≡ r
  with_front-popped r is some =
      let after : Ring T N = record r { head = round N r.head 1; len = r.len - 1 } in
      let room : is_full after ≡ false = lt-leb N (r.len - 1) (omega (arith, is.len)) in
      let head : round N (round N r.head 1) (N - 1) ≡ r.head = round_back N r.head is.head in
      let len : r.len - 1 + 1 ≡ r.len = omega arith in
      (λ j. if room j then after else record after { head = round N after.head (N - 1); len = after.len + 1 }) ∙ (λ j. record r { head = head j; len = len j })

  -- `unpop` of what `pop` answered undoes it
  pub unpopped_popped : (r : Ring T N) → IsRing r → unpopped (popped r) (first r) ≡ r
  unpopped_popped r is =
      let after : Ring T N = record r { head = round N r.head 1; len = r.len - 1 } in
      elim (is_empty r) as (λ b. is_empty r ≡ b → unpopped (if b then r else after) (if b then None else slice_get r.items r.head) ≡ r) [
        | true ↦ λ e. refl
        | false ↦ λ e. ap (unpopped after) (some_within r.items r.head (omega (arith, is.head, is.slots))).1 ∙ with_front-popped r is (omega (arith, eqb-false r.len 0 e))
      ] refl
