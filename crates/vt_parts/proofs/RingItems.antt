-- The items that a ring holds, as a list: a push adds one at its end, and a pop takes the first away.
use Rattle.std.proofs.Common.{◌≡◌, ℕ, ◌+◌, ◌-◌, ◌<◌, ◌≤◌, ◌∙◌, true, false, List, [], ◌∷◌, ◌++◌, length, take, drop, set, slice_get, slice_set, get_or, if◌then◌else◌, Some, None, refl, sym, ap, inl, inr, arith, length-append, length-drop, length-set, length-take-le, get_or-drop, get_or-take, append-nil}
use Rattle.std.proofs.lemmas.Bool.{eqb-true, eqb-false, leb-false}
use Rattle.std.proofs.lemmas.List.{same_lists, get_or_append_left, get_or-append_right}
use Rattle.std.proofs.lemmas.Option.{slice_get-get_or}
use Rattle.std.proofs.lemmas.Grind.{common_steps}
use Rattle.vt_parts.specs.declared.ring.Ring.{Ring}
use Rattle.vt_parts.specs.inside.Ring.{IsRing, round, held, is_empty, is_full, pushed, first, popped}
use Rattle.vt_parts.specs.inside.RingLaws.{round_is, round_below, some_within}

-- the n items from slot k on, round the end
abbrev pub window : {T : Type 0} → ℕ → ℕ → List T → List T
window k n xs = take n (drop k xs ++ take k xs)

module _ {T : Type 0} (N k n : ℕ) (xs : List T) (start_in_range : k < N) (len_fits : n ≤ N) (length_xs : length xs ≡ N) where
  -- the window has n items
  pub length-window : length (window k n xs) ≡ n
  length-window = length-take-le n _ (simp (length-append, length-drop) (omega (arith, length-take-le k xs (omega arith))))

  -- item i of the window stands i slots on
  pub get_or-window : (i : ℕ) (d : T) → i < n → get_or (window k n xs) i d ≡ get_or xs (round N k i) d
  get_or-window i d in_range =
      let length_tail = length-drop k xs in
      get_or-take n _ i d in_range ∙ elim (round_is N k i) [
        | inl before ↦ get_or_append_left _ _ d i (omega arith) ∙ get_or-drop k xs i d ∙ ap (λ j. get_or xs j d) (omega arith)
        | inr past ↦ get_or-append_right _ _ (N - k) i d (omega arith) (omega arith) ∙ get_or-take k xs _ d (omega arith) ∙ ap (λ j. get_or xs j d) (omega arith)
      ]

-- one slot on and then i more
round_next : (n head i : ℕ) → head < n → 1 + i < n → round n (round n head 1) i ≡ round n head (1 + i)
round_next n head i known few = elim (round_is n head 1) [
  | inl before ↦ elim (round_is n (round n head 1) i) [
    | inl low ↦ elim (round_is n head (1 + i)) [ inl a ↦ omega arith | inr b ↦ omega arith ]
    | inr high ↦ elim (round_is n head (1 + i)) [ inl a ↦ omega arith | inr b ↦ omega arith ]
  ]
  | inr past ↦ elim (round_is n (round n head 1) i) [
    | inl low ↦ elim (round_is n head (1 + i)) [ inl a ↦ omega arith | inr b ↦ omega arith ]
    | inr high ↦ elim (round_is n head (1 + i)) [ inl a ↦ omega arith | inr b ↦ omega arith ]
  ]
]

module _ {T : Type 0} (N k n : ℕ) (xs : List T) (start_in_range : k < N) (len_fits : n ≤ N) (length_xs : length xs ≡ N) where
  -- an item written behind the last one stands at the end
  pub window-pushed : (x : T) → n < N → window k (n + 1) (set xs (round N k n) x) ≡ window k n xs ++ x ∷ []
  window-pushed x has_room =
      let ys = set xs (round N k n) x in
      let length_ys = length-set xs (round N k n) x ∙ length_xs in
      let length_old = length-window N k n xs start_in_range len_fits length_xs in
      let length_new = length-window N k (n + 1) ys start_in_range (omega arith) length_ys in
      let written_slot = round_is N k n in
      same_lists _ _ (grind (arith, common_steps)) (λ i d in_range. grind (
        arith,
        common_steps,
        round_is N k i,
        get_or-window N k n xs start_in_range len_fits length_xs i d,
        get_or-window N k (n + 1) ys start_in_range (omega arith) length_ys i d,
      ))

  -- without the first item the window begins a slot later
  pub window-popped : 0 < n → window (round N k 1) (n - 1) xs ≡ drop 1 (window k n xs)
  window-popped nonempty =
      let next_in_range = round_below N k 1 start_in_range (omega arith) in
      let length_old = length-window N k n xs start_in_range len_fits length_xs in
      let length_new = length-window N (round N k 1) (n - 1) xs next_in_range (omega arith) length_xs in
      same_lists _ _ (omega (arith, length-drop 1 (window k n xs))) (λ i d in_range.
      get_or-window N (round N k 1) (n - 1) xs next_in_range (omega arith) length_xs i d (omega arith)
      ∙ ap (λ j. get_or xs j d) (round_next N k i start_in_range (omega arith))
      ∙ sym (get_or-window N k n xs start_in_range len_fits length_xs (1 + i) d (omega arith))
      ∙ sym (get_or-drop 1 (window k n xs) i d))

-- no slot on
round_here : (n head : ℕ) → head < n → round n head 0 ≡ head
round_here n head known = elim (round_is n head 0) [ inl before ↦ omega arith | inr past ↦ omega arith ]

module _ {T : Type 0} {N : ℕ} (r : Ring T N) (is : IsRing r) where
  -- a ring holds as many items as it counts
  pub length_held : length (held r) ≡ r.len
  length_held = length-window N r.head r.len r.items is.head is.len is.slots

  -- a push adds its item at the end, if there is room
  pub held_pushed : (item : T) → held (pushed r item) ≡ held r ++ (if is_full r then [] else item ∷ [])
  held_pushed item =
      let with_item : Ring T N = record r { items = slice_set r.items (round N r.head r.len) item; len = r.len + 1 } in
      elim (is_full r) as (λ b. is_full r ≡ b → held (if b then r else with_item) ≡ held r ++ (if b then [] else item ∷ [])) [
        | true ↦ λ e. sym (append-nil (held r))
        | false ↦ λ e. window-pushed N r.head r.len r.items is.head is.len is.slots item (leb-false N r.len e)
      ] refl

  -- the first item is the first of the list
  pub first_held : first r ≡ slice_get (held r) 0
  first_held =
      let in_range : r.head < length r.items = omega (arith, is.head, is.slots) in
      let d = (some_within r.items r.head in_range).0 in
      elim (is_empty r) as (λ b. is_empty r ≡ b → (if b then None else slice_get r.items r.head) ≡ slice_get (held r) 0) [
        | true ↦ λ e. ap (λ n. slice_get (window r.head n r.items) 0) (sym (eqb-true r.len 0 e))
        | false ↦ λ e.
            let some : 0 < r.len = omega (arith, eqb-false r.len 0 e) in
            slice_get-get_or r.items r.head d in_range
            ∙ ap (λ k. Some (get_or r.items k d)) (sym (round_here N r.head is.head))
            ∙ ap Some (sym (get_or-window N r.head r.len r.items is.head is.len is.slots 0 d some))
            ∙ sym (slice_get-get_or (held r) 0 d (omega (arith, length_held)))
      ] refl

  -- a pop takes the first item away
  pub held_popped : held (popped r) ≡ drop 1 (held r)
  held_popped =
      let after : Ring T N = record r { head = round N r.head 1; len = r.len - 1 } in
      elim (is_empty r) as (λ b. is_empty r ≡ b → held (if b then r else after) ≡ drop 1 (held r)) [
        | true ↦ λ e. ap (λ n. window r.head n r.items) (eqb-true r.len 0 e) ∙ sym (ap (λ n. drop 1 (window r.head n r.items)) (eqb-true r.len 0 e))
        | false ↦ λ e. window-popped N r.head r.len r.items is.head is.len is.slots (omega (arith, eqb-false r.len 0 e))
      ] refl
