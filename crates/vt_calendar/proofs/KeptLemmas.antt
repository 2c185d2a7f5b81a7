-- How a calendar keeps its letters, when one comes, when one is taken out, and when the present time becomes another.
use Rattle.std.proofs.Common.{◌≡◌, ℕ, ◌<◌, ◌≤◌, ◌⊎◌, inl, inr, Bool, true, false, List, [], ◌∷◌, ◌++◌, replicate, slice_get, Some, refl, sym, subst, ap, ◌∙◌, arith}
use Rattle.std.specs.Ordering.{nat_cmp, is_gt}
use Rattle.std.proofs.lemmas.Bool.Decides.{nat_tests}
use Rattle.std.specs.List.Sorted.{IsPermutation}
use Rattle.std.proofs.lemmas.Bool.{cases_order, cases_lt}
use Rattle.std.proofs.lemmas.List.{append_assoc}
use Rattle.std.proofs.lemmas.List.Sorted.{IsPermutation-refl, IsPermutation-sym, IsPermutation-trans, IsPermutation-append_left, IsPermutation-append_right, IsPermutation-middle}
use Rattle.vt_key.specs.promise.Times.{Time, TimeBefore, TimeAtMost, ticks_of, earlier}
use Rattle.vt_key.specs.inside.Order.{RankBefore}
use Rattle.vt_key.specs.promise.Lists.{Among}
use Rattle.vt_key.specs.promise.Queues.{letter_rank, insert_letter}
use Rattle.vt_key.specs.inside.Queues.{holds_rank}
use Rattle.vt_key.specs.declared.order.Rank.{Rank}
use Rattle.vt_key.specs.declared.letter.Letter.{Letter}
use Rattle.vt_key.proofs.ListLemmas.{get-among, every-among, among-left, among-append}
use Rattle.vt_key.proofs.OrderLemmas.{rank-irreflexive, rank-transitive, rank_before-true, before-rank_before}
use Rattle.vt_calendar.specs.inside.Digits.{slot_of, first_kept}
use Rattle.vt_calendar.specs.inside.Slots.{items_in, IsChanged, AreEmpty, AreMoved}
use Rattle.vt_calendar.specs.inside.Kept.{time_of, in_order, letters_kept, count_rank, would_lead, leads, earliest, AreOrdered, AreFrom, ArePlaced, AreSpread, IsKept}
use Rattle.vt_calendar.proofs.DigitLemmas.{slot-low, slot-opened, slot-kept}
use Rattle.vt_calendar.proofs.OrderLemmas.{not-before-trans, permuted-insert, ordered-insert}
use Rattle.vt_calendar.proofs.SlotLemmas.{set-found, items-put, items-taken, items-among, among-items, new-items}
use Rattle.vt_calendar.proofs.ApartLemmas.{among-permuted, pushed, least-first, reordered}

-- ---- permutations

-- one item more in a part is one more in the whole
behind : {X : Type 0} (front rest more : List X) (x : X) → IsPermutation (x ∷ rest) more → IsPermutation (x ∷ (front ++ rest)) (front ++ more)
behind front rest more x h =
    IsPermutation-trans (x ∷ (front ++ rest)) (front ++ x ∷ rest) (front ++ more) (IsPermutation-sym (front ++ x ∷ rest) (x ∷ (front ++ rest)) (IsPermutation-middle front x rest))
    (IsPermutation-append_right front (x ∷ rest) more h)

-- and one item less
pub lacking : {X : Type 0} (front rest less : List X) (x : X) → IsPermutation rest (x ∷ less) → IsPermutation (front ++ rest) (x ∷ (front ++ less))
lacking front rest less x h =
    IsPermutation-sym (x ∷ (front ++ less)) (front ++ rest) (behind front less rest x (IsPermutation-sym rest (x ∷ less) h))

-- the first of items to be moved goes to one of two other lists
pub moved-last : {X : Type 0} (all rest near far more : List X) (x : X) → IsPermutation all (x ∷ (rest ++ (near ++ far))) → IsPermutation (x ∷ far) more → IsPermutation all (rest ++ (near ++ more))
moved-last all rest near far more x same put = IsPermutation-trans all (x ∷ (rest ++ (near ++ far))) (rest ++ (near ++ more)) same (behind rest (near ++ far) (near ++ more) x (behind near far more x put))

pub moved-first : {X : Type 0} (all rest near far : List X) (x : X) → IsPermutation all (x ∷ (rest ++ (near ++ far))) → IsPermutation all (rest ++ (x ∷ near ++ far))
moved-first all rest near far x same = IsPermutation-trans all (x ∷ (rest ++ (near ++ far))) (rest ++ x ∷ (near ++ far)) same (IsPermutation-sym (rest ++ x ∷ (near ++ far)) (x ∷ (rest ++ (near ++ far))) (IsPermutation-middle rest x (near ++ far)))

-- ---- ranks and times

-- what a comparison of times tells
pub is-later : (a b : ℕ) (r : Bool) → r ≡ is_gt (nat_cmp a b) → r ≡ true → b < a
is-later a b r is so = grind (arith, nat_tests)

pub isnt-later : (a b : ℕ) (r : Bool) → r ≡ is_gt (nat_cmp a b) → r ≡ false → a ≤ b
isnt-later a b r is so = grind (arith, nat_tests)

rank-time : (a b : Rank) → RankBefore a b → a.key.time ≤ b.key.time
rank-time a b (inl (inl h)) = omega (arith, h)
rank-time a b (inl (inr h)) = let same : a.key.time ≡ b.key.time = h.0 in omega (arith, same)
rank-time a b (inr h) = let same : a.key.time ≡ b.key.time = ap (λ k. k.time) h.0 in omega (arith, same)

not-before : (a b : Rank) → RankBefore a b → RankBefore b a → ⊥
not-before a b h k = rank-irreflexive a (rank-transitive a b a h k)

module _ {P : Type 0} where
  -- what is after a time isn't before a letter that is at or before it
  not-earlier : (now : Time) (x y : Letter P) → TimeAtMost (time_of x) now → TimeBefore now (time_of y) → RankBefore (letter_rank y) (letter_rank x) → ⊥
  not-earlier now x y reached late before = let order : time_of y ≤ time_of x = rank-time (letter_rank y) (letter_rank x) before in omega (arith, order, reached, late)

  -- letters in order are not before their first one
  ordered-first : (x : Letter P) (xs : List (Letter P)) (y : Letter P) → AreOrdered (x ∷ xs) → Among y (x ∷ xs) → RankBefore (letter_rank y) (letter_rank x) → ⊥
  ordered-first x xs y ordered (inl at) before = rank-irreflexive (letter_rank x) (subst (λ (z : Letter P). RankBefore (letter_rank z) (letter_rank x)) at before)
  ordered-first x xs y ordered (inr m) before = every-among (λ z. RankBefore (letter_rank z) (letter_rank x) → ⊥) xs y ordered.0 m before

  -- the same of others that it isn't after
  ordered-others : (x : Letter P) (ys : List (Letter P)) (y : Letter P) → ((z : Letter P) (zs : List (Letter P)) → ys ≡ z ∷ zs → RankBefore (letter_rank z) (letter_rank x) → ⊥) → AreOrdered ys → Among y ys → RankBefore (letter_rank y) (letter_rank x) → ⊥
  ordered-others x [] y first ordered m before = absurd m
  ordered-others x (z ∷ zs) y first ordered m before = not-before-trans (letter_rank x) (letter_rank z) (letter_rank y) (first z zs refl) (ordered-first z zs y ordered m) before

  -- ---- slots

  pub slots-late : (now : Time) (slots : List (List (Letter P))) → ArePlaced now slots → (y : Letter P) → Among y (items_in slots) → TimeBefore now (time_of y)
  slots-late now slots placed y m = let r = items-among y slots m in (placed r.0 r.1 y r.2 r.3).0

  pub placed-put : (now : Time) (x : Letter P) (list : List (Letter P)) (old new : List (List (Letter P))) → ArePlaced now old → TimeBefore now (time_of x) → IsChanged (slot_of now (time_of x)) list (x ∷ list) old new → ArePlaced now new
  placed-put now x list old new placed late put i l y at m =
      elim (set-found old (slot_of now (time_of x)) i (x ∷ list) l (subst (λ (lists : List (List (Letter P))). slice_get lists i ≡ Some l) put.is at)) [
        | inl here ↦ elim (subst (Among y) here.1 m) [
          | inl own ↦ (subst (λ (z : Letter P). TimeBefore now (time_of z)) (sym own) late, ap (λ (z : Letter P). slot_of now (time_of z)) own ∙ sym here.0)
          | inr n ↦ let it = placed (slot_of now (time_of x)) list y put.there n in (it.0, it.1 ∙ sym here.0)
        ]
        | inr other ↦ placed i l y other.1 m
      ]

  pub items-more : (slot : ℕ) (x : Letter P) (list : List (Letter P)) (old new : List (List (Letter P))) → IsChanged slot list (x ∷ list) old new → IsPermutation (x ∷ items_in old) (items_in new)
  items-more slot x list old new put = subst (λ (lists : List (List (Letter P))). IsPermutation (x ∷ items_in old) (items_in lists)) (sym put.is) (items-put old slot list x put.there)

  -- ---- a calendar without letters

  pub kept-new : (n now : ℕ) (slots : List (List (Letter P))) → slots ≡ replicate n [] → IsKept now [] [] slots × (in_order (letters_kept [] [] slots) ≡ [])
  kept-new n now slots is =
      let none : items_in slots ≡ [] = ap items_in is ∙ new-items P_letter n in (
        record {
          apart = λ k. (let zero : count_rank k (items_in slots) ≡ 0 = ap (count_rank k) none in omega (arith, zero));
          present_ordered = tt;
          late_ordered = tt;
          present_reached = λ y m. absurd m;
          late_reached = λ y m. absurd m;
          placed = λ i l y at m. absurd (subst (Among y) none (among-items y slots i l at m));
        },
        ap in_order none,
      )
    where
      P_letter : Type 0
      P_letter = Letter P

  -- ---- a letter comes

  pub put-in_slot : (now : Time) (present late list : List (Letter P)) (x : Letter P) (old new : List (List (Letter P))) → IsKept now present late old → TimeBefore now (time_of x)
      → IsChanged (slot_of now (time_of x)) list (x ∷ list) old new → holds_rank (letter_rank x) (in_order (letters_kept present late old)) ≡ false
      → IsKept now present late new × (in_order (letters_kept present late new) ≡ insert_letter x (in_order (letters_kept present late old)))
  put-in_slot now present late list x old new kept after put new_rank =
      let more = behind present (late ++ items_in old) (late ++ items_in new) x (behind late (items_in old) (items_in new) x (items-more (slot_of now (time_of x)) x list old new put)) in
      let both = pushed x (letters_kept present late old) (letters_kept present late new) kept.apart more new_rank in (
        record {
          apart = both.0;
          present_ordered = kept.present_ordered;
          late_ordered = kept.late_ordered;
          present_reached = kept.present_reached;
          late_reached = kept.late_reached;
          placed = placed-put now x list old new kept.placed after put;
        },
        both.1,
      )

  pub put-late : (now : Time) (present late more : List (Letter P)) (x : Letter P) (slots : List (List (Letter P))) → IsKept now present late slots → TimeAtMost (time_of x) now
      → more ≡ insert_letter x late → holds_rank (letter_rank x) (in_order (letters_kept present late slots)) ≡ false
      → IsKept now present more slots × (in_order (letters_kept present more slots) ≡ insert_letter x (in_order (letters_kept present late slots)))
  put-late now present late more x slots kept reached is new_rank =
      let one : IsPermutation (x ∷ late) more = subst (IsPermutation (x ∷ late)) (sym is) (permuted-insert x late) in
      let all = behind present (late ++ items_in slots) (more ++ items_in slots) x (IsPermutation-append_left (items_in slots) (x ∷ late) more one) in
      let both = pushed x (letters_kept present late slots) (letters_kept present more slots) kept.apart all new_rank in (
        record {
          apart = both.0;
          present_ordered = kept.present_ordered;
          late_ordered = subst AreOrdered (sym is) (ordered-insert x late kept.late_ordered);
          present_reached = kept.present_reached;
          late_reached = λ y m. elim (among-permuted more (x ∷ late) (IsPermutation-sym (x ∷ late) more one) y m) [
            | inl own ↦ subst (λ (z : Letter P). TimeAtMost (time_of z) now) (sym own) reached
            | inr n ↦ kept.late_reached y n
          ];
          placed = kept.placed;
        },
        both.1,
      )

  -- ---- the first letter is taken out

  pub taken-late : (now : Time) (present late : List (Letter P)) (x : Letter P) (slots : List (List (Letter P))) → IsKept now present (x ∷ late) slots → leads (x ∷ late) present ≡ true
      → IsKept now present late slots × (in_order (letters_kept present (x ∷ late) slots) ≡ x ∷ in_order (letters_kept present late slots))
  taken-late now present late x slots kept first =
      let less : IsPermutation (letters_kept present (x ∷ late) slots) (x ∷ letters_kept present late slots) = lacking present (x ∷ (late ++ items_in slots)) (late ++ items_in slots) x (IsPermutation-refl (x ∷ (late ++ items_in slots))) in
      let least : (y : Letter P) → Among y (letters_kept present late slots) → RankBefore (letter_rank y) (letter_rank x) → ⊥ = λ y m. elim (among-append y present (late ++ items_in slots) m) [
        | inl p ↦ ordered-others x present y (λ z zs is before. not-before (letter_rank x) (letter_rank z) (rank_before-true (letter_rank x) (letter_rank z) (subst (λ (l : List (Letter P)). would_lead x l ≡ true) is first)) before) kept.present_ordered p
        | inr rest ↦ elim (among-append y late (items_in slots) rest) [
          | inl l ↦ ordered-first x late y kept.late_ordered (inr l)
          | inr s ↦ not-earlier now x y (kept.late_reached x (inl refl)) (slots-late now slots kept.placed y s)
        ]
      ] in
      let both = least-first x (letters_kept present (x ∷ late) slots) (letters_kept present late slots) kept.apart less least in (
        record {
          apart = both.0;
          present_ordered = kept.present_ordered;
          late_ordered = kept.late_ordered.1;
          present_reached = kept.present_reached;
          late_reached = λ y m. kept.late_reached y (inr m);
          placed = kept.placed;
        },
        both.1,
      )

  pub taken-present : (now : Time) (present late : List (Letter P)) (x : Letter P) (slots : List (List (Letter P))) → IsKept now (x ∷ present) late slots → leads late (x ∷ present) ≡ false
      → IsKept now present late slots × (in_order (letters_kept (x ∷ present) late slots) ≡ x ∷ in_order (letters_kept present late slots))
  taken-present now present late x slots kept first =
      let least : (y : Letter P) → Among y (letters_kept present late slots) → RankBefore (letter_rank y) (letter_rank x) → ⊥ = λ y m. elim (among-append y present (late ++ items_in slots) m) [
        | inl p ↦ ordered-first x present y kept.present_ordered (inr p)
        | inr rest ↦ elim (among-append y late (items_in slots) rest) [
          | inl l ↦ ordered-others x late y (λ z zs is before. (let both : true ≡ false = sym (before-rank_before (letter_rank z) (letter_rank x) before) ∙ subst (λ (l : List (Letter P)). leads l (x ∷ present) ≡ false) is first in absurd (cc))) kept.late_ordered l
          | inr s ↦ not-earlier now x y (kept.present_reached x (inl refl)) (slots-late now slots kept.placed y s)
        ]
      ] in
      let both = least-first x (letters_kept (x ∷ present) late slots) (letters_kept present late slots) kept.apart (IsPermutation-refl (x ∷ letters_kept present late slots)) least in (
        record {
          apart = both.0;
          present_ordered = kept.present_ordered.1;
          late_ordered = kept.late_ordered;
          present_reached = λ y m. kept.present_reached y (inr m);
          late_reached = kept.late_reached;
          placed = kept.placed;
        },
        both.1,
      )

  -- without letters of the present time that aren't late ones, none is late where none leads
  pub none-late : (late : List (Letter P)) → leads late [] ≡ false → late ≡ []
  none-late [] first = refl
  none-late (x ∷ late) first = let never : true ≡ false = first in absurd (cc)

  -- ---- the present time becomes another

  -- the earliest of times is one of them
  pub earliest-bound : (time : Time) (letters : List (Letter P)) → earliest time letters ≤ time
  earliest-bound time [] = omega arith
  earliest-bound time (x ∷ letters) = let rest : earliest (earlier time (time_of x)) letters ≤ earlier time (time_of x) = earliest-bound (earlier time (time_of x)) letters in omega (arith, rest)

  pub earliest-least : (time : Time) (letters : List (Letter P)) → AreFrom (earliest time letters) letters
  earliest-least time [] y m = absurd m
  earliest-least time (x ∷ letters) y m = elim m [
    | inl own ↦
        let rest : earliest (earlier time (time_of x)) letters ≤ earlier time (time_of x) = earliest-bound (earlier time (time_of x)) letters in
        let same : time_of y ≡ time_of x = ap (λ (z : Letter P). time_of z) own in
        omega (arith, rest, same)
    | inr n ↦ earliest-least (earlier time (time_of x)) letters y n
  ]

  -- a time that no letter is before is the earliest
  pub earliest-own : (time : Time) (letters : List (Letter P)) → AreFrom time letters → earliest time letters ≡ time
  earliest-own time [] from = refl
  earliest-own time (x ∷ letters) from =
      let after : time ≤ time_of x = from x (inl refl) in
      let same : earlier time (time_of x) ≡ time = omega (arith, after) in
      ap (λ (t : Time). earliest t letters) same ∙ earliest-own time letters (λ y m. from y (inr m))

  pub earliest-one : (time : Time) (letters : List (Letter P)) → (earliest time letters ≡ time) ⊎ ((y : Letter P) × Among y letters × (time_of y ≡ earliest time letters))
  earliest-one time [] = inl refl
  earliest-one time (x ∷ letters) = elim (earliest-one (earlier time (time_of x)) letters) [
    | inl is ↦ elim (earlier-one time (time_of x)) [
      | inl bound ↦ inl (is ∙ bound)
      | inr own ↦ inr (x, inl refl, sym (is ∙ own))
    ]
    | inr r ↦ inr (r.0, inr r.1, r.2)
  ] where
    earlier-one : (a b : Time) → (earlier a b ≡ a) ⊎ (earlier a b ≡ b)
    earlier-one a b = elim (cases_order a b) [
      | inl e ↦ inl (omega (arith, e))
      | inr h ↦ elim h [ inl l ↦ inl (omega (arith, l)) | inr l ↦ inr (omega (arith, l)) ]
    ]

  -- letters that were spread, among the slots
  pub kept-spread : (now start : Time) (present late letters spread : List (Letter P)) (old between new : List (List (Letter P))) → IsKept now present late old
      → IsPermutation (letters_kept present late old) (letters ++ items_in between) → ArePlaced start between → AreSpread start letters spread between new
      → IsKept start spread [] new × (in_order (letters_kept spread [] new) ≡ in_order (letters_kept present late old))
  kept-spread now start present late letters spread old between new kept same placed spreads =
      let both = reordered (letters_kept present late old) (letters_kept spread [] new) kept.apart (IsPermutation-trans (letters_kept present late old) (letters ++ items_in between) (spread ++ items_in new) same spreads.same) in (
        record {
          apart = both.0;
          present_ordered = spreads.ordered;
          late_ordered = tt;
          present_reached = spreads.reached;
          late_reached = λ y m. absurd m;
          placed = spreads.placed placed;
        },
        both.1,
      )

  -- the first slot with a letter is opened
  module _ (now : Time) (slot : ℕ) (letters : List (Letter P)) (first : Letter P) (old new : List (List (Letter P))) (placed : ArePlaced now old) (taken : IsChanged slot letters [] old new) (empty : AreEmpty 0 slot old) (front : slice_get letters 0 ≡ Some first) where
    abbrev start : Time
    start = earliest (time_of first) letters

    begins : (y : Letter P) × Among y letters × (time_of y ≡ start)
    begins = elim (earliest-one (time_of first) letters) [
      | inl is ↦ (first, get-among letters 0 first front, sym is)
      | inr r ↦ r
    ]

    pub opened-placed : ArePlaced start new
    opened-placed i l y at m =
        elim (set-found old slot i [] l (subst (λ (lists : List (List (Letter P))). slice_get lists i ≡ Some l) taken.is at)) [
          | inl here ↦ absurd (subst (Among y) here.1 m)
          | inr other ↦
              let it = placed i l y other.1 m in
              let opens = placed slot letters begins.0 taken.there begins.1 in
              let from : TimeBefore now start = subst (λ (t : Time). TimeBefore now t) begins.2 opens.0 in
              let is : slot_of now start ≡ slot = ap (slot_of now) (sym begins.2) ∙ opens.1 in
              let own : slot_of now (time_of y) ≡ i = it.1 in
              let later : slot < i = elim (cases_order i slot) [
                | inl same ↦ absurd (other.0 same)
                | inr apart ↦ elim apart [
                  | inl less ↦ absurd (subst (Among y) (empty i l (let z : 0 ≤ i = omega arith in z) less other.1) m)
                  | inr more ↦ more
                ]
              ] in
              let stays = slot-opened now start (time_of y) from it.0 (omega (arith, is, own, later)) in
              (stays.0, stays.1 ∙ own)
        ]

    pub opened-ticks : slot < 512 → (y : Letter P) → Among y letters → ticks_of (time_of first) ≤ ticks_of (time_of y)
    opened-ticks low y m =
        let it = placed slot letters y taken.there m in
        let own = placed slot letters first taken.there (get-among letters 0 first front) in
        let here : slot_of now (time_of first) ≡ slot = own.1 in
        let same : ticks_of (time_of first) ≡ ticks_of (time_of y) = slot-low now (time_of first) (time_of y) (own.1 ∙ sym it.1) (omega (arith, here, low)) in
        omega (arith, same)

    pub opened-same : IsPermutation (items_in old) (letters ++ items_in new)
    opened-same = IsPermutation-sym (letters ++ items_in new) (items_in old) (subst (λ (lists : List (List (Letter P))). IsPermutation (letters ++ items_in lists) (items_in old)) (sym taken.is) (items-taken old slot letters taken.there))

    -- there is a letter of its first time
    pub opened-some : (spread : List (Letter P)) (after : List (List (Letter P))) → AreSpread start letters spread new after → spread ≡ [] → items_in after ≡ []
    opened-some spread after spreads none =
        let y : Letter P = begins.0 in
        let here : Among y (spread ++ items_in after) = among-permuted (letters ++ items_in new) (spread ++ items_in after) spreads.same y (among-left y letters (items_in new) begins.1) in
        let there : Among y (items_in after) = subst (λ (l : List (Letter P)). Among y (l ++ items_in after)) none here in
        let late : TimeBefore start (time_of y) = slots-late start after (spreads.placed opened-placed) y there in
        absurd (omega (arith, late, begins.2))

  -- the present time goes back
  module _ (now back : Time) (present late letters moved : List (Letter P)) (old new : List (List (Letter P))) (kept : IsKept now present late old) (joined : IsPermutation (present ++ late) letters) (least : TimeAtMost back (earliest now letters))
      (moves : AreMoved (first_kept now back) letters moved old new) where
    pub back-same : IsPermutation (letters_kept present late old) (moved ++ items_in new)
    back-same =
        subst (λ (l : List (Letter P)). IsPermutation l (moved ++ items_in new)) (append_assoc present late (items_in old))
        (IsPermutation-trans (present ++ late ++ items_in old) (letters ++ items_in old) (moved ++ items_in new) (IsPermutation-append_left (items_in old) (present ++ late) letters joined) moves.same)

    not-after : TimeAtMost back now
    not-after = let bound : earliest now letters ≤ now = earliest-bound now letters in omega (arith, bound, least)

    pub back-from : AreFrom back moved
    back-from y m =
        elim (among-append y letters (items_in old) (among-permuted (moved ++ items_in new) (letters ++ items_in old) (IsPermutation-sym (letters ++ items_in old) (moved ++ items_in new) moves.same) y (among-left y moved (items_in new) m))) [
          | inl own ↦ let from : earliest now letters ≤ time_of y = earliest-least now letters y own in omega (arith, from, least)
          | inr s ↦ let after : TimeBefore now (time_of y) = slots-late now old kept.placed y s in let before : TimeAtMost back now = not-after in omega (arith, after, before)
        ]

    pub back-placed : ArePlaced back new
    back-placed i l y at m = elim (cases_lt i (first_kept now back)) [
      | inl less ↦ absurd (subst (Among y) (moves.emptied i l (let z : 0 ≤ i = omega arith in z) less at) m)
      | inr from ↦
          let it = kept.placed i l y (moves.stayed i l at from) m in
          let own : slot_of now (time_of y) ≡ i = it.1 in
          let stays = slot-kept now back (time_of y) not-after it.0 (omega (arith, own, from)) in
          (stays.0, stays.1 ∙ own)
    ]
