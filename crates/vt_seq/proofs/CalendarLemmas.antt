-- Entries in order, and entries by days.
use Rattle.std.proofs.Common.{◌≡◌, ℕ, zero, suc, ◌+◌, ◌/◌, ◌^◌, ◌<◌, ◌≤◌, ◌⊎◌, inl, inr, List, [], ◌∷◌, ◌++◌, Bool, true, false, if◌then◌else◌, length, map, replicate, get_or, slice_get, slice_index_or, slice_set, Option, option_to_list, Some, None, Result, Ok, Err, IfOk, IfErr, is_ok, Vec, Global, refl, sym, subst, ap, ◌∙◌, arith}
use Rattle.std.specs.List.Sorted.{IsPermutation, IsSorted}
use Rattle.std.specs.Ordering.{is_lt}
use Rattle.std.proofs.lemmas.Bool.{cases_order}
use Rattle.std.specs.Option.{option_map}
use Rattle.std.proofs.lemmas.List.{nil_from_length, append_assoc, append-nil, map-append, map-set, set-get_or}
use Rattle.std.proofs.lemmas.Option.{slice_get-map, slice_get-get_or, get_or_from_slice_get}
use Rattle.std.proofs.Math.Seq.{map-set_same}
use Rattle.std.proofs.Math.Nat.{div-mul-le_self}
use Rattle.std.proofs.lemmas.Nat.{le-div, pow_pos}
use Rattle.std.proofs.lemmas.List.Sorted.{length_permutation, IsPermutation-refl, IsPermutation-sym, IsPermutation-trans, IsPermutation-append_left, IsPermutation-append_right, IsPermutation-append_comm, IsPermutation-middle, IsPermutation-to_front, IsPermutation-map}
use Rattle.vt_key.specs.promise.Order.{KeyBefore}
use Rattle.vt_key.specs.promise.Times.{ticks_of}
use Rattle.vt_key.specs.promise.Lists.{Among}
use Rattle.vt_key.proofs.ListLemmas.{every-weaker, among-append, among-left, among-right, map-among, rising-left, rising-across}
use Rattle.vt_model.specs.declared.sending.Sent.{Sent}
use Rattle.vt_seq.specs.declared.entry.Entry.{Entry}
use Rattle.vt_seq.specs.inside.Entries.{entry_cmp, events_in, IsLeastEntry, IsFalling}
use Rattle.vt_seq.specs.inside.Days.{day_of, entries_of_days, is_used, IsPut, IsDayTaken, AreDated, AreJustBefore}
use Rattle.vt_seq.proofs.HeapLemmas.{less-key, not-before-trans, among-permuted, least-append, least-popped}

-- what is found in a list of which one item was set
set-found : {X : Type 0} (xs : List X) (i j : ℕ) (y l : X) → slice_get (slice_set xs i y) j ≡ Some l → ((j ≡ i) × (l ≡ y)) ⊎ ((j ≡ i → ⊥) × (slice_get xs j ≡ Some l))
set-found [] i j y l h = inr ((λ same. let never : None ≡ Some l = h in absurd (cc)), h)
set-found (x ∷ xs) zero zero y l h = inl (refl, (let z : Some y ≡ Some l = h in cc))
set-found (x ∷ xs) zero (suc j) y l h = inr ((λ same. absurd (omega (arith, same))), h)
set-found (x ∷ xs) (suc i) zero y l h = inr ((λ same. absurd (omega (arith, same))), h)
set-found (x ∷ xs) (suc i) (suc j) y l h = elim (set-found xs i j y l h) [
  | inl u ↦ let at : j ≡ i = u.0 in inl (ap suc at, u.1)
  | inr u ↦ inr ((λ same. u.0 (omega (arith, same))), u.1)
]

-- a later tick isn't of an earlier day
days-rise : (scale a b : ℕ) → a ≤ b → day_of scale a ≤ day_of scale b
days-rise scale a b h = le-div (a / 2 ^ scale) b (2 ^ scale) (pow_pos scale) (omega (arith, h, div-mul-le_self a (2 ^ scale)))

exchange : {X : Type 0} (xs ys zs : List X) → IsPermutation (xs ++ (ys ++ zs)) (ys ++ (xs ++ zs))
exchange xs ys zs = subst (λ l. IsPermutation l (ys ++ (xs ++ zs))) (append_assoc xs ys zs)
    (subst (IsPermutation (xs ++ ys ++ zs)) (append_assoc ys xs zs) (IsPermutation-append_left zs (xs ++ ys) (ys ++ xs) (IsPermutation-append_comm xs ys)))

module _ {P : Type 0} where
  -- ---- entries in order

  pub sorted-falling : (xs : List (Entry P)) → IsSorted entry_cmp xs → IsFalling xs
  sorted-falling [] s = tt
  sorted-falling (x ∷ []) s = (tt, tt)
  sorted-falling (x ∷ y ∷ ys) s =
      let rest : IsFalling (y ∷ ys) = sorted-falling (y ∷ ys) (λ k d z l.
      let next : suc k + 1 ≡ suc (k + 1) = omega arith in
      subst (λ (n : ℕ). is_lt (entry_cmp (slice_index_or (x ∷ y ∷ ys) n d) (slice_index_or (x ∷ y ∷ ys) (suc k) d)) ≡ false) next (s (suc k) d (let w : 0 ≤ suc k = omega arith in w) (omega (arith, l)))) in
      let first : KeyBefore x.event.key y.event.key → ⊥ = λ h.
      let less : is_lt (entry_cmp y x) ≡ true = ap is_lt (less-key x.event.key y.event.key h) in
      let never : is_lt (entry_cmp y x) ≡ false = s 0 x (let z : 0 ≤ 0 = omega arith in z) (let z : 0 + 1 < length (x ∷ y ∷ ys) = omega arith in z) in
      let both : true ≡ false = sym less ∙ never in absurd (cc) in
      ((first, every-weaker _ _ ys (λ z. not-before-trans x.event.key y.event.key z.event.key first) rest.0), rest)

  with-last : (d : Sent P) (ys : List (Entry P)) (x : Entry P) → Among d (events_in ys) ⊎ (d ≡ x.event) → Among d (events_in (ys ++ x ∷ []))
  with-last d ys x m = subst (Among d) (sym (map-append (λ (e : Entry P). e.event) ys (x ∷ []))) (elim m [
    | inl n ↦ among-left d (events_in ys) (x.event ∷ []) n
    | inr at ↦ among-right d (events_in ys) (x.event ∷ []) (inl at)
  ])

  pub falling-last : (ys : List (Entry P)) (x : Entry P) → IsFalling (ys ++ x ∷ []) → IsFalling ys × IsLeastEntry x ys
  falling-last ys x f = (
    rising-left _ ys (x ∷ []) f,
    (λ d m before.
        let r = map-among (λ (e : Entry P). e.event) d ys m in
        rising-across _ ys (x ∷ []) f r.0 x r.1 (inl refl) (subst (λ (e : Sent P). KeyBefore e.key x.event.key) (sym r.2) before)),
  )

  pub just-last : (ys : List (Entry P)) (x : Entry P) (scale day : ℕ) → AreJustBefore scale day (ys ++ x ∷ []) → AreJustBefore scale day ys × (day_of scale (ticks_of x.event.key.time) + 1 ≡ day)
  just-last ys x scale day h = ((λ d m. h d (with-last d ys x (inl m))), h x.event (with-last x.event ys x (inr refl)))

  -- ---- entries by days

  pub days-put : (days : List (List (Entry P))) (i : ℕ) (l : List (Entry P)) (x : Entry P) → slice_get days i ≡ Some l → IsPermutation (x ∷ entries_of_days days) (entries_of_days (slice_set days i (l ++ x ∷ [])))
  days-put [] i l x h = let never : None ≡ Some l = h in absurd (cc)
  days-put (k ∷ days) zero l x h =
      let same : k ≡ l = (let z : Some k ≡ Some l = h in cc) in
      subst (λ (m : List (Entry P)). IsPermutation (x ∷ (m ++ entries_of_days days)) (l ++ x ∷ [] ++ entries_of_days days)) (sym same)
      (subst (IsPermutation (x ∷ (l ++ entries_of_days days))) (sym (append_assoc l (x ∷ []) (entries_of_days days))) (IsPermutation-sym (l ++ x ∷ entries_of_days days) (x ∷ (l ++ entries_of_days days)) (IsPermutation-middle l x (entries_of_days days))))
  days-put (k ∷ days) (suc i) l x h =
      IsPermutation-trans (x ∷ (k ++ entries_of_days days)) (k ++ x ∷ entries_of_days days) (k ++ entries_of_days (slice_set days i (l ++ x ∷ [])))
      (IsPermutation-sym (k ++ x ∷ entries_of_days days) (x ∷ (k ++ entries_of_days days)) (IsPermutation-middle k x (entries_of_days days)))
      (IsPermutation-append_right k (x ∷ entries_of_days days) (entries_of_days (slice_set days i (l ++ x ∷ []))) (days-put days i l x h))

  pub days-taken : (days : List (List (Entry P))) (i : ℕ) (l : List (Entry P)) → slice_get days i ≡ Some l → IsPermutation (l ++ entries_of_days (slice_set days i [])) (entries_of_days days)
  days-taken [] i l h = let never : None ≡ Some l = h in absurd (cc)
  days-taken (k ∷ days) zero l h =
      let same : k ≡ l = (let z : Some k ≡ Some l = h in cc) in
      subst (λ (m : List (Entry P)). IsPermutation (l ++ entries_of_days days) (m ++ entries_of_days days)) (sym same) (IsPermutation-refl (l ++ entries_of_days days))
  days-taken (k ∷ days) (suc i) l h =
      IsPermutation-trans (l ++ (k ++ entries_of_days (slice_set days i []))) (k ++ (l ++ entries_of_days (slice_set days i []))) (k ++ entries_of_days days)
      (exchange l k (entries_of_days (slice_set days i [])))
      (IsPermutation-append_right k (l ++ entries_of_days (slice_set days i [])) (entries_of_days days) (days-taken days i l h))

  days-least : (x : Entry P) (days : List (List (Entry P))) → ((i : ℕ) (l : List (Entry P)) → slice_get days i ≡ Some l → IsLeastEntry x l) → IsLeastEntry x (entries_of_days days)
  days-least x [] h = λ d m before. absurd m
  days-least x (k ∷ days) h = least-append x k (entries_of_days days) (h 0 k refl) (days-least x days (λ i l at. h (suc i) l at))

  -- an event of an earlier day is before all in the days
  pub dated-least : (x : Entry P) (scale base next : ℕ) (days : List (List (Entry P))) → AreDated scale base next days → day_of scale (ticks_of x.event.key.time) < base + next → IsLeastEntry x (entries_of_days days)
  dated-least x scale base next days dated early = days-least x days (λ i l at d m before.
      let it = dated i l d at m in
      let day : day_of scale (ticks_of d.key.time) ≡ base + i = it.0 in
      let late : next ≤ i = it.1 in
      let not_after : ticks_of d.key.time ≤ ticks_of x.event.key.time = elim before [
        | inl less ↦ let z : d.key.time < x.event.key.time = less in omega (arith, z)
        | inr same ↦ let z : d.key.time ≡ x.event.key.time = same.0 in omega (arith, z)
      ] in
      omega (arith, day, late, early, days-rise scale (ticks_of d.key.time) (ticks_of x.event.key.time) not_after))

  pub dated-put : (scale base next day : ℕ) (x : Entry P) (old new : List (List (Entry P))) → AreDated scale base next old → IsPut day x old new → day_of scale (ticks_of x.event.key.time) ≡ base + day → next ≤ day → AreDated scale base next new
  dated-put scale base next day x old new dated put tick late i l d at m =
      elim (set-found old day i (put.list ++ x ∷ []) l (subst (λ (days : List (List (Entry P))). slice_get days i ≡ Some l) put.is at)) [
        | inl u ↦
            let here : i ≡ day = u.0 in
            let both : Among d (events_in (put.list ++ x ∷ [])) = subst (λ (k : List (Entry P)). Among d (events_in k)) u.1 m in
            elim (among-append d (events_in put.list) (x.event ∷ []) (subst (Among d) (map-append (λ (e : Entry P). e.event) put.list (x ∷ [])) both)) [
              | inl n ↦ let it = dated day put.list d put.there n in let t : day_of scale (ticks_of d.key.time) ≡ base + day = it.0 in (omega (arith, t, here), omega (arith, late, here))
              | inr own ↦ elim own [
                | inl same ↦ let t : day_of scale (ticks_of d.key.time) ≡ day_of scale (ticks_of x.event.key.time) = ap (λ (e : Sent P). day_of scale (ticks_of e.key.time)) same in (omega (arith, t, tick, here), omega (arith, late, here))
                | inr never ↦ absurd never
              ]
            ]
        | inr u ↦ dated i l d u.1 m
      ]

  pub dated-taken : (scale base next day : ℕ) (list : List (Entry P)) (old new : List (List (Entry P))) → AreDated scale base next old → IsDayTaken day list old new → AreDated scale base (day + 1) new
  dated-taken scale base next day list old new dated taken i l d at m =
      elim (set-found old day i [] l (subst (λ (days : List (List (Entry P))). slice_get days i ≡ Some l) taken.is at)) [
        | inl u ↦ absurd (subst (λ (k : List (Entry P)). Among d (events_in k)) u.1 m)
        | inr u ↦
            let it = dated i l d u.1 m in
            let later : day + 1 ≤ i = elim (cases_order i day) [
              | inl same ↦ absurd (u.0 same)
              | inr apart ↦ elim apart [
                | inl less ↦ absurd (subst (λ (k : List (Entry P)). Among d (events_in k)) (taken.first i l less u.1) m)
                | inr more ↦ let z : day + 1 ≤ i = omega (arith, more) in z
              ]
            ] in (it.0, later)
      ]

  pub taken-just : (scale base next day : ℕ) (list : List (Entry P)) (old new : List (List (Entry P))) → AreDated scale base next old → IsDayTaken day list old new → AreJustBefore scale (base + (day + 1)) list
  taken-just scale base next day list old new dated taken d m = let t : day_of scale (ticks_of d.key.time) ≡ base + day = (dated day list d taken.there m).0 in omega (arith, t)

  pub just-permuted : (scale day : ℕ) (xs ys : List (Entry P)) → IsPermutation xs ys → AreJustBefore scale day xs → AreJustBefore scale day ys
  just-permuted scale day xs ys h before d m =
      before d (among-permuted (events_in ys) (events_in xs) (IsPermutation-sym (events_in xs) (events_in ys) (IsPermutation-map (λ (e : Entry P). e.event) xs ys h)) d m)

  -- ---- marks

  pub used-put : (l : List (Entry P)) (x : Entry P) → is_used (l ++ x ∷ []) ≡ true
  used-put [] x = refl
  used-put (y ∷ l) x = refl

  -- a day that has no mark has no entry
  pub unmarked-empty : (days : List (List (Entry P))) (i : ℕ) (l : List (Entry P)) → slice_get days i ≡ Some l → (slice_get (map is_used days) i ≡ Some true → ⊥) → l ≡ []
  unmarked-empty days i [] h none = refl
  unmarked-empty days i (x ∷ l) h none = absurd (none (slice_get-map is_used days i ∙ ap (option_map is_used) h))

  pub unmarked-none : (days : List (List (Entry P))) → ((i : ℕ) → slice_get (map is_used days) i ≡ Some true → ⊥) → entries_of_days days ≡ []
  unmarked-none [] none = refl
  unmarked-none ([] ∷ days) none = unmarked-none days (λ i h. none (suc i) h)
  unmarked-none ((x ∷ l) ∷ days) none = absurd (none 0 refl)

  -- a day that has a mark has an entry
  pub marked-there : (days : List (List (Entry P))) (i : ℕ) → slice_get (map is_used days) i ≡ Some true → (l : List (Entry P)) × (slice_get days i ≡ Some l) × (is_used l ≡ true)
  marked-there [] i h = let never : None ≡ Some true = h in absurd (cc)
  marked-there (k ∷ days) zero h = (k, refl, (let z : Some (is_used k) ≡ Some true = h in cc))
  marked-there (k ∷ days) (suc i) h = marked-there days i h

  -- days without entries have no mark
  pub empty-marks : (days : List (List (Entry P))) → entries_of_days days ≡ [] → replicate (length days) false ≡ map is_used days
  empty-marks [] none = refl
  empty-marks ([] ∷ days) none = ap (λ (m : List Bool). false ∷ m) (empty-marks days none)
  empty-marks ((x ∷ l) ∷ days) none = let never : x ∷ (l ++ entries_of_days days) ≡ [] = none in absurd (cc)

  pub days-more : (days : List (List (Entry P))) → entries_of_days days ≡ [] → entries_of_days (days ++ [] ∷ []) ≡ []
  days-more [] none = refl
  days-more ([] ∷ days) none = days-more days none
  days-more ((x ∷ l) ∷ days) none = let never : x ∷ (l ++ entries_of_days days) ≡ [] = none in absurd (cc)

  -- ---- lists of which contracts see the items

  -- the items of each list
  abbrev pub items_of : List (Vec (Entry P) Global) → List (List (Entry P))
  items_of lists = map (λ (list : Vec (Entry P) Global). list.items) lists

  pub day-there : {V : Type 0} (f : V → List (Entry P)) (vs : List V) (i : ℕ) (d : V) → i < length vs → slice_get (map f vs) i ≡ Some (f (get_or vs i d))
  day-there f vs i d l = slice_get-map f vs i ∙ ap (option_map f) (slice_get-get_or vs i d l)

  set-there : (days : List (List (Entry P))) (i : ℕ) (l : List (Entry P)) → slice_get days i ≡ Some l → slice_set days i l ≡ days
  set-there days i l h = ap (slice_set days i) (sym (get_or_from_slice_get days i l l h)) ∙ set-get_or days i l

  kept-marks : (days : List (List (Entry P))) (i : ℕ) (l new : List (Entry P)) → slice_get days i ≡ Some l → is_used new ≡ is_used l → map is_used (slice_set days i new) ≡ map is_used days
  kept-marks days i l new h same = map-set_same is_used days i new l (same ∙ ap is_used (sym (get_or_from_slice_get days i l l h)))

  pub filled-used : (l : List (Entry P)) → (length l ≡ 0 → ⊥) → is_used l ≡ true
  filled-used [] some = absurd (some refl)
  filled-used (x ∷ l) some = refl

  -- ---- an event is put into a day

  -- into one that has an entry, if there was memory
  pub put-more : {V E : Type 0} (days : List (List (Entry P))) (day : ℕ) (l w : List (Entry P)) (x : Entry P) (r : Result V E) → slice_get days day ≡ Some l → is_used l ≡ true → w ≡ (if is_ok r then l ++ x ∷ [] else l)
      → (map is_used (slice_set days day w) ≡ map is_used days) × IfOk r (λ _. IsPut day x days (slice_set days day w)) × IfErr r (λ _. slice_set days day w ≡ days)
  put-more days day l w x (Ok v) there used is =
      (kept-marks days day l w there (ap is_used is ∙ used-put l x ∙ sym used), record { list = l; there = there; is = ap (slice_set days day) is }, tt)
  put-more days day l w x (Err e) there used is =
      (kept-marks days day l w there (ap is_used is), tt, ap (slice_set days day) is ∙ set-there days day l there)

  -- into one that has none
  pub put-new : (days : List (List (Entry P))) (day : ℕ) (l w : List (Entry P)) (x : Entry P) → slice_get days day ≡ Some l → length l ≡ 0 → w ≡ x ∷ []
      → (slice_set (map is_used days) day true ≡ map is_used (slice_set days day w)) × IsPut day x days (slice_set days day w)
  put-new days day [] w x there none is =
      (sym (map-set is_used days day w ∙ ap (λ (m : List (Entry P)). slice_set (map is_used days) day (is_used m)) is), record { list = []; there = there; is = ap (slice_set days day) is })
  put-new days day (y ∷ l) w x there none is = absurd (omega (arith, none))

  -- ---- the last entry of the present day

  pub last-split : (xs : List (Entry P)) (k : ℕ) (x : Entry P) → length xs ≡ k + 1 → x ≡ slice_index_or xs k x → (ys : List (Entry P)) × (xs ≡ ys ++ x ∷ [])
  last-split [] k x len at = absurd (omega (arith, len))
  last-split (y ∷ []) zero x len at = ([], ap (λ (z : Entry P). z ∷ []) (sym at))
  last-split (y ∷ []) (suc k) x len at = absurd (omega (arith, len))
  last-split (y ∷ z ∷ zs) zero x len at = absurd (omega (arith, len))
  last-split (y ∷ z ∷ zs) (suc k) x len at =
      let r = last-split (z ∷ zs) k x (omega (arith, len)) at in
      (y ∷ r.0, ap (λ (l : List (Entry P)). y ∷ l) r.1)

  pub last-out : (xs ys others : List (Entry P)) (x : Entry P) → xs ≡ ys ++ x ∷ [] → IsPermutation (xs ++ others) (x ∷ (ys ++ others))
  last-out xs ys others x h =
      subst (λ (l : List (Entry P)). IsPermutation (l ++ others) (x ∷ (ys ++ others))) (sym h)
      (subst (λ (l : List (Entry P)). IsPermutation l (x ∷ (ys ++ others))) (sym (append_assoc ys (x ∷ []) others)) (IsPermutation-middle ys x others))

  pub last-least : (scale base next : ℕ) (xs ys : List (Entry P)) (x : Entry P) (days : List (List (Entry P))) → xs ≡ ys ++ x ∷ [] → IsFalling xs → AreJustBefore scale (base + next) xs → AreDated scale base next days → IsLeastEntry x (xs ++ entries_of_days days)
  last-least scale base next xs ys x days h falling before dated =
      let least : IsLeastEntry x ys = (falling-last ys x (subst (λ (l : List (Entry P)). IsFalling l) h falling)).1 in
      let at : day_of scale (ticks_of x.event.key.time) + 1 ≡ base + next = (just-last ys x scale (base + next) (subst (λ (l : List (Entry P)). AreJustBefore scale (base + next) l) h before)).1 in
      let early : day_of scale (ticks_of x.event.key.time) < base + next = omega (arith, at) in
      subst (λ (l : List (Entry P)). IsLeastEntry x (l ++ entries_of_days days)) (sym h)
      (least-append x (ys ++ x ∷ []) (entries_of_days days) (least-popped x (ys ++ x ∷ []) ys (IsPermutation-to_front ys x) least) (dated-least x scale base next days dated early))

  pub falling-left : (left old : List (Entry P)) (r : Option (Entry P)) → old ≡ left ++ option_to_list r → IsFalling old → IsFalling left
  falling-left left old None h f = subst (λ (l : List (Entry P)). IsFalling l) (h ∙ append-nil left) f
  falling-left left old (Some x) h f = (falling-last left x (subst (λ (l : List (Entry P)). IsFalling l) h f)).0

  pub just-left : (scale day : ℕ) (left old : List (Entry P)) (r : Option (Entry P)) → old ≡ left ++ option_to_list r → AreJustBefore scale day old → AreJustBefore scale day left
  just-left scale day left old None h f = subst (λ (l : List (Entry P)). AreJustBefore scale day l) (h ∙ append-nil left) f
  just-left scale day left old (Some x) h f = (just-last left x scale day (subst (λ (l : List (Entry P)). AreJustBefore scale day l) h f)).0

  -- ---- an event is put, or not

  pub dated-either : {V E : Type 0} (scale base next day : ℕ) (x : Entry P) (old new : List (List (Entry P))) (r : Result V E) → IfOk r (λ _. IsPut day x old new) → IfErr r (λ _. new ≡ old)
      → AreDated scale base next old → day_of scale (ticks_of x.event.key.time) ≡ base + day → next ≤ day → AreDated scale base next new
  dated-either scale base next day x old new (Ok v) put kept dated tick late = dated-put scale base next day x old new dated put tick late
  dated-either scale base next day x old new (Err e) put kept dated tick late = subst (λ (days : List (List (Entry P))). AreDated scale base next days) (sym kept) dated

  pub entries-put : (day : ℕ) (x : Entry P) (present : List (Entry P)) (old new : List (List (Entry P))) → IsPut day x old new → IsPermutation (x ∷ (present ++ entries_of_days old)) (present ++ entries_of_days new)
  entries-put day x present old new put =
      subst (λ (days : List (List (Entry P))). IsPermutation (x ∷ (present ++ entries_of_days old)) (present ++ entries_of_days days)) (sym put.is)
      (IsPermutation-trans (x ∷ (present ++ entries_of_days old)) (present ++ x ∷ entries_of_days old) (present ++ entries_of_days (slice_set old day (put.list ++ x ∷ [])))
      (IsPermutation-sym (present ++ x ∷ entries_of_days old) (x ∷ (present ++ entries_of_days old)) (IsPermutation-middle present x (entries_of_days old)))
      (IsPermutation-append_right present (x ∷ entries_of_days old) (entries_of_days (slice_set old day (put.list ++ x ∷ []))) (days-put old day put.list x put.there)))

  pub entries-taken : (day : ℕ) (list sorted : List (Entry P)) (old new : List (List (Entry P))) → IsDayTaken day list old new → IsPermutation list sorted → IsPermutation (entries_of_days old) (sorted ++ entries_of_days new)
  entries-taken day list sorted old new taken h =
      subst (λ (days : List (List (Entry P))). IsPermutation (entries_of_days old) (sorted ++ entries_of_days days)) (sym taken.is)
      (IsPermutation-trans (entries_of_days old) (list ++ entries_of_days (slice_set old day [])) (sorted ++ entries_of_days (slice_set old day []))
      (IsPermutation-sym (list ++ entries_of_days (slice_set old day [])) (entries_of_days old) (days-taken old day list taken.there))
      (IsPermutation-append_left (entries_of_days (slice_set old day [])) list sorted h))

  -- the day that was emptied had some
  pub taken-some : (day : ℕ) (list sorted : List (Entry P)) (old new : List (List (Entry P))) → IsDayTaken day list old new → IsPermutation list sorted → sorted ≡ [] → ⊥
  taken-some day list sorted old new taken h none =
      let empty : list ≡ [] = nil_from_length list (sym (length_permutation list sorted h) ∙ ap length none) in
      let never : false ≡ true = ap is_used (sym empty) ∙ taken.used in absurd (cc)

  -- ---- no entries

  pub append-none : (xs ys : List (Entry P)) → xs ++ ys ≡ [] → (xs ≡ []) × (ys ≡ [])
  append-none [] ys h = (refl, h)
  append-none (x ∷ xs) ys h = let never : x ∷ (xs ++ ys) ≡ [] = h in absurd (cc)

  none-there : (days : List (List (Entry P))) (i : ℕ) (l : List (Entry P)) → entries_of_days days ≡ [] → slice_get days i ≡ Some l → l ≡ []
  none-there [] i l none at = let never : None ≡ Some l = at in absurd (cc)
  none-there (k ∷ days) zero l none at = (let z : l ≡ k = (let y : Some k ≡ Some l = at in cc) in z) ∙ (append-none k (entries_of_days days) none).0
  none-there (k ∷ days) (suc i) l none at = none-there days i l (append-none k (entries_of_days days) none).1 at

  pub none-dated : (scale base next : ℕ) (days : List (List (Entry P))) → entries_of_days days ≡ [] → AreDated scale base next days
  none-dated scale base next days none i l d at m = absurd (subst (λ (k : List (Entry P)). Among d (events_in k)) (none-there days i l none at) m)

  pub none-falling : (xs : List (Entry P)) → xs ≡ [] → IsFalling xs
  none-falling xs none = subst (λ (l : List (Entry P)). IsFalling l) (sym none) tt

  pub none-just : (scale day : ℕ) (xs : List (Entry P)) → xs ≡ [] → AreJustBefore scale day xs
  none-just scale day xs none d m = absurd (subst (λ (k : List (Entry P)). Among d (events_in k)) none m)
