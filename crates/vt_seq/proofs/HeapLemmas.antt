-- The events of entries in the order of their keys, when one is put in, and when the first is taken out.
use Rattle.std.proofs.Common.{◌≡◌, ℕ, suc, ◌+◌, ◌<◌, ◌≤◌, inl, inr, List, [], ◌∷◌, Bool, true, false, ◌++◌, length, slice_index_or, drop, slice_get, Some, Result, Ok, Err, IfOk, IfErr, is_err, if◌then◌else◌, refl, sym, subst, ap, ◌∙◌, arith}
use Rattle.std.specs.List.{Contains}
use Rattle.std.specs.List.Sorted.{IsPermutation}
use Rattle.std.specs.BinaryHeap.{IsHeap, IsUpperBound}
use Rattle.std.specs.declared.cmp.Ordering.TheVariants.{Less, Equal}
use Rattle.std.specs.Ordering.{is_lt, nat_cmp, ordering_then}
use Rattle.std.specs.Cmp.{nat_cmp_is}
use Rattle.std.proofs.lemmas.List.{map-append}
use Rattle.std.proofs.lemmas.List.Sums.{sum_by-cons}
use Rattle.std.proofs.lemmas.List.Sorted.{Contains-permutation, IsPermutation-append_left, IsPermutation-append_right, IsPermutation-map, IsPermutation-middle, IsPermutation-refl, IsPermutation-sym, IsPermutation-trans, sum_by-IsPermutation}
use Rattle.std.proofs.lemmas.Bool.{cases_Bool}
use Rattle.vt_key.specs.promise.Keys.{Key}
use Rattle.vt_key.specs.inside.Keys.{key_cmp}
use Rattle.vt_key.specs.promise.Order.{KeyBefore, key_before, key_same}
use Rattle.vt_key.specs.promise.Lists.{Among}
use Rattle.vt_key.proofs.OrderLemmas.{key-irreflexive, key-asymmetric, key-transitive, key-total, key_before-true, before-key_before, key_same-true, same-key_same}
use Rattle.vt_key.proofs.ListLemmas.{among-append}
use Rattle.vt_model.specs.declared.sending.Sent.{Sent}
use Rattle.vt_model.specs.inside.Histories.{IsRising}
use Rattle.vt_model.proofs.HistoryLemmas.{rising-same}
use Rattle.vt_seq.specs.declared.entry.Entry.{Entry}
use Rattle.vt_seq.specs.inside.Queue.{inserted, all_inserted}
use Rattle.vt_seq.specs.inside.Entries.{entry_cmp, events_in, in_order, count_key, AreApart, IsLeastEntry, IsQueue}
use Rattle.vt_seq.proofs.InsertedLemmas.{inserted-rising, inserted-sum, all_inserted-among, among-all_inserted}
use Rattle.vt_seq.proofs.StepLemmas.{among-at}

-- ---- how keys compare

-- a key that is before another compares as less
pub less-key : (a b : Key) → KeyBefore a b → key_cmp a b ≡ Less
less-key a b (inl l) = sym (λ j. ordering_then (nat_cmp_is a.time b.time Less l j) (ordering_then (nat_cmp a.source b.source) (nat_cmp a.number b.number)))
less-key a b (inr h) = elim h.1 [
  | inl l ↦ sym (λ j. ordering_then (nat_cmp_is a.time b.time Equal h.0 j) (ordering_then (nat_cmp_is a.source b.source Less l j) (nat_cmp a.number b.number)))
  | inr k ↦ sym (λ j. ordering_then (nat_cmp_is a.time b.time Equal h.0 j) (ordering_then (nat_cmp_is a.source b.source Equal k.0 j) (nat_cmp_is a.number b.number Less k.1 j)))
]

-- a key that is after another isn't before it
not-before : (a b : Key) → (KeyBefore a b → ⊥) → key_before a b ≡ false
not-before a b never = elim (cases_Bool (key_before a b)) [ inl y ↦ absurd (never (key_before-true a b y)) | inr y ↦ y ]

pub not-before-trans : (a b c : Key) → (KeyBefore a b → ⊥) → (KeyBefore b c → ⊥) → KeyBefore a c → ⊥
not-before-trans a b c ab bc ac = elim (key-total a b) [
  | inl h ↦ ab h
  | inr u ↦ elim u [ inl same ↦ bc (subst (λ (k : Key). KeyBefore k c) same ac) | inr ba ↦ bc (key-transitive b a c ba ac) ]
]

-- ---- what a result's test tells

pub refused-kept : {V E A : Type 0} (r : Result V E) → true ≡ is_err r → IfErr r (λ _. A) → A
refused-kept (Ok v) refused a = absurd (cc)
refused-kept (Err e) refused a = a

pub done-put : {V E A : Type 0} (r : Result V E) → false ≡ is_err r → IfOk r (λ _. A) → A
done-put (Ok v) done a = a
done-put (Err e) done a = absurd (cc)

module _ {P : Type 0} where
  -- ---- the order in which events are inserted

  swap : (e d : Sent P) (xs : List (Sent P)) → KeyBefore e.key d.key → inserted e (inserted d xs) ≡ inserted d (inserted e xs)
  swap e d xs h = go xs where
    y : key_before e.key d.key ≡ true
    y = before-key_before e.key d.key h

    n : key_before d.key e.key ≡ false
    n = not-before d.key e.key (key-asymmetric e.key d.key h)

    go : (xs : List (Sent P)) → inserted e (inserted d xs) ≡ inserted d (inserted e xs)
    go [] = rw y (rw n refl)
    go (x ∷ xs) =
        elim (cases_Bool (key_before d.key x.key)) [
          | inl z ↦
              let w : key_before e.key x.key ≡ true = before-key_before e.key x.key (key-transitive e.key d.key x.key h (key_before-true d.key x.key z)) in
              rw z (rw w (rw z (rw y (rw n refl))))
          | inr z ↦ elim (cases_Bool (key_before e.key x.key)) [ inl w ↦ rw z (rw w (rw z (rw n refl))) | inr w ↦ rw z (rw w (rw z (ap (λ ys. x ∷ ys) (go xs)))) ]
        ]

  -- two events of different keys are inserted in either order
  either_order : (e d : Sent P) (xs : List (Sent P)) → (d.key ≡ e.key → ⊥) → inserted e (inserted d xs) ≡ inserted d (inserted e xs)
  either_order e d xs apart = elim (key-total e.key d.key) [
    | inl b ↦ swap e d xs b
    | inr u ↦ elim u [ inl same ↦ absurd (apart (sym same)) | inr b ↦ sym (swap d e xs b) ]
  ]

  -- an event of another key than these is inserted before them or after them
  past : (e : Sent P) (es ds : List (Sent P)) → ((d : Sent P) → Among d es → d.key ≡ e.key → ⊥) → all_inserted es (inserted e ds) ≡ inserted e (all_inserted es ds)
  past e [] ds apart = refl
  past e (d ∷ es) ds apart = ap (all_inserted es) (sym (either_order e d ds (apart d (inl refl)))) ∙ past e es (inserted d ds) (λ f m. apart f (inr m))

  -- events of which none is before the first of a list leave it first
  all_later : (e : Sent P) (es ds : List (Sent P)) → ((d : Sent P) → Among d es → KeyBefore d.key e.key → ⊥) → all_inserted es (e ∷ ds) ≡ e ∷ all_inserted es ds
  all_later e [] ds h = refl
  all_later e (d ∷ es) ds h = rw (not-before d.key e.key (h d (inl refl))) (all_later e es (inserted d ds) (λ f m. h f (inr m)))

  -- ---- events of different keys

  abbrev one_held : Key → Sent P → ℕ
  one_held k e = if key_same e.key k then 1 else 0

  held-one : (k : Key) (e : Sent P) → e.key ≡ k → one_held k e ≡ 1
  held-one k e same = ap (λ (b : Bool). if b then 1 else 0) (ap (λ (l : Key). key_same l k) same ∙ same-key_same k)

  -- an event that is among others is held
  some-held : (k : Key) (d : Sent P) (es : List (Sent P)) → Among d es → d.key ≡ k → 1 ≤ count_key k es
  some-held k d [] m same = absurd m
  some-held k d (e ∷ es) (inl at) same =
      let one : one_held k e ≡ 1 = held-one k e (ap (λ (x : Sent P). x.key) (sym at) ∙ same) in
      let both : count_key k (e ∷ es) ≡ one_held k e + count_key k es = sum_by-cons (one_held k) e es in omega (arith, one, both)
  some-held k d (e ∷ es) (inr m) same =
      let more : 1 ≤ count_key k es = some-held k d es m same in
      let both : count_key k (e ∷ es) ≡ one_held k e + count_key k es = sum_by-cons (one_held k) e es in omega (arith, more, both)

  -- events of different keys, inserted among others, rise
  rising-apart : (es ds : List (Sent P)) → IsRising ds → ((k : Key) → count_key k es + count_key k ds ≤ 1) → IsRising (all_inserted es ds)
  rising-apart [] ds r apart = r
  rising-apart (e ∷ es) ds r apart =
      let once : IsRising (inserted e ds) = inserted-rising e ds r (λ d m same.
      let there : 1 ≤ count_key e.key ds = some-held e.key d ds m same in
      let here : one_held e.key e ≡ 1 = held-one e.key e refl in
      let both : count_key e.key (e ∷ es) ≡ one_held e.key e + count_key e.key es = sum_by-cons (one_held e.key) e es in
      omega (arith, there, here, both, apart e.key)) in
      rising-apart es (inserted e ds) once (λ k.
      let both : count_key k (e ∷ es) ≡ one_held k e + count_key k es = sum_by-cons (one_held k) e es in
      let put : count_key k (inserted e ds) ≡ one_held k e + count_key k ds = inserted-sum (one_held k) e ds in
      omega (arith, both, put, apart k))

  rising-all : (es : List (Sent P)) → AreApart es → IsRising (all_inserted es [])
  rising-all es apart = rising-apart es [] tt (λ k. let a : count_key k es ≤ 1 = apart k in omega (arith, a))

  among-contains : (d : Sent P) (es : List (Sent P)) → Among d es → Contains es d
  among-contains d [] m = absurd m
  among-contains d (e ∷ es) (inl at) = (0, (let z : 0 < length (e ∷ es) = omega arith in z), sym at)
  among-contains d (e ∷ es) (inr m) = let r = among-contains d es m in let k : ℕ = r.0 in let less : k < length es = r.1 in (suc k, (let z : suc k < length (e ∷ es) = omega (arith, less) in z), r.2)

  pub among-permuted : (xs ys : List (Sent P)) → IsPermutation xs ys → (d : Sent P) → Among d xs → Among d ys
  among-permuted xs ys h d m = let r = Contains-permutation xs ys d h (among-contains d xs m) in subst (λ x. Among x ys) r.2 (among-at ys r.0 d r.1)

  apart-permuted : (xs ys : List (Sent P)) → IsPermutation xs ys → AreApart xs → AreApart ys
  apart-permuted xs ys h apart k = let same : count_key k ys ≡ count_key k xs = sum_by-IsPermutation (one_held k) xs ys h in let a : count_key k xs ≤ 1 = apart k in omega (arith, same, a)

  -- the same events in another order are the same in the order of their keys
  same-order : (xs ys : List (Sent P)) → IsPermutation xs ys → AreApart xs → all_inserted xs [] ≡ all_inserted ys []
  same-order xs ys h apart =
      rising-same (all_inserted xs []) (all_inserted ys []) (rising-all xs apart) (rising-all ys (apart-permuted xs ys h apart))
      (λ d m. among-all_inserted ys [] d (inl (among-permuted xs ys h d (from xs d m))))
      (λ d m. among-all_inserted xs [] d (inl (among-permuted ys xs (IsPermutation-sym xs ys h) d (from ys d m)))) where
        from : (es : List (Sent P)) (d : Sent P) → Among d (all_inserted es []) → Among d es
        from es d m = elim (all_inserted-among es [] d m) [ inl a ↦ a | inr never ↦ absurd never ]

  -- ---- entries

  permuted : (xs ys : List (Entry P)) → IsPermutation xs ys → IsPermutation (events_in xs) (events_in ys)
  permuted xs ys h = IsPermutation-map (λ (e : Entry P). e.event) xs ys h

  pub least-permuted : (x : Entry P) (xs ys : List (Entry P)) → IsPermutation xs ys → IsLeastEntry x xs → IsLeastEntry x ys
  least-permuted x xs ys h least d m = least d (among-permuted (events_in ys) (events_in xs) (IsPermutation-sym (events_in xs) (events_in ys) (permuted xs ys h)) d m)

  pub least-append : (x : Entry P) (xs ys : List (Entry P)) → IsLeastEntry x xs → IsLeastEntry x ys → IsLeastEntry x (xs ++ ys)
  least-append x xs ys a b d m = elim (among-append d (events_in xs) (events_in ys) (subst (Among d) (map-append (λ (e : Entry P). e.event) xs ys) m)) [ inl n ↦ a d n | inr n ↦ b d n ]

  -- no key is before that of an entry that is an upper bound
  pub top-least : (x : Entry P) (xs : List (Entry P)) → IsUpperBound entry_cmp x xs → IsLeastEntry x xs
  top-least x [] h d m before = absurd m
  top-least x (y ∷ ys) h d (inl at) before =
      let less : is_lt (entry_cmp x y) ≡ true = ap is_lt (less-key y.event.key x.event.key (subst (λ (e : Sent P). KeyBefore e.key x.event.key) at before)) in
      let both : true ≡ false = sym less ∙ h.0 in absurd (cc)
  top-least x (y ∷ ys) h d (inr m) before = top-least x ys h.1 d m before

  -- none of these events has a key
  none-held : (k : Key) (es : List (Sent P)) → ((d : Sent P) → Among d es → d.key ≡ k → ⊥) → count_key k es ≡ 0
  none-held k [] h = refl
  none-held k (e ∷ es) h =
      let rest : count_key k es ≡ 0 = none-held k es (λ d m. h d (inr m)) in
      let both : count_key k (e ∷ es) ≡ one_held k e + count_key k es = sum_by-cons (one_held k) e es in
      elim (cases_Bool (key_same e.key k)) [
        | inl y ↦ absurd (h e (inl refl) (key_same-true e.key k y))
        | inr y ↦ let one : one_held k e ≡ 0 = ap (λ (b : Bool). if b then 1 else 0) y in omega (arith, rest, both, one)
      ]

  -- with an event of another key than these, they still have different keys
  apart-more : (e : Sent P) (es : List (Sent P)) → AreApart es → ((d : Sent P) → Among d es → d.key ≡ e.key → ⊥) → AreApart (e ∷ es)
  apart-more e es apart new k =
      let both : count_key k (e ∷ es) ≡ one_held k e + count_key k es = sum_by-cons (one_held k) e es in
      let few : count_key k es ≤ 1 = apart k in
      elim (cases_Bool (key_same e.key k)) [
        | inl y ↦
            let one : one_held k e ≡ 1 = ap (λ (b : Bool). if b then 1 else 0) y in
            let none : count_key k es ≡ 0 = none-held k es (λ d m same. new d m (same ∙ sym (key_same-true e.key k y))) in
            omega (arith, both, one, none)
        | inr y ↦ let one : one_held k e ≡ 0 = ap (λ (b : Bool). if b then 1 else 0) y in omega (arith, both, one, few)
      ]

  -- the least entry is the first, and the others come after it
  least-first : (x : Entry P) (xs ys : List (Entry P)) → AreApart (events_in xs) → IsPermutation xs (x ∷ ys) → IsLeastEntry x xs → in_order xs ≡ x.event ∷ in_order ys
  least-first x xs ys apart h least =
      same-order (events_in xs) (x.event ∷ events_in ys) (permuted xs (x ∷ ys) h) apart
      ∙ all_later x.event (events_in ys) [] (λ d m. least-permuted x xs (x ∷ ys) h least d (inr m))

  pub first-event : (x : Entry P) (xs ys : List (Entry P)) → AreApart (events_in xs) → IsPermutation xs (x ∷ ys) → IsLeastEntry x xs → slice_get (in_order xs) 0 ≡ Some x.event
  first-event x xs ys apart h least = ap (λ (es : List (Sent P)). slice_get es 0) (least-first x xs ys apart h least)

  -- without the least entry there are the events after the first
  pub popped : (x : Entry P) (xs ys : List (Entry P)) → AreApart (events_in xs) → IsPermutation xs (x ∷ ys) → IsLeastEntry x xs → AreApart (events_in ys) × (in_order ys ≡ drop 1 (in_order xs))
  popped x xs ys apart h least =
      let both : AreApart (x.event ∷ events_in ys) = apart-permuted (events_in xs) (x.event ∷ events_in ys) (permuted xs (x ∷ ys) h) apart in (
        λ k. let few : count_key k (x.event ∷ events_in ys) ≤ 1 = both k in let sum : count_key k (x.event ∷ events_in ys) ≡ one_held k x.event + count_key k (events_in ys) = sum_by-cons (one_held k) x.event (events_in ys) in omega (arith, few, sum),
        sym (ap (drop 1) (least-first x xs ys apart h least)),
      )

  -- with one more entry there is that one's event in its place
  pub pushed : (x : Entry P) (xs ys : List (Entry P)) → AreApart (events_in xs) → IsPermutation (x ∷ xs) ys → ((d : Sent P) → Among d (in_order xs) → d.key ≡ x.event.key → ⊥) → AreApart (events_in ys) × (in_order ys ≡ inserted x.event (in_order xs))
  pushed x xs ys apart h new =
      let moved : IsPermutation (x.event ∷ events_in xs) (events_in ys) = permuted (x ∷ xs) ys h in
      let other : (d : Sent P) → Among d (events_in xs) → d.key ≡ x.event.key → ⊥ = λ d m. new d (among-all_inserted (events_in xs) [] d (inl m)) in
      let both : AreApart (x.event ∷ events_in xs) = apart-more x.event (events_in xs) apart other in (
        apart-permuted (x.event ∷ events_in xs) (events_in ys) moved both,
        sym (same-order (x.event ∷ events_in xs) (events_in ys) moved both) ∙ past x.event (events_in xs) [] other,
      )

  -- the same entries in another order
  pub reordered : (xs ys : List (Entry P)) → AreApart (events_in xs) → IsPermutation xs ys → AreApart (events_in ys) × (in_order ys ≡ in_order xs)
  reordered xs ys apart h = (apart-permuted (events_in xs) (events_in ys) (permuted xs ys h) apart, sym (same-order (events_in xs) (events_in ys) (permuted xs ys h) apart))

  -- ---- entries, and others

  pub in-near : (x : Entry P) (near left far : List (Entry P)) → IsPermutation near (x ∷ left) → IsPermutation (near ++ far) (x ∷ (left ++ far))
  in-near x near left far h = IsPermutation-append_left far near (x ∷ left) h

  pub in-far : (x : Entry P) (near far left : List (Entry P)) → IsPermutation far (x ∷ left) → IsPermutation (near ++ far) (x ∷ (near ++ left))
  in-far x near far left h = IsPermutation-trans (near ++ far) (near ++ x ∷ left) (x ∷ (near ++ left)) (IsPermutation-append_right near far (x ∷ left) h) (IsPermutation-middle near x left)

  pub least-none : (x : Entry P) (xs : List (Entry P)) → xs ≡ [] → IsLeastEntry x xs
  least-none x xs empty d m = absurd (subst (λ (ys : List (Entry P)). Among d (events_in ys)) empty m)

  -- an entry that is least among those left is least
  pub least-popped : (x : Entry P) (xs ys : List (Entry P)) → IsPermutation xs (x ∷ ys) → IsLeastEntry x ys → IsLeastEntry x xs
  least-popped x xs ys h least = least-permuted x (x ∷ ys) xs (IsPermutation-sym xs (x ∷ ys) h) (λ d m before. elim m [
    | inl at ↦ key-irreflexive x.event.key (subst (λ (e : Sent P). KeyBefore e.key x.event.key) at before)
    | inr n ↦ least d n before
  ])

  -- an entry of entries isn't before their least
  pub among-least : (x y : Entry P) (xs others : List (Entry P)) → IsLeastEntry x xs → IsPermutation xs (y ∷ others) → KeyBefore y.event.key x.event.key → ⊥
  among-least x y xs others least h = least-permuted x xs (y ∷ others) h least y.event (inl refl)

  -- the top of entries is one
  pub top-same : (xs : List (Entry P)) (x y : Entry P) → 0 < length xs → x ≡ slice_index_or xs 0 x → y ≡ slice_index_or xs 0 y → x ≡ y
  top-same [] x y some p q = absurd (omega (arith, some))
  top-same (z ∷ xs) x y some p q = p ∙ sym q

  pub none-left : (y : Entry P) (xs others : List (Entry P)) → IsPermutation xs (y ∷ others) → xs ≡ [] → ⊥
  none-left y xs others h none = subst (λ (l : List (Entry P)). Among y.event (events_in l)) none (among-permuted (y.event ∷ events_in others) (events_in xs) (IsPermutation-sym (events_in xs) (y.event ∷ events_in others) (permuted xs (y ∷ others) h)) y.event (inl refl))

  pub top-out : (xs : List (Entry P)) (y : Entry P) → 0 < length xs → y ≡ slice_index_or xs 0 y → (others : List (Entry P)) × IsPermutation xs (y ∷ others)
  top-out [] y some at = absurd (omega (arith, some))
  top-out (z ∷ xs) y some at = (xs, subst (λ (x : Entry P). IsPermutation (z ∷ xs) (x ∷ xs)) (sym at) (IsPermutation-refl (z ∷ xs)))

  -- ---- the first of two parts is removed

  pub near-removed : (x : Entry P) (near left far : List (Entry P)) → IsQueue near far → IsPermutation near (x ∷ left) → IsLeastEntry x near → IsLeastEntry x far → IsQueue left far × (in_order (left ++ far) ≡ drop 1 (in_order (near ++ far)))
  near-removed x near left far q h least other =
      let p = popped x (near ++ far) (left ++ far) q.apart (in-near x near left far h) (least-append x near far least other) in
      (record { heap = q.heap; apart = p.0 }, p.1)

  pub far-removed : (x : Entry P) (near far left : List (Entry P)) → IsQueue near far → IsPermutation far (x ∷ left) → IsHeap entry_cmp left → IsLeastEntry x near → IsLeastEntry x far → IsQueue near left × (in_order (near ++ left) ≡ drop 1 (in_order (near ++ far)))
  far-removed x near far left q h heap other least =
      let p = popped x (near ++ far) (near ++ left) q.apart (in-far x near far left h) (least-append x near far other least) in
      (record { heap = heap; apart = p.0 }, p.1)

  -- ---- an entry is put into one of two parts

  -- with one more entry, in either part, there is that one's event in its place
  abbrev pub IsPutAmong : Entry P → List (Entry P) → List (Entry P) → List (Entry P) → List (Entry P) → Type 0
  IsPutAmong x near far more others = IsQueue more others × (in_order (more ++ others) ≡ inserted x.event (in_order (near ++ far)))

  pub near-put : (x : Entry P) (near far more others : List (Entry P)) → IsQueue near far → IsPermutation (x ∷ near) more → others ≡ far
      → ((d : Sent P) → Among d (in_order (near ++ far)) → d.key ≡ x.event.key → ⊥) → IsPutAmong x near far more others
  near-put x near far more others q h same new =
      let p = pushed x (near ++ far) (more ++ far) q.apart (IsPermutation-append_left far (x ∷ near) more h) new in
      let put : IsPutAmong x near far more far = (record { heap = q.heap; apart = p.0 }, p.1) in
      subst (λ (l : List (Entry P)). IsPutAmong x near far more l) (sym same) put

  pub far-put : (x : Entry P) (near far more others : List (Entry P)) → IsQueue near far → IsPermutation (x ∷ far) others → IsHeap entry_cmp others → more ≡ near
      → ((d : Sent P) → Among d (in_order (near ++ far)) → d.key ≡ x.event.key → ⊥) → IsPutAmong x near far more others
  far-put x near far more others q h heap same new =
      let out = in-far x near others far (IsPermutation-sym (x ∷ far) others h) in
      let p = pushed x (near ++ far) (near ++ others) q.apart (IsPermutation-sym (near ++ others) (x ∷ (near ++ far)) out) new in
      let put : IsPutAmong x near far near others = (record { heap = heap; apart = p.0 }, p.1) in
      subst (λ (l : List (Entry P)). IsPutAmong x near far l others) (sym same) put

  -- near entries in another order
  pub near-reordered : (near far same : List (Entry P)) → IsQueue near far → IsPermutation near same → IsQueue same far × (in_order (same ++ far) ≡ in_order (near ++ far))
  near-reordered near far same q h =
      let p = reordered (near ++ far) (same ++ far) q.apart (IsPermutation-append_left far near same h) in
      (record { heap = q.heap; apart = p.0 }, p.1)
