-- There is one history: two of them have the same events below the time.
use Rattle.std.proofs.Common.{◌≡◌, ℕ, zero, suc, ◌<◌, ◌≤◌, inl, inr, List, [], ◌∷◌, Bool, true, false, nat_lt, if◌then◌else◌, refl, sym, subst, ap, ◌∙◌, arith}
use Rattle.std.proofs.lemmas.Bool.{lt-ltb, le-ltb, ltb-true, cases_lt}
use Rattle.vt_key.specs.promise.Keys.{Key}
use Rattle.vt_key.specs.promise.Order.{KeyBefore}
use Rattle.vt_key.specs.promise.Times.{time_before}
use Rattle.vt_key.specs.promise.Lists.{Among}
use Rattle.vt_key.proofs.OrderLemmas.{key-irreflexive, key-asymmetric}
use Rattle.vt_key.proofs.ListLemmas.{among-left, among-right, among-append, among-filter, filter-among, every-among, rising-filter}
use Rattle.vt_model.specs.declared.sending.Sent.{Sent}
use Rattle.vt_model.specs.promise.Simulation.{Simulation, Triple}
use Rattle.vt_model.specs.promise.Sequential.{events_before}
use Rattle.vt_model.specs.promise.Histories.{IsLawful}
use Rattle.vt_model.specs.inside.Histories.{AllAfter, IsRising, sends_from, sends_of, IsHistory}

-- what comes after a late key is late
late_key : (a b : Key) (t : ℕ) → KeyBefore a b → t ≤ a.time → t ≤ b.time
late_key a b t h l = grind arith

module _ {P : Type 0} where
  pub after-among : (k : Key) (es : List (Sent P)) (e : Sent P) → AllAfter k es → Among e es → KeyBefore k e.key
  after-among k = every-among (λ e. KeyBefore k e.key)

  -- two rising lists with the same events are one
  pub rising-same : (xs ys : List (Sent P)) → IsRising xs → IsRising ys → ((e : Sent P) → Among e xs → Among e ys) → ((e : Sent P) → Among e ys → Among e xs) → xs ≡ ys
  rising-same [] [] r s f g = refl
  rising-same [] (y ∷ ys) r s f g = absurd (g y (inl refl))
  rising-same (x ∷ xs) [] r s f g = absurd (f x (inl refl))
  rising-same (x ∷ xs) (y ∷ ys) r s f g =
      let same : x ≡ y =
      elim (f x (inl refl)) [
        | inl e ↦ e
        | inr h ↦ elim (g y (inl refl)) [
          | inl e ↦ sym e
          | inr k ↦
              absurd (key-asymmetric y.key x.key (after-among y.key ys x s.0 h) (after-among x.key xs y r.0 k))
        ]
      ] in
      let forth : (e : Sent P) → Among e xs → Among e ys =
      λ e h. elim (f e (inr h)) [
        | inr k ↦ k
        | inl at ↦
            absurd (key-irreflexive x.key (subst (λ (d : Sent P). KeyBefore x.key d.key) (at ∙ sym same) (after-among x.key xs e r.0 h)))
      ] in
      let back : (e : Sent P) → Among e ys → Among e xs =
      λ e h. elim (g e (inr h)) [
        | inr k ↦ k
        | inl at ↦
            absurd (key-irreflexive y.key (subst (λ (d : Sent P). KeyBefore y.key d.key) (at ∙ same) (after-among y.key ys e s.0 h)))
      ] in
      λ i. same i ∷ rising-same xs ys r.1 s.1 forth back i

  -- a filter by times, at an event before the time and at one that isn't
  before-yes : (t : ℕ) (x : Sent P) (xs : List (Sent P)) → x.key.time < t → events_before t (x ∷ xs) ≡ x ∷ events_before t xs
  before-yes t x xs h = let e : nat_lt x.key.time t ≡ true = lt-ltb _ _ h in ap (λ (b : Bool). if b then (x ∷ events_before t xs) else events_before t xs) e

  before-no : (t : ℕ) (x : Sent P) (xs : List (Sent P)) → t ≤ x.key.time → events_before t (x ∷ xs) ≡ events_before t xs
  before-no t x xs h = let e : nat_lt x.key.time t ≡ false = le-ltb _ _ h in ap (λ (b : Bool). if b then (x ∷ events_before t xs) else events_before t xs) e

  pub among-before : (t : ℕ) (e : Sent P) (xs : List (Sent P)) → Among e xs → e.key.time < t → Among e (events_before t xs)
  among-before t e xs h k = among-filter (λ d. time_before d.key.time t) e xs h (lt-ltb _ _ k)

  pub before-among : (t : ℕ) (e : Sent P) (xs : List (Sent P)) → Among e (events_before t xs) → Among e xs × (e.key.time < t)
  before-among t e xs h = let r = filter-among (λ d. time_before d.key.time t) e xs h in (r.0, ltb-true e.key.time t r.1)

  late-before : (t : ℕ) (k : Key) (xs : List (Sent P)) → t ≤ k.time → AllAfter k xs → events_before t xs ≡ []
  late-before t k [] l a = refl
  late-before t k (x ∷ xs) l a = before-no t x xs (late_key k x.key t a.0 l) ∙ late-before t k xs l a.1

module _ {S P : Type 0} (sim : Simulation S P) (lawful : IsLawful sim) (p : ℕ) (is_process : p < sim.lps) where
  -- late events send late events
  late-sends : (t : ℕ) (k : Key) (s : Triple S) (xs : List (Sent P)) (e : Sent P) → t ≤ k.time → AllAfter k xs → Among e (sends_from sim p s xs) → t < e.key.time
  late-sends t k s [] e l a h = absurd h
  late-sends t k s (x ∷ xs) e l a h =
      elim (among-append e (sim.fire p s x).sends (sends_from sim p (sim.fire p s x).triple xs) h) [
        | inl m ↦
            let u : x.key.time < e.key.time = lawful.later p s x e is_process m in
            let v : t ≤ x.key.time = late_key k x.key t a.0 l in omega arith
        | inr m ↦ late-sends t k (sim.fire p s x).triple xs e l a.1 m
      ]

  -- what is sent until a time was sent by events before it
  pub sends-before : (t : ℕ) (s : Triple S) (xs : List (Sent P)) (e : Sent P) → IsRising xs → e.key.time ≤ t
      → Among e (sends_from sim p s xs) → Among e (sends_from sim p s (events_before t xs))
  sends-before t s [] e r l h = h
  sends-before t s (x ∷ xs) e r l h =
      elim (cases_lt x.key.time t) [
        | inl b ↦ rw (before-yes t x xs b)
            (elim (among-append e (sim.fire p s x).sends (sends_from sim p (sim.fire p s x).triple xs) h) [
              | inl m ↦ among-left e (sim.fire p s x).sends (sends_from sim p (sim.fire p s x).triple (events_before t xs)) m
              | inr m ↦ among-right e (sim.fire p s x).sends (sends_from sim p (sim.fire p s x).triple (events_before t xs)) (sends-before t (sim.fire p s x).triple xs e r.1 l m)
            ])
        | inr b ↦ absurd (elim (among-append e (sim.fire p s x).sends (sends_from sim p (sim.fire p s x).triple xs) h) [
          | inl m ↦ let u : x.key.time < e.key.time = lawful.later p s x e is_process m in omega arith
          | inr m ↦ let u : t < e.key.time = late-sends t x.key (sim.fire p s x).triple xs e b r.0 m in omega arith
        ])
      ]

  -- and all that events before a time send is sent
  pub before-sends : (t : ℕ) (s : Triple S) (xs : List (Sent P)) (e : Sent P) → IsRising xs
      → Among e (sends_from sim p s (events_before t xs)) → Among e (sends_from sim p s xs)
  before-sends t s [] e r h = h
  before-sends t s (x ∷ xs) e r h =
      elim (cases_lt x.key.time t) [
        | inl b ↦
            let k : Among e (sends_from sim p s (x ∷ events_before t xs)) = subst (λ (l : List (Sent P)). Among e (sends_from sim p s l)) (before-yes t x xs b) h in
            elim (among-append e (sim.fire p s x).sends (sends_from sim p (sim.fire p s x).triple (events_before t xs)) k) [
              | inl m ↦ among-left e (sim.fire p s x).sends (sends_from sim p (sim.fire p s x).triple xs) m
              | inr m ↦ among-right e (sim.fire p s x).sends (sends_from sim p (sim.fire p s x).triple xs) (before-sends t (sim.fire p s x).triple xs e r.1 m)
            ]
        | inr b ↦ absurd (subst (λ (l : List (Sent P)). Among e (sends_from sim p s l)) (before-no t x xs b ∙ late-before t x.key xs b r.0) h)
      ]

module _ {S P : Type 0} (sim : Simulation S P) (lawful : IsLawful sim) where
  before-zero : (xs : List (Sent P)) → events_before 0 xs ≡ []
  before-zero [] = refl
  before-zero (x ∷ xs) = let l : 0 ≤ x.key.time = omega arith in before-no 0 x xs l ∙ before-zero xs

  -- an event at most at t of the one history is in the other, where they agree below t
  carried : (below t : ℕ) (lists others : ℕ → List (Sent P)) → IsHistory sim below lists → IsHistory sim below others → t < below
      → ((p : ℕ) → p < sim.lps → events_before t (lists p) ≡ events_before t (others p))
      → (p : ℕ) (e : Sent P) → p < sim.lps → Among e (events_before (suc t) (lists p)) → Among e (events_before (suc t) (others p))
  carried below t lists others h k l agree p e is m =
      let m' = before-among (suc t) e (lists p) m in
      let soon : e.key.time ≤ t = omega (arith, m'.1) in
      let early' : e.key.time < below = omega arith in
      let s = h.sent p e is early' m'.0 in
      let q : ℕ = s.0 in
      let from : Among e (sends_of sim q (others q)) =
      elim (among-append e (sim.start q).sends (sends_from sim q (sim.start q).triple (lists q)) s.2) [
        | inl a ↦ among-left e (sim.start q).sends (sends_from sim q (sim.start q).triple (others q)) a
        | inr a ↦ among-right e (sim.start q).sends (sends_from sim q (sim.start q).triple (others q))
            (before-sends sim lawful q s.1 t (sim.start q).triple (others q) e (k.rising q s.1)
            (subst (λ (l : List (Sent P)). Among e (sends_from sim q (sim.start q).triple l)) (agree q s.1)
            (sends-before sim lawful q s.1 t (sim.start q).triple (lists q) e (h.rising q s.1) soon a)))
      ] in
      let there : Among e (others e.dest) = k.had e early' (q, s.1, from) in
      let here : Among e (others p) = subst (λ (n : ℕ). Among e (others n)) (h.own p e is m'.0) there in
      among-before (suc t) e (others p) here m'.1

  -- two histories have the same events at every time up to their own
  pub one_history : (below : ℕ) (lists others : ℕ → List (Sent P)) → IsHistory sim below lists → IsHistory sim below others
      → (t : ℕ) → t ≤ below → (p : ℕ) → p < sim.lps → events_before t (lists p) ≡ events_before t (others p)
  one_history below lists others h k zero l p is = before-zero (lists p) ∙ sym (before-zero (others p))
  one_history below lists others h k (suc t) l p is =
      let agree : (q : ℕ) → q < sim.lps → events_before t (lists q) ≡ events_before t (others q) =
      λ q d. one_history below lists others h k t (omega arith) q d in
      let sooner : t < below = omega arith in
      rising-same (events_before (suc t) (lists p)) (events_before (suc t) (others p))
      (rising-filter (λ d e. KeyBefore d.key e.key) (λ e. time_before e.key.time (suc t)) (lists p) (h.rising p is)) (rising-filter (λ d e. KeyBefore d.key e.key) (λ e. time_before e.key.time (suc t)) (others p) (k.rising p is))
      (λ e m. carried below t lists others h k sooner agree p e is m)
      (λ e m. carried below t others lists k h sooner (λ q d. sym (agree q d)) p e is m)
