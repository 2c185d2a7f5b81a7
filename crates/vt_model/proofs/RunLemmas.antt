-- The sequential run makes the one history.
use Rattle.std.proofs.Common.{◌≡◌, ℕ, zero, suc, ◌<◌, ◌≤◌, ◌⊎◌, inl, inr, List, [], ◌∷◌, ◌++◌, Bool, true, false, not, ◌&&◌, filter, find, Option, Some, None, nat_eq, flat_map, if◌then◌else◌, refl, sym, subst, ap, ◌∙◌, arith, append_assoc, append-nil, ◌+◌, map}
use Rattle.std.specs.List.{fold, list_all, range_with_len}
use Rattle.std.specs.Option.{option_map_or}
use Rattle.std.proofs.lemmas.Bool.{eqb-true, eq-eqb, cases_Bool}
use Rattle.std.proofs.lemmas.List.Elements.{filter-append}
use Rattle.std.proofs.lemmas.Grind.{flat_map-append}
use Rattle.std.proofs.lemmas.List.FromFn.{map-range_with_len_more}
use Rattle.vt_key.specs.promise.Keys.{Key}
use Rattle.vt_key.specs.promise.Order.{KeyBefore, key_before, key_same}
use Rattle.vt_key.specs.promise.Lists.{Among}
use Rattle.vt_key.proofs.OrderLemmas.{key-transitive, key-total, before-key_before, key_same-true, same-key_same}
use Rattle.vt_key.proofs.ListLemmas.{among-range, range-among, among-flat_map, flat_map-among, among-left, among-right, among-append, among-filter, filter-among, find-among, find-passes, rising-append}
use Rattle.vt_model.specs.declared.sending.Sent.{Sent}
use Rattle.vt_model.specs.promise.Simulation.{Simulation, Triple, after}
use Rattle.vt_model.specs.promise.Sequential.{RunState, events_of, least_event, fired_after, opening, with_event, after_steps}
use Rattle.vt_model.specs.promise.Histories.{AreNumbered, IsLawful}
use Rattle.vt_model.specs.inside.Histories.{IsRising, sends_from, sends_of, IsSent}

-- one number more
pub map-next : {X : Type 0} (f : ℕ → X) (n : ℕ) → map f (range_with_len 0 (n + 1)) ≡ map f (range_with_len 0 n) ++ f n ∷ []
map-next f n = map-range_with_len_more f 0 n n (omega arith)

range_with_len-next : (a n : ℕ) → range_with_len a (suc n) ≡ range_with_len a n ++ (a + n) ∷ []
range_with_len-next a zero = let same : a ≡ a + 0 = omega arith in ap (λ k. k ∷ []) same
range_with_len-next a (suc n) =
    let same : a + 1 + n ≡ a + suc n = omega arith in
    ap (λ ks. a ∷ ks) (range_with_len-next (a + 1) n) ∙ ap (λ k. a ∷ range_with_len (a + 1) n ++ k ∷ []) same

pub range-next : (n : ℕ) → range_with_len 0 (suc n) ≡ range_with_len 0 n ++ n ∷ []
range-next n = let same : 0 + n ≡ n = omega arith in range_with_len-next 0 n ∙ ap (λ k. range_with_len 0 n ++ k ∷ []) same

pub flat-next : {X : Type 0} (f : ℕ → List X) (n : ℕ) → flat_map f (range_with_len 0 (suc n)) ≡ flat_map f (range_with_len 0 n) ++ f n
flat-next {X} f n =
    ap (flat_map f) (range-next n) ∙ flat_map-append f (range_with_len 0 n) (n ∷ []) ∙ ap (λ (l : List X). flat_map f (range_with_len 0 n) ++ l) (append-nil (f n))

module _ {P : Type 0} where
  -- numbers

  numbered-le : (p lo hi : ℕ) (es : List (Sent P)) → AreNumbered p lo hi es → lo ≤ hi
  numbered-le p lo hi [] n = n
  numbered-le p lo hi (e ∷ es) n = let rest : suc e.key.number ≤ hi = numbered-le p (suc e.key.number) hi es n.2 in let low : lo ≤ e.key.number = n.1 in omega arith

  pub numbered-among : (p lo hi : ℕ) (es : List (Sent P)) (e : Sent P) → AreNumbered p lo hi es → Among e es → (e.key.source ≡ p) × (lo ≤ e.key.number) × (e.key.number < hi)
  numbered-among p lo hi [] e n h = absurd h
  numbered-among p lo hi (x ∷ xs) e n (inl at) =
      subst (λ (d : Sent P). (d.key.source ≡ p) × (lo ≤ d.key.number) × (d.key.number < hi)) (sym at) (n.0, n.1, numbered-le p (suc x.key.number) hi xs n.2)
  numbered-among p lo hi (x ∷ xs) e n (inr h) =
      let r = numbered-among p (suc x.key.number) hi xs e n.2 h in
      let low : lo ≤ x.key.number = n.1 in
      let high : suc x.key.number ≤ e.key.number = r.1 in
      (r.0, omega arith, r.2)

  numbered-append : (p lo mid hi : ℕ) (xs ys : List (Sent P)) → AreNumbered p lo mid xs → AreNumbered p mid hi ys → AreNumbered p lo hi (xs ++ ys)
  numbered-append p lo mid hi [] [] n m = let a : lo ≤ mid = n in let b : mid ≤ hi = m in omega arith
  numbered-append p lo mid hi [] (y ∷ ys) n m = let a : lo ≤ mid = n in let b : mid ≤ y.key.number = m.1 in (m.0, omega arith, m.2)
  numbered-append p lo mid hi (x ∷ xs) ys n m = (n.0, n.1, numbered-append p (suc x.key.number) mid hi xs ys n.2 m)

  -- of sends with rising numbers, those of one number are one
  numbered-one : (p lo hi : ℕ) (es : List (Sent P)) (d e : Sent P) → AreNumbered p lo hi es → Among d es → Among e es → d.key.number ≡ e.key.number → d ≡ e
  numbered-one p lo hi [] d e n h k same = absurd h
  numbered-one p lo hi (x ∷ xs) d e n (inl h) (inl k) same = h ∙ sym k
  numbered-one p lo hi (x ∷ xs) d e n (inl h) (inr k) same =
      let r = numbered-among p (suc x.key.number) hi xs e n.2 k in
      let high : suc x.key.number ≤ e.key.number = r.1 in
      let at : d.key.number ≡ x.key.number = ap (λ (y : Sent P). y.key.number) h in
      absurd (omega arith)
  numbered-one p lo hi (x ∷ xs) d e n (inr h) (inl k) same =
      let r = numbered-among p (suc x.key.number) hi xs d n.2 h in
      let high : suc x.key.number ≤ d.key.number = r.1 in
      let at : e.key.number ≡ x.key.number = ap (λ (y : Sent P). y.key.number) k in
      absurd (omega arith)
  numbered-one p lo hi (x ∷ xs) d e n (inr h) (inr k) same = numbered-one p (suc x.key.number) hi xs d e n.2 h k same

  -- lists

  pub filter-yes : (test : Sent P → Bool) (x : Sent P) (xs : List (Sent P)) → test x ≡ true → filter test (x ∷ xs) ≡ x ∷ filter test xs
  filter-yes test x xs e = ap (λ (b : Bool). if b then (x ∷ filter test xs) else filter test xs) e

  pub filter-no : (test : Sent P → Bool) (x : Sent P) (xs : List (Sent P)) → test x ≡ false → filter test (x ∷ xs) ≡ filter test xs
  filter-no test x xs e = ap (λ (b : Bool). if b then (x ∷ filter test xs) else filter test xs) e

  -- where each one passes, all are kept
  pub filter-all : (test : Sent P → Bool) (xs : List (Sent P)) → ((d : Sent P) → Among d xs → test d ≡ true) → filter test xs ≡ xs
  filter-all test [] all = refl
  filter-all test (x ∷ xs) all = filter-yes test x xs (all x (inl refl)) ∙ ap (λ (l : List (Sent P)). x ∷ l) (filter-all test xs (λ d m. all d (inr m)))

  pub find-none : (test : Sent P → Bool) (xs : List (Sent P)) (e : Sent P) → find test xs ≡ None → Among e xs → test e ≡ false
  find-none test [] e h m = absurd m
  find-none test (x ∷ xs) e h m =
      elim (cases_Bool (test x)) [
        | inl y ↦
            let k : Some x ≡ None = sym (ap (λ (b : Bool). if b then Some x else find test xs) y) ∙ h in absurd (cc)
        | inr y ↦
            let k : find test xs ≡ None = sym (ap (λ (b : Bool). if b then Some x else find test xs) y) ∙ h in
            elim m [ inl at ↦ ap test at ∙ y | inr n ↦ find-none test xs e k n ]
      ]

  all-among : (test : Sent P → Bool) (xs : List (Sent P)) (e : Sent P) → list_all test xs ≡ true → Among e xs → test e ≡ true
  all-among test [] e h m = absurd m
  all-among test (x ∷ xs) e h m =
      elim (cases_Bool (test x)) [
        | inl y ↦
            let k : list_all test xs ≡ true = sym (ap (λ (b : Bool). b && list_all test xs) y) ∙ h in
            elim m [ inl at ↦ ap test at ∙ y | inr n ↦ all-among test xs e k n ]
        | inr y ↦ let k : false ≡ true = sym (ap (λ (b : Bool). b && list_all test xs) y) ∙ h in absurd (cc)
      ]

  rising-snoc : (xs : List (Sent P)) (e : Sent P) → IsRising xs → ((d : Sent P) → Among d xs → KeyBefore d.key e.key) → IsRising (xs ++ e ∷ [])
  rising-snoc xs e r before =
      rising-append (λ (c d : Sent P). KeyBefore c.key d.key) xs (e ∷ []) r (tt, tt)
      (λ c d m n. elim n [ inl at ↦ subst (λ (x : Sent P). KeyBefore c.key x.key) (sym at) (before c m) | inr never ↦ absurd never ])

  -- the events of a process, with one more
  pub events_of-same : (p : ℕ) (xs : List (Sent P)) (e : Sent P) → e.dest ≡ p → events_of p (xs ++ e ∷ []) ≡ events_of p xs ++ e ∷ []
  events_of-same p xs e h = filter-append (λ d. nat_eq d.dest p) xs (e ∷ []) ∙ ap (λ (l : List (Sent P)). events_of p xs ++ l) (filter-yes (λ d. nat_eq d.dest p) e [] (eq-eqb e.dest p h))

  pub events_of-other : (p : ℕ) (xs : List (Sent P)) (e : Sent P) → nat_eq e.dest p ≡ false → events_of p (xs ++ e ∷ []) ≡ events_of p xs
  events_of-other p xs e h = filter-append (λ d. nat_eq d.dest p) xs (e ∷ []) ∙ ap (λ (l : List (Sent P)). events_of p xs ++ l) (filter-no (λ d. nat_eq d.dest p) e [] h) ∙ append-nil (events_of p xs)

  -- the least event is in the set, and none is before it
  pub least-found : (es : List (Sent P)) (e : Sent P) → least_event es ≡ Some e → Among e es × ((d : Sent P) → Among d es → KeyBefore d.key e.key → ⊥)
  least-found es e h =
      let first = λ (x : Sent P). list_all (λ d. not (key_before d.key x.key)) es in (
        find-among first es e h,
        λ d m before.
            let t : not (key_before d.key e.key) ≡ true = all-among (λ d. not (key_before d.key e.key)) es d (find-passes first es e h) m in
            let u : key_before d.key e.key ≡ true = before-key_before d.key e.key before in
            let v : false ≡ true = sym (ap not u) ∙ t in absurd (cc),
      )

-- where a process stands after these events, from where it stood
abbrev pub after_from : {S P : Type 0} → Simulation S P → ℕ → Triple S → List (Sent P) → Triple S
after_from sim p t es = fold (λ t e. (sim.fire p t e).triple) t es

-- what holds at the opening, and after each event if it held before, holds wherever a run stands
pub each_step : {S P : Type 0} (sim : Simulation S P) (Q : RunState P → Type 0) → Q (opening sim)
    → ((n : ℕ) (e : Sent P) → least_event (after_steps sim n).pending ≡ Some e → Q (after_steps sim n) → Q (with_event sim (after_steps sim n) e)) → (n : ℕ) → Q (after_steps sim n)
each_step sim Q opens goes zero = opens
each_step {P = P} sim Q opens goes (suc n) = go (each_step sim Q opens goes n) (least_event now.pending) refl where
  now : RunState P
  now = after_steps sim n

  go : Q now → (o : Option (Sent P)) → least_event now.pending ≡ o → Q (option_map_or (with_event sim now) o now)
  go held None none = held
  go held (Some e) found = goes n e found held

module _ {S P : Type 0} (sim : Simulation S P) (lawful : IsLawful sim) where
  -- after and sends, with one more event
  pub after-snoc : (p : ℕ) (t : Triple S) (xs : List (Sent P)) (e : Sent P) → after_from sim p t (xs ++ e ∷ []) ≡ (sim.fire p (after_from sim p t xs) e).triple
  after-snoc p t [] e = refl
  after-snoc p t (x ∷ xs) e = after-snoc p (sim.fire p t x).triple xs e

  sends-snoc : (p : ℕ) (t : Triple S) (xs : List (Sent P)) (e : Sent P) → sends_from sim p t (xs ++ e ∷ []) ≡ sends_from sim p t xs ++ (sim.fire p (after_from sim p t xs) e).sends
  sends-snoc p t [] e = append-nil (sim.fire p t e).sends
  sends-snoc p t (x ∷ xs) e = ap (λ (l : List (Sent P)). (sim.fire p t x).sends ++ l) (sends-snoc p (sim.fire p t x).triple xs e) ∙ sym (append_assoc (sim.fire p t x).sends (sends_from sim p (sim.fire p t x).triple xs) (sim.fire p (after_from sim p (sim.fire p t x).triple xs) e).sends)

  numbered-from : (p : ℕ) → p < sim.lps → (t : Triple S) (xs : List (Sent P)) → AreNumbered p t.number (after_from sim p t xs).number (sends_from sim p t xs)
  numbered-from p is t [] = let e : t.number ≤ t.number = omega arith in e
  numbered-from p is t (x ∷ xs) =
      numbered-append p t.number (sim.fire p t x).triple.number (after_from sim p (sim.fire p t x).triple xs).number (sim.fire p t x).sends (sends_from sim p (sim.fire p t x).triple xs)
      (lawful.numbered p t x is) (numbered-from p is (sim.fire p t x).triple xs)

  pub numbered-all : (p : ℕ) → p < sim.lps → (xs : List (Sent P)) → AreNumbered p 0 (after sim p xs).number (sends_of sim p xs)
  numbered-all p is xs =
      numbered-append p 0 (sim.start p).triple.number (after sim p xs).number (sim.start p).sends (sends_from sim p (sim.start p).triple xs) (lawful.numbered_start p is) (numbered-from p is (sim.start p).triple xs)

  -- two sent events of one key are one event
  pub one_sent : (lists : ℕ → List (Sent P)) (d e : Sent P) → IsSent sim lists d → IsSent sim lists e → d.key ≡ e.key → d ≡ e
  one_sent lists d e h k same =
      let nd = numbered-among h.0 0 (after sim h.0 (lists h.0)).number (sends_of sim h.0 (lists h.0)) d (numbered-all h.0 h.1 (lists h.0)) h.2 in
      let ne = numbered-among k.0 0 (after sim k.0 (lists k.0)).number (sends_of sim k.0 (lists k.0)) e (numbered-all k.0 k.1 (lists k.0)) k.2 in
      let source : k.0 ≡ h.0 = sym ne.0 ∙ sym (ap (λ (x : Key). x.source) same) ∙ nd.0 in
      let k' : Among e (sends_of sim h.0 (lists h.0)) = subst (λ (q : ℕ). Among e (sends_of sim q (lists q))) source k.2 in
      numbered-one h.0 0 (after sim h.0 (lists h.0)).number (sends_of sim h.0 (lists h.0)) d e (numbered-all h.0 h.1 (lists h.0)) h.2 k' (ap (λ (x : Key). x.number) same)

  -- receivers of sent events are known
  known-from : (p : ℕ) → p < sim.lps → (t : Triple S) (xs : List (Sent P)) (d : Sent P) → Among d (sends_from sim p t xs) → (d.dest < sim.lps) × (d.key.time < sim.end)
  known-from p is t [] d h = absurd h
  known-from p is t (x ∷ xs) d h =
      elim (among-append d (sim.fire p t x).sends (sends_from sim p (sim.fire p t x).triple xs) h) [ inl m ↦ (lawful.known p t x d is m, lawful.ends p t x d is m) | inr m ↦ known-from p is (sim.fire p t x).triple xs d m ]

  pub known_sent : (lists : ℕ → List (Sent P)) (d : Sent P) → IsSent sim lists d → (d.dest < sim.lps) × (d.key.time < sim.end)
  known_sent lists d h =
      elim (among-append d (sim.start h.0).sends (sends_from sim h.0 (sim.start h.0).triple (lists h.0)) h.2) [ inl m ↦ (lawful.known_start h.0 d h.1 m, lawful.ends_start h.0 d h.1 m) | inr m ↦ known-from h.0 h.1 (sim.start h.0).triple (lists h.0) d m ]

  -- what holds wherever a run stands
  abbrev pub lists_of : List (Sent P) → ℕ → List (Sent P)
  lists_of executed q = events_of q executed

  pub record IsReached (x : RunState P) : Type 0 where
    pub made : (e : Sent P) → Among e x.pending ⊎ Among e x.executed → IsSent sim (lists_of x.executed) e
    pub had : (e : Sent P) → IsSent sim (lists_of x.executed) e → Among e x.pending ⊎ Among e x.executed
    pub rising : IsRising x.executed
    pub order : (d e : Sent P) → Among d x.executed → Among e x.pending → KeyBefore d.key e.key

  -- the sends of a process, with one more event of its own
  sends_of-same : (q : ℕ) (xs : List (Sent P)) (e : Sent P) → e.dest ≡ q
      → sends_of sim q (events_of q (xs ++ e ∷ [])) ≡ sends_of sim q (events_of q xs) ++ (sim.fire q (after sim q (events_of q xs)) e).sends
  sends_of-same q xs e h =
      ap (sends_of sim q) (events_of-same q xs e h)
      ∙ ap (λ (l : List (Sent P)). (sim.start q).sends ++ l) (sends-snoc q (sim.start q).triple (events_of q xs) e)
      ∙ sym (append_assoc (sim.start q).sends (sends_from sim q (sim.start q).triple (events_of q xs)) (sim.fire q (after sim q (events_of q xs)) e).sends)

  sends_of-other : (q : ℕ) (xs : List (Sent P)) (e : Sent P) → nat_eq e.dest q ≡ false → sends_of sim q (events_of q (xs ++ e ∷ [])) ≡ sends_of sim q (events_of q xs)
  sends_of-other q xs e h = ap (sends_of sim q) (events_of-other q xs e h)

  sent-more : (xs : List (Sent P)) (e d : Sent P) → IsSent sim (lists_of xs) d → IsSent sim (lists_of (xs ++ e ∷ [])) d
  sent-more xs e d h =
      elim (cases_Bool (nat_eq e.dest h.0)) [
        | inl y ↦
            let at : e.dest ≡ h.0 = eqb-true e.dest h.0 y in
            (h.0, h.1, subst (Among d) (sym (sends_of-same h.0 xs e at)) (among-left d (sends_of sim h.0 (events_of h.0 xs)) (sim.fire h.0 (after sim h.0 (events_of h.0 xs)) e).sends h.2))
        | inr y ↦ (h.0, h.1, subst (Among d) (sym (sends_of-other h.0 xs e y)) h.2)
      ]

  sent-new : (xs : List (Sent P)) (e d : Sent P) → e.dest < sim.lps → Among d (fired_after sim xs e).sends → IsSent sim (lists_of (xs ++ e ∷ [])) d
  unfolding fired_after
  sent-new xs e d is m =
      (e.dest, is, subst (Among d) (sym (sends_of-same e.dest xs e refl)) (among-right d (sends_of sim e.dest (events_of e.dest xs)) (sim.fire e.dest (after sim e.dest (events_of e.dest xs)) e).sends m))

  sent-split : (xs : List (Sent P)) (e d : Sent P) → IsSent sim (lists_of (xs ++ e ∷ [])) d → IsSent sim (lists_of xs) d ⊎ Among d (fired_after sim xs e).sends
  unfolding fired_after
  sent-split xs e d h =
      elim (cases_Bool (nat_eq e.dest h.0)) [
        | inl y ↦
            let at : e.dest ≡ h.0 = eqb-true e.dest h.0 y in
            elim (among-append d (sends_of sim h.0 (events_of h.0 xs)) (sim.fire h.0 (after sim h.0 (events_of h.0 xs)) e).sends (subst (Among d) (sends_of-same h.0 xs e at) h.2)) [
              | inl m ↦ inl (h.0, h.1, m)
              | inr m ↦ inr (subst (λ (q : ℕ). Among d (sim.fire q (after sim q (events_of q xs)) e).sends) (sym at) m)
            ]
        | inr y ↦ inl (h.0, h.1, subst (Among d) (sends_of-other h.0 xs e y) h.2)
      ]

  pub fresh-later : (xs : List (Sent P)) (e d : Sent P) → e.dest < sim.lps → Among d (fired_after sim xs e).sends → e.key.time < d.key.time
  unfolding fired_after
  fresh-later xs e d is m = lawful.later e.dest (after sim e.dest (events_of e.dest xs)) e d is m

  -- one event executed keeps what holds
  pub reached_with : (x : RunState P) (e : Sent P) → IsReached x → Among e x.pending → ((d : Sent P) → Among d x.pending → KeyBefore d.key e.key → ⊥) → IsReached (with_event sim x e)
  reached_with x e r here least =
      let kept : Sent P → Bool = λ d. not (key_same d.key e.key) in
      let is : e.dest < sim.lps = (known_sent (lists_of x.executed) e (r.made e (inl here))).0 in
      let fresh : List (Sent P) = (fired_after sim x.executed e).sends in
      record {
        made = λ d m. elim m [
          | inl m' ↦ elim (among-append d (filter kept x.pending) fresh m') [
            | inl a ↦ sent-more x.executed e d (r.made d (inl (filter-among kept d x.pending a).0))
            | inr a ↦ sent-new x.executed e d is a
          ]
          | inr m' ↦ elim (among-append d x.executed (e ∷ []) m') [
            | inl a ↦ sent-more x.executed e d (r.made d (inr a))
            | inr a ↦ elim a [ inl at ↦ sent-more x.executed e d (r.made d (inl (subst (λ (y : Sent P). Among y x.pending) (sym at) here))) | inr never ↦ absurd never ]
          ]
        ];
        had = λ d m. elim (sent-split x.executed e d m) [
          | inl old ↦ elim (r.had d old) [
            | inl a ↦ elim (cases_Bool (key_same d.key e.key)) [
              | inl y ↦ inr (among-right d x.executed (e ∷ []) (inl (one_sent (lists_of x.executed) d e old (r.made e (inl here)) (key_same-true d.key e.key y))))
              | inr y ↦ inl (among-left d (filter kept x.pending) fresh (among-filter kept d x.pending a (ap not y)))
            ]
            | inr a ↦ inr (among-left d x.executed (e ∷ []) a)
          ]
          | inr new ↦ inl (among-right d (filter kept x.pending) fresh new)
        ];
        rising = rising-snoc x.executed e r.rising (λ d m. r.order d e m here);
        order = λ d f m n. elim (among-append f (filter kept x.pending) fresh n) [
          | inl a ↦
              let a' = filter-among kept f x.pending a in
              elim (among-append d x.executed (e ∷ []) m) [
                | inl b ↦ r.order d f b a'.0
                | inr b ↦ elim b [
                  | inr never ↦ absurd never
                  | inl at ↦
                      let before : KeyBefore e.key f.key =
                      elim (key-total e.key f.key) [
                        | inl u ↦ u
                        | inr u ↦ elim u [
                          | inr v ↦ absurd (least f a'.0 v)
                          | inl v ↦
                              let t : key_same f.key e.key ≡ true = subst (λ (k : Key). key_same k e.key ≡ true) v (same-key_same e.key) in
                              let w : false ≡ true = sym (ap not t) ∙ a'.1 in absurd (cc)
                        ]
                      ] in
                      subst (λ (y : Sent P). KeyBefore y.key f.key) (sym at) before
                ]
              ]
          | inr a ↦
              let after_e : KeyBefore e.key f.key = inl (fresh-later x.executed e f is a) in
              elim (among-append d x.executed (e ∷ []) m) [
                | inl b ↦ key-transitive d.key e.key f.key (r.order d e b here) after_e
                | inr b ↦ elim b [ inr never ↦ absurd never | inl at ↦ subst (λ (y : Sent P). KeyBefore y.key f.key) (sym at) after_e ]
              ]
        ];
      }

  -- the starts
  pub below-among : (f : ℕ → List (Sent P)) (n q : ℕ) (e : Sent P) → q < n → Among e (f q) → Among e (flat_map f (range_with_len 0 n))
  below-among f n q e l m = among-flat_map f e q (range_with_len 0 n) (among-range q 0 n (omega arith) (omega (arith, l))) m

  pub among-below : (f : ℕ → List (Sent P)) (n : ℕ) (e : Sent P) → Among e (flat_map f (range_with_len 0 n)) → (q : ℕ) × (q < n) × Among e (f q)
  among-below f n e m =
      let r = flat_map-among f e (range_with_len 0 n) m in
      let bounds = range-among r.0 0 n r.1 in
      (r.0, omega (arith, bounds.1), r.2)

  pub reached_opening : IsReached (opening sim)
  reached_opening = record {
    made = λ e m. elim m [
      | inr never ↦ absurd never
      | inl a ↦
          let r = among-below (λ p. (sim.start p).sends) sim.lps e a in (r.0, r.1, among-left e (sim.start r.0).sends [] r.2)
    ];
    had = λ e m. elim (among-append e (sim.start m.0).sends [] m.2) [ inr never ↦ absurd never | inl a ↦ inl (below-among (λ p. (sim.start p).sends) sim.lps m.0 e m.1 a) ];
    rising = tt;
    order = λ d e m n. absurd m;
  }

  -- wherever a run stands
  pub reached : (n : ℕ) → IsReached (after_steps sim n)
  reached = each_step sim IsReached reached_opening (λ n e found r. let l = least-found (after_steps sim n).pending e found in reached_with (after_steps sim n) e r l.0 l.1)
