-- The sequential run ends, and what it leaves is the one history.
use Rattle.std.proofs.Common.{◌≡◌, ℕ, zero, suc, ◌+◌, ◌*◌, ◌-◌, ◌^◌, ◌<◌, ◌≤◌, ◌⊎◌, inl, inr, List, [], ◌∷◌, ◌++◌, Bool, true, false, not, ◌&&◌, filter, Option, Some, None, nat_eq, length, refl, sym, subst, ap, ◌∙◌, arith}
use Rattle.std.specs.List.{list_all, sum_by}
use Rattle.std.specs.Option.{option_map_or}
use Rattle.std.proofs.lemmas.Bool.{eqb-true, eq-eqb, cases_Bool}
use Rattle.std.proofs.lemmas.Bool.Decides.{nat_tests}
use Rattle.std.proofs.lemmas.List.Sums.{sum_by-cons, sum_by-append}
use Rattle.std.proofs.Math.Nat.{pow-suc, one-le-pow, pow-le-pow_right, mul-le-mul_right}
use Rattle.vt_key.specs.promise.Order.{KeyBefore, key_before, key_same}
use Rattle.vt_key.proofs.OrderLemmas.{key-irreflexive, key-transitive, key_before-true, before-key_before, same-key_same}
use Rattle.vt_key.proofs.ListLemmas.{among-filter, filter-among, rising-filter}
use Rattle.vt_key.specs.promise.Times.{time_before, time_left}
use Rattle.vt_key.specs.promise.Lists.{Among, IsRisingBy}
use Rattle.vt_model.specs.declared.limits.TheConstants.{MAX_SENDS}
use Rattle.vt_model.specs.declared.sending.Sent.{Sent}
use Rattle.vt_model.specs.promise.Simulation.{Simulation, after}
use Rattle.vt_model.specs.promise.Sequential.{RunState, events_before, events_of, least_event, fired_after, opening, with_event, step, after_steps, weight, whole_run, rows_after, seq_events}
use Rattle.vt_model.specs.promise.Histories.{IsLawful}
use Rattle.vt_model.specs.inside.Histories.{IsRising, IsHistory}
use Rattle.vt_model.specs.promise.Rows.{RowBefore}
use Rattle.vt_model.proofs.HistoryLemmas.{one_history}
use Rattle.vt_model.proofs.RowLemmas.{rows_rise}
use Rattle.vt_model.proofs.RunLemmas.{filter-all, filter-yes, filter-no, find-none, least-found, known_sent, lists_of, IsReached, reached, fresh-later}

module _ {P : Type 0} where
  -- where there is an event, some event has none before it
  minimum : (x : Sent P) (xs : List (Sent P)) → (m : Sent P) × Among m (x ∷ xs) × ((d : Sent P) → Among d (x ∷ xs) → KeyBefore d.key m.key → ⊥)
  minimum x [] = (x, inl refl, λ d h b. elim h [ inr never ↦ never | inl at ↦ key-irreflexive x.key (subst (λ (y : Sent P). KeyBefore y.key x.key) at b) ])
  minimum x (y ∷ ys) =
      let r = minimum y ys in
      elim (cases_Bool (key_before x.key r.0.key)) [
        | inl t ↦
            let first : KeyBefore x.key r.0.key = key_before-true x.key r.0.key t in
            (x, inl refl, λ d h b. elim h [ inl at ↦ key-irreflexive x.key (subst (λ (z : Sent P). KeyBefore z.key x.key) at b) | inr m ↦ r.2 d m (key-transitive d.key x.key r.0.key b first) ])
        | inr t ↦ (
          r.0,
          inr r.1,
          λ d h b. elim h [
            | inl at ↦
                let u : key_before x.key r.0.key ≡ true = before-key_before x.key r.0.key (subst (λ (z : Sent P). KeyBefore z.key r.0.key) at b) in
                let v : false ≡ true = sym t ∙ u in absurd (cc)
            | inr m ↦ r.2 d m b
          ],
        )
      ]

  all-true : (test : Sent P → Bool) (xs : List (Sent P)) → ((d : Sent P) → Among d xs → test d ≡ true) → list_all test xs ≡ true
  all-true test [] h = refl
  all-true test (x ∷ xs) h = ap (λ (b : Bool). b && list_all test xs) (h x (inl refl)) ∙ all-true test xs (λ d m. h d (inr m))

  pub least-none : (es : List (Sent P)) → least_event es ≡ None → es ≡ []
  least-none [] h = refl
  least-none (x ∷ xs) h =
      let r = minimum x xs in
      let found : list_all (λ d. not (key_before d.key r.0.key)) (x ∷ xs) ≡ true =
      all-true (λ d. not (key_before d.key r.0.key)) (x ∷ xs) (λ d m. elim (cases_Bool (key_before d.key r.0.key)) [
        | inl t ↦ absurd (r.2 d m (key_before-true d.key r.0.key t))
        | inr t ↦ ap not t
      ]) in
      let v : true ≡ false = sym found ∙ find-none (λ e. list_all (λ d. not (key_before d.key e.key)) (x ∷ xs)) (x ∷ xs) r.0 h r.1 in
      absurd (cc)

  -- sums of weights
  sum_by-filter : (f : Sent P → ℕ) (test : Sent P → Bool) (xs : List (Sent P)) → sum_by f (filter test xs) ≤ sum_by f xs
  sum_by-filter f test [] = omega arith
  sum_by-filter f test (x ∷ xs) =
      let ih = sum_by-filter f test xs in
      elim (cases_Bool (test x)) [
        | inl y ↦ rw (filter-yes test x xs y) (omega (arith, ih, sum_by-cons f x xs, sum_by-cons f x (filter test xs)))
        | inr y ↦ rw (filter-no test x xs y) (omega (arith, ih, sum_by-cons f x xs))
      ]

  sum_by-out : (f : Sent P → ℕ) (test : Sent P → Bool) (xs : List (Sent P)) (e : Sent P) → Among e xs → test e ≡ false → sum_by f (filter test xs) + f e ≤ sum_by f xs
  sum_by-out f test [] e h t = absurd h
  sum_by-out f test (x ∷ xs) e (inl at) t =
      let n : test x ≡ false = ap test (sym at) ∙ t in
      let w : f e ≡ f x = ap f at in
      rw (filter-no test x xs n) (omega (arith, sum_by-filter f test xs, sum_by-cons f x xs, w))
  sum_by-out f test (x ∷ xs) e (inr h) t =
      let ih = sum_by-out f test xs e h t in
      elim (cases_Bool (test x)) [
        | inl y ↦ rw (filter-yes test x xs y) (omega (arith, ih, sum_by-cons f x xs, sum_by-cons f x (filter test xs)))
        | inr y ↦ rw (filter-no test x xs y) (omega (arith, ih, sum_by-cons f x xs))
      ]

  sum_by-bound : (f : Sent P → ℕ) (m : ℕ) (xs : List (Sent P)) → ((d : Sent P) → Among d xs → f d ≤ m) → sum_by f xs ≤ length xs * m
  sum_by-bound f m [] h = omega arith
  sum_by-bound f m (x ∷ xs) h =
      let ih = sum_by-bound f m xs (λ d k. h d (inr k)) in
      let here : f x ≤ m = h x (inl refl) in
      let product : length (x ∷ xs) * m ≡ length xs * m + m = grind arith in
      omega (arith, ih, here, product, sum_by-cons f x xs)

module _ {S P : Type 0} (sim : Simulation S P) (lawful : IsLawful sim) where
  weight-pos : (x : Sent P) (xs : List (Sent P)) → 1 ≤ weight sim (x ∷ xs)
  unfolding weight
  weight-pos x xs =
      let one : 1 ≤ (MAX_SENDS + 1) ^ time_left sim.end x.key.time = one-le-pow (time_left sim.end x.key.time) (MAX_SENDS + 1) (omega arith) in
      omega (arith, one, sum_by-cons (λ (e : Sent P). (MAX_SENDS + 1) ^ time_left sim.end e.key.time) x xs)

  few-fresh : (xs : List (Sent P)) (e : Sent P) → e.dest < sim.lps → length (fired_after sim xs e).sends ≤ MAX_SENDS
  unfolding fired_after
  few-fresh xs e is = lawful.few e.dest (after sim e.dest (events_of e.dest xs)) e is

  -- what an event sends weighs less than the event: it is few events, and those later
  pub sent-lighter : (e : Sent P) (fresh : List (Sent P)) → e.key.time < sim.end → length fresh ≤ MAX_SENDS → ((d : Sent P) → Among d fresh → e.key.time < d.key.time)
      → weight sim fresh < (MAX_SENDS + 1) ^ time_left sim.end e.key.time
  unfolding weight
  sent-lighter e fresh soon few after =
      let f : Sent P → ℕ = λ d. (MAX_SENDS + 1) ^ time_left sim.end d.key.time in
      let k : ℕ = sim.end - e.key.time - 1 in
      let each : (d : Sent P) → Among d fresh → f d ≤ (MAX_SENDS + 1) ^ k =
      λ d m.
      let later : e.key.time < d.key.time = after d m in
      let less : sim.end - d.key.time ≤ k = omega arith in
      pow-le-pow_right (let p : zero < MAX_SENDS + 1 = omega arith in p) less in
      let bound : sum_by f fresh ≤ length fresh * (MAX_SENDS + 1) ^ k = sum_by-bound f ((MAX_SENDS + 1) ^ k) fresh each in
      let most : length fresh * (MAX_SENDS + 1) ^ k ≤ MAX_SENDS * (MAX_SENDS + 1) ^ k = mul-le-mul_right ((MAX_SENDS + 1) ^ k) few in
      let up : sim.end - e.key.time ≡ suc k = omega arith in
      let own : f e ≡ (MAX_SENDS + 1) ^ k * (MAX_SENDS + 1) = ap (λ (n : ℕ). (MAX_SENDS + 1) ^ n) up ∙ pow-suc (MAX_SENDS + 1) k in
      let one : 1 ≤ (MAX_SENDS + 1) ^ k = one-le-pow k (MAX_SENDS + 1) (omega arith) in
      omega (arith, bound, most, own, one)

  -- executing an event lowers the weight
  weight-falls : (x : RunState P) (e : Sent P) → IsReached sim lawful x → Among e x.pending → suc (weight sim (with_event sim x e).pending) ≤ weight sim x.pending
  unfolding weight
  weight-falls x e r here =
      let is = known_sent sim lawful (lists_of sim lawful x.executed) e (r.made e (inl here)) in
      let f : Sent P → ℕ = λ d. (MAX_SENDS + 1) ^ time_left sim.end d.key.time in
      let kept : Sent P → Bool = λ d. not (key_same d.key e.key) in
      let fresh : List (Sent P) = (fired_after sim x.executed e).sends in
      let out = sum_by-out f kept x.pending e here (ap not (same-key_same e.key)) in
      let lighter : sum_by f fresh < f e = sent-lighter e fresh is.1 (few-fresh x.executed e is.0) (λ d m. fresh-later sim lawful x.executed e d is.0 m) in
      let both : sum_by f (filter kept x.pending ++ fresh) ≡ sum_by f (filter kept x.pending) + sum_by f fresh = sum_by-append f (filter kept x.pending) fresh in
      omega (arith, out, lighter, both)

  -- after n steps either nothing is left or the weight has fallen by n
  ends-by : (n : ℕ) → ((after_steps sim n).pending ≡ []) ⊎ (weight sim (after_steps sim n).pending + n ≤ weight sim (opening sim).pending)
  ends-by zero = inr (omega arith)
  ends-by (suc n) = go (ends-by n) (least_event (after_steps sim n).pending) refl where
    go : ((after_steps sim n).pending ≡ []) ⊎ (weight sim (after_steps sim n).pending + n ≤ weight sim (opening sim).pending) → (o : Option (Sent P)) → least_event (after_steps sim n).pending ≡ o
        → ((option_map_or (with_event sim (after_steps sim n)) o (after_steps sim n)).pending ≡ []) ⊎ (weight sim (option_map_or (with_event sim (after_steps sim n)) o (after_steps sim n)).pending + suc n ≤ weight sim (opening sim).pending)
    go before None h = inl (least-none (after_steps sim n).pending h)
    go before (Some e) h =
        let l = least-found (after_steps sim n).pending e h in
        elim before [
          | inl nil ↦ absurd (subst (Among e) nil l.0)
          | inr w ↦ let falls = weight-falls (after_steps sim n) e (reached sim lawful n) l.0 in inr (omega (arith, w, falls))
        ]

  -- in the end nothing is left
  pub ends : (after_steps sim (weight sim (opening sim).pending)).pending ≡ []
  ends =
      elim (ends-by (weight sim (opening sim).pending)) [
        | inl nil ↦ nil
        | inr w ↦ empty (after_steps sim (weight sim (opening sim).pending)).pending (omega arith)
      ] where
        empty : (xs : List (Sent P)) → weight sim xs ≤ 0 → xs ≡ []
        empty [] h = refl
        empty (x ∷ xs) h = absurd (omega (arith, weight-pos x xs, h))

  -- the lists of the whole run are a history, below any time
  pub whole_is_history : (below : ℕ) → IsHistory sim below (λ q. events_of q (whole_run sim))
  unfolding whole_run
  whole_is_history below =
      let n : ℕ = weight sim (opening sim).pending in
      let r = reached sim lawful n in
      record {
        own = λ p e is m. eqb-true e.dest p (filter-among (λ d. nat_eq d.dest p) e (after_steps sim n).executed m).1;
        rising = λ p is. rising-filter (λ d e. KeyBefore d.key e.key) (λ d. nat_eq d.dest p) (after_steps sim n).executed r.rising;
        sent = λ p e is soon m. r.made e (inr (filter-among (λ d. nat_eq d.dest p) e (after_steps sim n).executed m).0);
        had = λ e soon s. elim (r.had e s) [
          | inl left ↦ absurd (subst (Among e) ends left)
          | inr done ↦ among-filter (λ d. nat_eq d.dest e.dest) e (after_steps sim n).executed done (eq-eqb e.dest e.dest refl)
        ];
      }

  -- each event of the whole run is before the end of the run
  pub events-end : (p : ℕ) → seq_events sim p sim.end ≡ events_of p (whole_run sim)
  unfolding whole_run
  events-end p =
      let executed : List (Sent P) = (after_steps sim (weight sim (opening sim).pending)).executed in
      filter-all (λ e. time_before e.key.time sim.end) (events_of p executed) (λ e m.
      (let made = (reached sim lawful (weight sim (opening sim).pending)).made e (inr (filter-among (λ d. nat_eq d.dest p) e executed m).0) in
      let soon = (known_sent sim lawful (lists_of sim lawful executed) e made).1 in
      grind (arith, nat_tests)))

  -- each history is that of the sequential run
  pub history_is_sequential : (below : ℕ) (lists : ℕ → List (Sent P)) → IsHistory sim below lists
      → (t : ℕ) → t ≤ below → (p : ℕ) → p < sim.lps → events_before t (lists p) ≡ seq_events sim p t
  history_is_sequential below lists h t l p is = one_history sim lawful below lists (λ q. events_of q (whole_run sim)) h (whole_is_history below) t l p is

  -- a run that has ended stays as it is
  stays : (m n : ℕ) → n ≤ m → (after_steps sim n).pending ≡ [] → after_steps sim m ≡ after_steps sim n
  stays zero n l h = let z : 0 ≡ n = omega arith in ap (after_steps sim) z
  stays (suc m) n l h = elim (cases_Bool (nat_eq n (suc m))) [
    | inl y ↦ ap (after_steps sim) (sym (eqb-true n (suc m) y))
    | inr y ↦
        let less : n ≤ m = elim (cases_Bool (nat_eq n (suc m))) [ inl z ↦ absurd (let w : true ≡ false = sym z ∙ y in cc) | inr z ↦ below n m l (λ at. let w : true ≡ false = sym (eq-eqb n (suc m) at) ∙ y in absurd (cc)) ] in
        ap (step sim) (stays m n less h) ∙ ap (λ (o : Option (Sent P)). option_map_or (with_event sim (after_steps sim n)) o (after_steps sim n)) (ap least_event h)
  ] where
    below : (a b : ℕ) → a ≤ suc b → (a ≡ suc b → ⊥) → a ≤ b
    below a b k never = grind (arith, never)

  -- a step where nothing is pending changes nothing
  pub no_step : (n : ℕ) → (after_steps sim n).pending ≡ [] → after_steps sim (suc n) ≡ after_steps sim n
  no_step n h = ap (λ (o : Option (Sent P)). option_map_or (with_event sim (after_steps sim n)) o (after_steps sim n)) (ap least_event h)

  -- where nothing is pending the whole run is executed
  pub executed_all : (n : ℕ) → (after_steps sim n).pending ≡ [] → (after_steps sim n).executed ≡ whole_run sim
  unfolding whole_run
  executed_all n h =
      let w : ℕ = weight sim (opening sim).pending in
      elim (order n w) [
        | inl l ↦ ap (λ (x : RunState P). x.executed) (sym (stays w n l h))
        | inr l ↦ ap (λ (x : RunState P). x.executed) (stays n w l ends)
      ] where
        order : (a b : ℕ) → (a ≤ b) ⊎ (b ≤ a)
        order zero b = inl (omega arith)
        order (suc a) zero = inr (omega arith)
        order (suc a) (suc b) = elim (order a b) [ inl l ↦ inl (omega arith) | inr l ↦ inr (omega arith) ]

  -- while something is pending a step lowers the weight
  pub step-falls : (n : ℕ) → 0 < length (after_steps sim n).pending → weight sim (after_steps sim (suc n)).pending < weight sim (after_steps sim n).pending
  step-falls n some = go (least_event (after_steps sim n).pending) refl where
    go : (o : Option (Sent P)) → least_event (after_steps sim n).pending ≡ o → weight sim (option_map_or (with_event sim (after_steps sim n)) o (after_steps sim n)).pending < weight sim (after_steps sim n).pending
    go None h = absurd (let none : length (after_steps sim n).pending ≡ 0 = ap length (least-none (after_steps sim n).pending h) in omega (arith, some, none))
    go (Some e) h =
        let l = least-found (after_steps sim n).pending e h in
        let falls = weight-falls (after_steps sim n) e (reached sim lawful n) l.0 in omega (arith, falls)

  -- the executed events of the whole run rise
  pub whole_run-rising : IsRising (whole_run sim)
  unfolding whole_run
  whole_run-rising = (reached sim lawful (weight sim (opening sim).pending)).rising

  -- the rows of a run rise by key and index, wherever it is
  pub run_rows-rise : (n : ℕ) → IsRisingBy RowBefore (rows_after sim [] (after_steps sim n).executed)
  run_rows-rise n = rows_rise sim lawful.rows [] (after_steps sim n).executed (reached sim lawful n).rising

  -- and those of the whole run
  pub whole_rows-rise : IsRisingBy RowBefore (rows_after sim [] (whole_run sim))
  unfolding whole_run
  whole_rows-rise = run_rows-rise (weight sim (opening sim).pending)
