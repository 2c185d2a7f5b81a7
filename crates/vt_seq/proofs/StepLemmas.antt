-- One step of the code is one step of the definition.
use Rattle.std.proofs.Common.{◌≡◌, ℕ, suc, ◌+◌, ◌^◌, ◌<◌, ◌≤◌, inl, inr, List, [], ◌∷◌, ◌++◌, Bool, true, false, not, filter, drop, Option, Some, None, nat_eq, nat_lt, length, slice_get, slice_index_or, slice_set, Result, Ok, Err, IfOk, IfErr, refl, sym, subst, ap, ◌∙◌, arith}
use Rattle.std.specs.List.{sum_by}
use Rattle.std.specs.Option.{option_map_or}
use Rattle.std.proofs.lemmas.List.{set-get_or, get_or-set_same, get_or-set_other}
use Rattle.std.proofs.lemmas.List.Sums.{sum_by-cons}
use Rattle.std.proofs.lemmas.Option.{slice_get-get_or}
use Rattle.std.proofs.lemmas.Bool.{eqb-true, eq-eqb, ltb-true, cases_Bool}
use Rattle.vt_key.specs.declared.fault.Fault.{Fault}
use Rattle.vt_key.specs.promise.Times.{time_left}
use Rattle.vt_key.specs.declared.limits.TheConstants.{MAX_COUNT}
use Rattle.vt_key.specs.promise.Keys.{Key}
use Rattle.vt_key.specs.promise.Order.{KeyBefore, key_same}
use Rattle.vt_key.specs.promise.Lists.{Among}
use Rattle.vt_key.proofs.OrderLemmas.{key-irreflexive, key_same-true, same-key_same}
use Rattle.vt_key.proofs.ListLemmas.{every-among, among-left, among-right, among-append, among-filter, filter-among, get-among}
use Rattle.vt_model.specs.declared.limits.TheConstants.{MAX_SENDS}
use Rattle.vt_model.specs.declared.rows.Record.{Record}
use Rattle.vt_model.specs.declared.sending.Sent.{Sent}
use Rattle.vt_model.specs.promise.Simulation.{Simulation, Fired, Triple, after, simulation_of}
use Rattle.vt_model.specs.promise.Sequential.{RunState, events_of, least_event, fired_after, with_event, after_steps, weight}
use Rattle.vt_model.specs.promise.Histories.{IsLawful}
use Rattle.vt_model.specs.inside.Histories.{IsRising, sends_of}
use Rattle.vt_model.proofs.RunLemmas.{least-found, known_sent, lists_of, IsReached, reached, numbered-all, numbered-among, events_of-same, events_of-other, after-snoc}
use Rattle.vt_model.proofs.EndLemmas.{least-none, sent-lighter, no_step}
use Rattle.vt_model.proofs.LawLemmas.{after_state}
use Rattle.vt_model.specs.declared.settings.Config.{Config}
use Rattle.vt_model.specs.promise.Handler.{Handlers}
use Rattle.vt_model.specs.promise.Settings.{end_of}
use Rattle.vt_model.specs.inside.Process.{triple_at}
use Rattle.vt_seq.specs.promise.Limits.{number_after}
use Rattle.vt_seq.specs.inside.Limits.{IsCounted, IsRefusal, IsRunStepRefusal}
use Rattle.vt_seq.specs.inside.StandsFor.{StandsFor, StandsAt, HasExecuted}
use Rattle.vt_seq.specs.inside.Queue.{IsWithinRun, all_inserted}
use Rattle.vt_model.specs.declared.process.Process.{Process}
use Rattle.vt_seq.proofs.InsertedLemmas.{all_inserted-among, among-all_inserted, all_inserted-rising, all_inserted-sum}

-- a list is its first item and the others
opened : {X : Type 0} (xs : List X) (x : X) → 0 < length xs → slice_index_or xs 0 x ≡ x → xs ≡ x ∷ drop 1 xs
opened [] x l h = absurd (omega (arith, l))
opened (y ∷ ys) x l h = ap (λ (z : _). z ∷ ys) h

-- a list whose first item is looked up
first_there : {X : Type 0} (xs : List X) (x : X) → Some x ≡ slice_get xs 0 → (0 < length xs) × (slice_index_or xs 0 x ≡ x)
first_there [] x h = absurd (cc)
first_there (y ∷ ys) x h = ((let l : 0 < length (y ∷ ys) = omega arith in l), (let e : y ≡ x = cc in e))

pub none_there : {X : Type 0} (xs : List X) → None ≡ slice_get xs 0 → xs ≡ []
none_there [] h = refl
none_there (y ∷ ys) h = absurd (cc)

pub none_first : {X : Type 0} (xs : List X) → xs ≡ [] → None ≡ slice_get xs 0
none_first xs h = ap (λ l. slice_get l 0) (sym h)

pub not_both : {X : Type 0} (xs : List X) → xs ≡ [] → 0 < length xs → ⊥
not_both xs h some = omega (arith, some, ap length h)

module _ {P : Type 0} where
  pub among-at : (xs : List (Sent P)) (k : ℕ) (d : Sent P) → k < length xs → Among (slice_index_or xs k d) xs
  among-at xs k d l = get-among xs k (slice_index_or xs k d) (slice_get-get_or xs k d l)

  at-among : (Q : Sent P → Type 0) (xs : List (Sent P)) → ((k : ℕ) (d : Sent P) → k < length xs → Q (slice_index_or xs k d)) → (e : Sent P) → Among e xs → Q e
  at-among Q [] h e m = absurd m
  at-among Q (x ∷ xs) h e (inl at) = subst Q (sym at) (h 0 x (omega arith))
  at-among Q (x ∷ xs) h e (inr m) = at-among Q xs (λ k d l. h (suc k) d (omega arith)) e m

  pub drop-among : (e : Sent P) (xs : List (Sent P)) → Among e (drop 1 xs) → Among e xs
  drop-among e [] m = m
  drop-among e (x ∷ xs) m = inr m

-- the first pending event, and the process that receives it
pub record IsNext {M S P K : Type 0} (lps end : ℕ) (pending : List (Sent P)) (processes : List (Process M S P K)) (e : Sent P) (p : Process M S P K) : Type 0 where
  pub some : 0 < length pending
  pub first : slice_index_or pending 0 e ≡ e
  pub known : e.dest < lps
  pub soon : e.key.time < end
  pub there : length processes ≡ lps
  pub at : slice_index_or processes e.dest p ≡ p

-- each pending event is one of the run, so the first is
pub first_within : {P : Type 0} {lps end : ℕ} (pending : List (Sent P)) {e : Sent P} → Some e ≡ slice_get pending 0 → ((k : ℕ) (d : Sent P) → k < length pending → IsWithinRun lps end (slice_index_or pending k d)) → IsWithinRun lps end e
first_within {lps} {end} pending {e} found within =
    let f = first_there pending e found in at-among (IsWithinRun lps end) pending within e (subst (λ (d : Sent _). Among d pending) f.1 (among-at pending 0 e f.0))

pub next_of : {M S P K : Type 0} {lps end : ℕ} {pending : List (Sent P)} {processes : List (Process M S P K)} {e : Sent P} {p : Process M S P K}
    → Some e ≡ slice_get pending 0 → p ≡ slice_index_or processes e.dest p
    → ((k : ℕ) (d : Sent P) → k < length pending → IsWithinRun lps end (slice_index_or pending k d)) → length processes ≡ lps → IsNext lps end pending processes e p
next_of {pending} {e} found at within there =
    let f = first_there pending e found in
    let w = first_within pending found within in
    record { some = f.0; first = f.1; known = w.known; soon = w.soon; there = there; at = sym at }

module _ {M S P K : Type 0} (sim : Simulation S P) where
  -- where the receiver of the next event stands
  pub seated : (n : ℕ) {pending : List (Sent P)} {processes : List (Process M S P K)} {e : Sent P} {p : Process M S P K}
      → StandsAt sim n pending processes → IsNext sim.lps sim.end pending processes e p
      → triple_at p.state p.number p.stream ≡ after sim e.dest (events_of e.dest (after_steps sim n).executed)
  seated n {e} {p} st next = ap (λ (o : Process M S P K). triple_at o.state o.number o.stream) (sym next.at) ∙ st.triples e.dest p next.known

  -- where a process stands that is looked up
  pub looked_up : (n : ℕ) {pending : List (Sent P)} {processes found : List (Process M S P K)} {p : ℕ} {q : Process M S P K}
      → StandsAt sim n pending processes → length processes ≡ sim.lps → found ≡ processes → true ≡ nat_lt p (length found) → q ≡ slice_index_or found p q
      → (p < sim.lps) × (triple_at q.state q.number q.stream ≡ after sim p (events_of p (after_steps sim n).executed))
  looked_up n {processes} {found} {p} {q} st there is some at =
      let inside : p < length found = ltb-true p (length found) (sym some) in
      let all : length found ≡ sim.lps = ap length is ∙ there in
      let known : p < sim.lps = subst (λ (k : ℕ). p < k) all inside in
      (known, ap (λ (o : Process M S P K). triple_at o.state o.number o.stream) (at ∙ ap (λ (l : List (Process M S P K)). slice_index_or l p q) is) ∙ st.triples p q known)

module _ {M S P K : Type 0} (handlers : Handlers S P K) (c : Config) (IsState : S → Type 0)
    (start_state : (lps lp : ℕ) (words : ℕ → ℕ) → IsState (handlers.start lps lp words).state)
    (forward_state : (lps lp now : ℕ) (p : P) (s : S) (words : ℕ → ℕ) → IsState s → IsState (handlers.forward lps lp now p s words).state) where
  -- and its state can be
  pub seated_state : (n : ℕ) {pending : List (Sent P)} {processes : List (Process M S P K)} {e : Sent P} {p : Process M S P K}
      → StandsAt (simulation_of handlers c) n pending processes → IsNext c.lps (end_of c) pending processes e p → IsState p.state
  seated_state n {e} st next =
      let sim : Simulation S P = simulation_of handlers c in
      subst (λ (t : Triple S). IsState t.state) (sym (seated sim n st next)) (after_state handlers c IsState start_state forward_state e.dest (events_of e.dest (after_steps sim n).executed))

module _ {S P : Type 0} (sim : Simulation S P) (lawful : IsLawful sim) where
  -- the first event of the rising list is the least of the set
  head-least : (x : RunState P) (e : Sent P) (rest : List (Sent P)) → IsRising (e ∷ rest)
      → ((d : Sent P) → Among d (e ∷ rest) → Among d x.pending) → ((d : Sent P) → Among d x.pending → Among d (e ∷ rest))
      → least_event x.pending ≡ Some e
  head-least x e rest r to from = go (least_event x.pending) refl where
    go : (o : Option (Sent P)) → least_event x.pending ≡ o → least_event x.pending ≡ Some e
    go None h = absurd (subst (Among e) (least-none x.pending h) (to e (inl refl)))
    go (Some m) h =
        let l = least-found x.pending m h in
        elim (from m l.0) [ inl at ↦ h ∙ ap Some at | inr a ↦ absurd (l.1 e (to e (inl refl)) (every-among (λ d. KeyBefore e.key d.key) rest m r.0 a)) ]

-- the send number of each of so many processes is within its limit
abbrev pub AreCounted : {M S P K : Type 0} → ℕ → List (Process M S P K) → Type 0
AreCounted lps processes = (p : ℕ) (d : Process _ _ _ _) → p < lps → (slice_index_or processes p d).number ≤ MAX_COUNT

module _ {M S P K : Type 0} (sim : Simulation S P) (lawful : IsLawful sim) where
  stands_with : (x : RunState P) (e : Sent P) (rest : List (Sent P)) (processes : List (Process M S P K)) (q : Process M S P K)
      → IsReached sim lawful x → StandsFor sim x (e ∷ rest) processes → length processes ≡ sim.lps
      → triple_at q.state q.number q.stream ≡ (fired_after sim x.executed e).triple
      → StandsFor sim (with_event sim x e) (all_inserted (fired_after sim x.executed e).sends rest) (slice_set processes e.dest q)
  unfolding fired_after
  stands_with x e rest processes q r st there triple =
      let kept : Sent P → Bool = λ d. not (key_same d.key e.key) in
      let fresh : List (Sent P) = (fired_after sim x.executed e).sends in
      let t : Triple S = after sim e.dest (events_of e.dest x.executed) in
      let dest : e.dest < sim.lps = (known_sent sim lawful (lists_of sim lawful x.executed) e (r.made e (inl (st.sent e (inl refl))))).0 in
      record {
        rising = all_inserted-rising e.dest t.number (sim.fire e.dest t e).triple.number fresh rest (lawful.numbered e.dest t e dest) st.rising.1
            (λ d m source.
            let h = r.made d (inl (st.sent d (inr m))) in
            let b = numbered-among h.0 0 (after sim h.0 (events_of h.0 x.executed)).number (sends_of sim h.0 (events_of h.0 x.executed)) d (numbered-all sim lawful h.0 h.1 (events_of h.0 x.executed)) h.2 in
            let at : h.0 ≡ e.dest = sym b.0 ∙ source in
            subst (λ (p : ℕ). d.key.number < (after sim p (events_of p x.executed)).number) at b.2);
        sent = λ d m. elim (all_inserted-among fresh rest d m) [
          | inl a ↦ among-right d (filter kept x.pending) fresh a
          | inr a ↦ among-left d (filter kept x.pending) fresh (among-filter kept d x.pending (st.sent d (inr a)) (elim (cases_Bool (key_same d.key e.key)) [
            | inr z ↦ ap not z
            | inl z ↦ absurd (key-irreflexive e.key (subst (λ (k : Key). KeyBefore e.key k) (key_same-true d.key e.key z) (every-among (λ f. KeyBefore e.key f.key) rest d st.rising.0 a)))
          ]))
        ];
        had = λ d m. elim (among-append d (filter kept x.pending) fresh m) [
          | inl a ↦
              let a' = filter-among kept d x.pending a in
              elim (st.had d a'.0) [
                | inl at ↦
                    let y : kept d ≡ false = ap (λ (f : Sent P). not (key_same f.key e.key)) at ∙ ap not (same-key_same e.key) in
                    let w : true ≡ false = sym a'.1 ∙ y in absurd (cc)
                | inr b ↦ among-all_inserted fresh rest d (inr b)
              ]
          | inr a ↦ among-all_inserted fresh rest d (inl a)
        ];
        triples = λ p d is. elim (cases_Bool (nat_eq e.dest p)) [
          | inl y ↦
              let at : e.dest ≡ p = eqb-true e.dest p y in
              let inside : e.dest < length processes = omega arith in
              let here : slice_index_or (slice_set processes e.dest q) p d ≡ q = ap (λ (i : ℕ). slice_index_or (slice_set processes e.dest q) i d) (sym at) ∙ get_or-set_same processes e.dest q d inside in
              ap (λ (o : Process M S P K). triple_at o.state o.number o.stream) here ∙ triple ∙ sym (after-snoc sim lawful e.dest (sim.start e.dest).triple (events_of e.dest x.executed) e)
              ∙ ap (after sim e.dest) (sym (events_of-same e.dest x.executed e refl)) ∙ ap (λ (i : ℕ). after sim i (events_of i (x.executed ++ e ∷ []))) at
          | inr y ↦
              let apart : p ≡ e.dest → ⊥ = λ at. let w : true ≡ false = sym (eq-eqb e.dest p (sym at)) ∙ y in absurd (cc) in
              ap (λ (o : Process M S P K). triple_at o.state o.number o.stream) (get_or-set_other processes e.dest p q d apart)
              ∙ st.triples p d is ∙ ap (after sim p) (sym (events_of-other p x.executed e y))
        ];
      }

  -- the definition's next step executes the first pending event
  pub step_is : (n : ℕ) {pending : List (Sent P)} {processes : List (Process M S P K)} {e : Sent P} {p : Process M S P K}
      → StandsAt sim n pending processes → IsNext sim.lps sim.end pending processes e p → after_steps sim (suc n) ≡ with_event sim (after_steps sim n) e
  step_is n {pending} {processes} {e} st next =
      let x : RunState P = after_steps sim n in
      let rest : List (Sent P) = drop 1 pending in
      let st' : StandsFor sim x (e ∷ rest) processes = subst (λ (l : List (Sent P)). StandsFor sim x l processes) (opened pending e next.some next.first) st in
      ap (λ (o : Option (Sent P)). option_map_or (with_event sim x) o x) (head-least sim lawful x e rest st'.rising st'.sent st'.had)

  -- the code's step is the definition's
  pub stands_step : (n : ℕ) {pending after_pending : List (Sent P)} {processes : List (Process M S P K)} {records after_records : List Record} {e : Sent P} {p : Process M S P K} (q : Process M S P K)
      → StandsAt sim n pending processes → IsNext sim.lps sim.end pending processes e p
      → HasExecuted (sim.fire e.dest (triple_at p.state p.number p.stream) e) pending records q.state q.number q.stream after_pending after_records
      → StandsAt sim (suc n) after_pending (slice_set processes e.dest q)
  unfolding fired_after
  stands_step n {pending} {after_pending} {processes} {e} {p} q st next f =
      let x : RunState P = after_steps sim n in
      let rest : List (Sent P) = drop 1 pending in
      let head : pending ≡ e ∷ rest = opened pending e next.some next.first in
      let st' : StandsFor sim x (e ∷ rest) processes = subst (λ (l : List (Sent P)). StandsFor sim x l processes) head st in
      let seat = seated sim n st next in
      let is : sim.fire e.dest (triple_at p.state p.number p.stream) e ≡ fired_after sim x.executed e = ap (λ (t : Triple S). sim.fire e.dest t e) seat in
      let stood = stands_with x e rest processes q (reached sim lawful n) st' next.there (f.triple ∙ ap (λ (g : Fired S P). g.triple) is) in
      let pending_is : after_pending ≡ all_inserted (fired_after sim x.executed e).sends rest = f.pending ∙ ap (λ (g : Fired S P). all_inserted g.sends rest) is in
      subst (λ (y : RunState P). StandsFor sim y after_pending (slice_set processes e.dest q)) (sym (step_is n st next))
      (subst (λ (l : List (Sent P)). StandsFor sim (with_event sim x e) l (slice_set processes e.dest q)) (sym pending_is) stood)

  -- where the receiver of the next event stands after it
  next_triple : (n : ℕ) {pending : List (Sent P)} {processes : List (Process M S P K)} {e : Sent P} {p : Process M S P K}
      → StandsAt sim n pending processes → IsNext sim.lps sim.end pending processes e p
      → (sim.fire e.dest (triple_at p.state p.number p.stream) e).triple ≡ after sim e.dest (events_of e.dest (after_steps sim (suc n)).executed)
  next_triple n {e} st next =
      let x : RunState P = after_steps sim n in
      ap (λ (t : Triple S). (sim.fire e.dest t e).triple) (seated sim n st next)
      ∙ sym (after-snoc sim lawful e.dest (sim.start e.dest).triple (events_of e.dest x.executed) e)
      ∙ ap (after sim e.dest) (sym (events_of-same e.dest x.executed e refl))
      ∙ ap (λ (y : RunState P). after sim e.dest (events_of e.dest y.executed)) (sym (step_is n st next))

  -- the send numbers are within their limits where those of the processes are
  pub counted_at : (n : ℕ) (pending : List (Sent P)) (processes : List (Process M S P K))
      → StandsAt sim n pending processes → length processes ≡ sim.lps → AreCounted sim.lps processes → IsCounted sim n
  counted_at n pending [] st there numbered p is = absurd (omega (arith, there, is))
  counted_at n pending (x ∷ xs) st there numbered p is = subst (λ (t : Triple S). t.number ≤ MAX_COUNT) (st.triples p x is) (numbered p x is)

  -- and so they are after the next event, if its receiver's is
  counted_next : (n : ℕ) {pending : List (Sent P)} {processes : List (Process M S P K)} {e : Sent P} {p : Process M S P K}
      → StandsAt sim n pending processes → IsNext sim.lps sim.end pending processes e p → AreCounted sim.lps processes → (sim.fire e.dest (triple_at p.state p.number p.stream) e).triple.number ≤ MAX_COUNT → IsCounted sim (suc n)
  counted_next n {pending} {processes} {e} st next numbered fits r is = elim (cases_Bool (nat_eq e.dest r)) [
    | inl y ↦
        subst (λ (i : ℕ). number_after sim (suc n) i ≤ MAX_COUNT) (eqb-true e.dest r y)
        (subst (λ (t : Triple S). t.number ≤ MAX_COUNT) (next_triple n st next) fits)
    | inr y ↦
        let x : RunState P = after_steps sim n in
        subst (λ (z : RunState P). (after sim r (events_of r z.executed)).number ≤ MAX_COUNT) (sym (step_is n st next))
        (subst (λ (es : List (Sent P)). (after sim r es).number ≤ MAX_COUNT) (sym (events_of-other r x.executed e y)) (counted_at n pending processes st next.there numbered r is))
  ]

  -- why the next step is refused, where its receiver refuses it so
  pub refused_next : (n : ℕ) {pending : List (Sent P)} {processes : List (Process M S P K)} {e : Sent P} {p : Process M S P K} {fault : Fault}
      → StandsAt sim n pending processes → IsNext sim.lps sim.end pending processes e p → AreCounted sim.lps processes
      → IsRefusal (sim.fire e.dest (triple_at p.state p.number p.stream) e).triple.number fault → IsRunStepRefusal sim n fault
  refused_next n {e} st next numbered (inl h) = inl (h.0, (e.dest, next.known, subst (λ (t : Triple S). MAX_COUNT < t.number) (next_triple n st next) h.1))
  refused_next n {e} st next numbered (inr h) = inr (h.0, counted_next n st next numbered h.1)

  -- what is pending is for a known process and soon
  pub taken : (n : ℕ) (pending : List (Sent P)) (processes : List (Process M S P K)) → StandsAt sim n pending processes
      → (d : Sent P) → Among d pending → (d.dest < sim.lps) × (d.key.time < sim.end)
  taken n pending processes st d m = known_sent sim lawful (lists_of sim lawful (after_steps sim n).executed) d ((reached sim lawful n).made d (inl (st.sent d m)))

  -- what a process has sent has lesser numbers than its next one
  pub numbers_below_next : (n : ℕ) {pending : List (Sent P)} {processes : List (Process M S P K)} {e : Sent P} {p : Process M S P K}
      → StandsAt sim n pending processes → IsNext sim.lps sim.end pending processes e p → (d : Sent P) → Among d pending → d.key.source ≡ e.dest → d.key.number < p.number
  numbers_below_next n {e} {p} st next d m source =
      let q : ℕ = e.dest in
      let x : RunState P = after_steps sim n in
      let h = (reached sim lawful n).made d (inl (st.sent d m)) in
      let b = numbered-among h.0 0 (after sim h.0 (events_of h.0 x.executed)).number (sends_of sim h.0 (events_of h.0 x.executed)) d (numbered-all sim lawful h.0 h.1 (events_of h.0 x.executed)) h.2 in
      let here : h.0 ≡ q = sym b.0 ∙ source in
      let before : d.key.number < (after sim q (events_of q x.executed)).number = subst (λ (i : ℕ). d.key.number < (after sim i (events_of i x.executed)).number) here b.2 in
      let seat : p.number ≡ (after sim q (events_of q x.executed)).number = ap (λ (t : Triple S). t.number) (seated sim n st next) in
      omega (arith, before, seat)

-- with nothing pending, nothing is in the run's state
pub none_pending : {P : Type 0} (known pending : List (Sent P)) → ((e : Sent P) → Among e known → Among e pending) → pending ≡ [] → known ≡ []
none_pending [] pending had none = refl
none_pending (e ∷ es) pending had none = absurd (subst (Among e) none (had e (inl refl)))

-- and a step changes nothing
pub stays_at : {M S P K : Type 0} (sim : Simulation S P) (lawful : IsLawful sim) (n : ℕ) {pending : List (Sent P)} {processes : List (Process M S P K)}
    → pending ≡ [] → StandsAt sim n pending processes → StandsAt sim (suc n) pending processes
stays_at sim lawful n {pending} {processes} none st =
    subst (λ (x : RunState _). StandsFor sim x pending processes) (sym (no_step sim lawful n (none_pending (after_steps sim n).pending pending st.had none))) st

-- a fact that holds in both cases of a result
pub either_way : {V E G A B C D : Type 0} (r : Result V E) → IfOk r (λ v. A) → IfErr r (λ e. B) → IfErr r (λ e. C) → IfErr r (λ e. D) → (A → G) → (B → C → D → G) → G
either_way (Ok v) a b c d f h = f a
either_way (Err e) a b c d f h = h b c d

-- what holds of each item holds after one is changed to another of which it holds
pub set_all : {X : Type 0} (Q : ℕ → X → Type 0) (n : ℕ) (xs : List X) (i : ℕ) (x : X) → i < length xs → Q i x
    → ((r : ℕ) (d : X) → r < n → Q r (slice_index_or xs r d)) → (r : ℕ) (d : X) → r < n → Q r (slice_index_or (slice_set xs i x) r d)
set_all Q n xs i x inside new old r d is = elim (cases_Bool (nat_eq i r)) [
  | inl y ↦
      let at : i ≡ r = eqb-true i r y in
      let here : slice_index_or (slice_set xs i x) i d ≡ x = get_or-set_same xs i x d inside in
      subst (λ (k : ℕ). Q k (slice_index_or (slice_set xs i x) k d)) at (subst (Q i) (sym here) new)
  | inr y ↦
      let apart : r ≡ i → ⊥ = λ at. let w : true ≡ false = sym (eq-eqb i r (sym at)) ∙ y in absurd (cc) in
      subst (Q r) (sym (get_or-set_other xs i r x d apart)) (old r d is)
]

module _ {M S P K : Type 0} (sim : Simulation S P) (lawful : IsLawful sim) where
  -- what is pending after a step is for a known process and soon
  pub taken_next : {pending after_pending : List (Sent P)} {processes : List (Process M S P K)} {records after_records : List Record} {e : Sent P} {p : Process M S P K} (q : Process M S P K)
      → IsNext sim.lps sim.end pending processes e p
      → HasExecuted (sim.fire e.dest (triple_at p.state p.number p.stream) e) pending records q.state q.number q.stream after_pending after_records
      → ((k : ℕ) (d : Sent P) → k < length pending → IsWithinRun sim.lps sim.end (slice_index_or pending k d))
      → (k : ℕ) (d : Sent P) → k < length after_pending → IsWithinRun sim.lps sim.end (slice_index_or after_pending k d)
  taken_next {pending} {e} {p} q next f old k d =
      let t : Triple S = triple_at p.state p.number p.stream in
      let fresh : List (Sent P) = (sim.fire e.dest t e).sends in
      subst (λ (xs : List (Sent P)). k < length xs → IsWithinRun sim.lps sim.end (slice_index_or xs k d)) (sym f.pending)
      (λ l.
      let x : Sent P = slice_index_or (all_inserted fresh (drop 1 pending)) k d in
      elim (all_inserted-among fresh (drop 1 pending) x (among-at (all_inserted fresh (drop 1 pending)) k d l)) [
        | inl a ↦ record { known = lawful.known e.dest t e x next.known a; soon = lawful.ends e.dest t e x next.known a }
        | inr a ↦ at-among (IsWithinRun sim.lps sim.end) pending old x (drop-among x pending a)
      ])

  -- a step lowers the weight
  pub falls : {pending after_pending : List (Sent P)} {processes : List (Process M S P K)} {records after_records : List Record} {e : Sent P} {p : Process M S P K} (q : Process M S P K)
      → IsNext sim.lps sim.end pending processes e p
      → HasExecuted (sim.fire e.dest (triple_at p.state p.number p.stream) e) pending records q.state q.number q.stream after_pending after_records
      → weight sim after_pending < weight sim pending
  unfolding weight
  falls {pending} {e} {p} q next executed =
      let t : Triple S = triple_at p.state p.number p.stream in
      let f : Sent P → ℕ = λ d. (MAX_SENDS + 1) ^ time_left sim.end d.key.time in
      let fresh : List (Sent P) = (sim.fire e.dest t e).sends in
      let lighter : sum_by f fresh < f e = sent-lighter sim lawful e fresh next.soon (lawful.few e.dest t e next.known) (λ d m. lawful.later e.dest t e d next.known m) in
      let both : sum_by f (all_inserted fresh (drop 1 pending)) ≡ sum_by f fresh + sum_by f (drop 1 pending) = all_inserted-sum f fresh (drop 1 pending) in
      let whole_sum : sum_by f pending ≡ f e + sum_by f (drop 1 pending) = ap (sum_by f) (opened pending e next.some next.first) ∙ sum_by-cons f e (drop 1 pending) in
      subst (λ (l : List (Sent P)). sum_by f l < sum_by f pending) (sym executed.pending) (omega (arith, lighter, both, whole_sum))

-- an item put back where it was
pub set_same : {X : Type 0} (xs : List X) (i : ℕ) (p q : X) → slice_index_or xs i p ≡ p → q ≡ p → slice_set xs i q ≡ xs
set_same xs i p q at same = ap (slice_set xs i) (same ∙ sym at) ∙ set-get_or xs i p

-- where a step is refused, the fields stand for what they stood for
pub unmoved : {M S P K : Type 0} (sim : Simulation S P) (n : ℕ) {pending after_pending : List (Sent P)} {processes : List (Process M S P K)} {e : Sent P} {p : Process M S P K} (q : Process M S P K)
    → StandsAt sim n pending processes → IsNext sim.lps sim.end pending processes e p → after_pending ≡ pending → q ≡ p
    → StandsAt sim n after_pending (slice_set processes e.dest q)
unmoved sim n {pending} {after_pending} {processes} {e} {p} q st next same_pending same =
    subst (λ (l : List (Sent _)). StandsAt sim n l (slice_set processes e.dest q)) (sym same_pending)
    (subst (λ (l : List (Process _ _ _ _)). StandsAt sim n pending l) (sym (set_same processes e.dest p q next.at same)) st)
