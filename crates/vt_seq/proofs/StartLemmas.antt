-- The processes that have started, and what they sent.
use Rattle.std.proofs.Common.{◌≡◌, ℕ, ◌+◌, ◌<◌, ◌≤◌, List, [], ◌∷◌, ◌++◌, length, inl, inr, slice_index_or, true, false, nat_eq, refl, sym, ◌∙◌, ap, subst, arith}
use Rattle.std.proofs.Math.Seq.{get_or-append_seam}
use Rattle.std.proofs.lemmas.List.{get_or_append_left}
use Rattle.std.proofs.lemmas.Bool.{eqb-true, eq-eqb, cases_Bool}
use Rattle.std.proofs.Common.{length-append}
use Rattle.vt_key.specs.promise.Lists.{Among}
use Rattle.vt_model.specs.declared.sending.Sent.{Sent}
use Rattle.vt_model.specs.promise.Histories.{IsLawful}
use Rattle.vt_model.specs.inside.Histories.{IsRising}
use Rattle.vt_model.specs.promise.Simulation.{Simulation, words_at, start_of}
use Rattle.vt_model.specs.promise.Handler.{StartResult}
use Rattle.vt_model.specs.inside.Sends.{Outgoing, with_requests}
use Rattle.vt_model.specs.declared.limits.TheConstants.{MAX_DRAWS}
use Rattle.vt_stream.specs.promise.Words.{seed_key}
use Rattle.vt_stream.specs.inside.Words.{Stream, word_of, moved}
use Rattle.vt_model.proofs.FireLemmas.{IsStart, starts}
use Rattle.vt_model.proofs.RunLemmas.{numbered-among, among-below, below-among}
use Rattle.vt_model.specs.inside.Process.{triple_at}
use Rattle.vt_seq.specs.inside.StandsFor.{StandsAt, HasStarted}
use Rattle.vt_seq.specs.inside.Queue.{all_inserted}
use Rattle.vt_model.specs.declared.process.Process.{Process}
use Rattle.vt_seq.proofs.InsertedLemmas.{all_inserted-among, among-all_inserted, all_inserted-rising}

-- what holds of each item, and of one more
pub all_more : {X : Type 0} (Q : ℕ → X → Type 0) (xs : List X) (x : X) (n : ℕ) → length xs ≡ n → Q n x → ((r : ℕ) (d : X) → r < n → Q r (slice_index_or xs r d))
    → (r : ℕ) (d : X) → r < n + 1 → Q r (slice_index_or (xs ++ x ∷ []) r d)
all_more Q xs x n len new old r d l = elim (cases_Bool (nat_eq r n)) [
  | inl y ↦
      let at : r ≡ n = eqb-true r n y in
      let here : slice_index_or (xs ++ x ∷ []) r d ≡ x = ap (λ (i : ℕ). slice_index_or (xs ++ x ∷ []) i d) (at ∙ sym len) ∙ get_or-append_seam xs x [] d in
      subst (Q r) (sym here) (subst (λ (i : ℕ). Q i x) (sym at) new)
  | inr y ↦
      let less : r < n = below r n l (λ at. let w : true ≡ false = sym (eq-eqb r n at) ∙ y in absurd (cc)) in
      let less' : r < length xs = omega arith in
      subst (Q r) (sym (get_or_append_left xs (x ∷ []) d r less')) (old r d less)
] where
  below : (a b : ℕ) → a < b + 1 → (a ≡ b → ⊥) → a < b
  below a b k never = grind (arith, never)

-- the processes below p were started
pub record AllStarted {M S P K : Type 0} (sim : Simulation S P) (p : ℕ) (pending : List (Sent P)) (processes : List (Process M S P K)) : Type 0 where
  pub rising : IsRising pending
  pub sent : (e : Sent P) → Among e pending → (q : ℕ) × (q < p) × Among e (sim.start q).sends
  pub had : (e : Sent P) (q : ℕ) → q < p → Among e (sim.start q).sends → Among e pending
  pub there : length processes ≡ p
  pub triples : (r : ℕ) (d : Process M S P K) → r < p → triple_at (slice_index_or processes r d).state (slice_index_or processes r d).number (slice_index_or processes r d).stream ≡ (sim.start r).triple

module _ {M S P K : Type 0} (sim : Simulation S P) (lawful : IsLawful sim) where
  pub none_started : (pending : List (Sent P)) (processes : List (Process M S P K)) → pending ≡ [] → processes ≡ [] → AllStarted sim 0 pending processes
  none_started pending processes h k =
      subst (λ (l : List (Sent P)). AllStarted sim 0 l processes) (sym h) (subst (λ (l : List (Process M S P K)). AllStarted sim 0 [] l) (sym k) (record {
        rising = tt;
        sent = λ e m. absurd m;
        had = λ e q l a. absurd (omega (arith, l));
        there = refl;
        triples = λ r d l. absurd (omega (arith, l));
      }))

  pub started_next : (p : ℕ) (pending later : List (Sent P)) (processes : List (Process M S P K)) (q : Process M S P K) → AllStarted sim p pending processes → p < sim.lps
      → HasStarted (sim.start p) pending q.state q.number q.stream later → AllStarted sim (p + 1) later (processes ++ q ∷ [])
  started_next p pending later processes q h is b =
      let fresh : List (Sent P) = (sim.start p).sends in
      let at : later ≡ all_inserted fresh pending = b.pending in
      record {
        rising = subst IsRising (sym at) (all_inserted-rising p 0 (sim.start p).triple.number fresh pending (lawful.numbered_start p is) h.rising
            (λ d m source.
            let s = h.sent d m in
            let less : s.0 < p = s.1 in
            let from = numbered-among s.0 0 (sim.start s.0).triple.number (sim.start s.0).sends d (lawful.numbered_start s.0 (let l : s.0 < sim.lps = omega arith in l)) s.2 in
            let same : s.0 ≡ p = sym from.0 ∙ source in
            absurd (omega arith)));
        sent = λ e m. elim (all_inserted-among fresh pending e (subst (Among e) at m)) [
          | inl a ↦ (p, (let l : p < p + 1 = omega arith in l), a)
          | inr a ↦ let s = h.sent e a in let less : s.0 < p = s.1 in (s.0, (let l : s.0 < p + 1 = omega arith in l), s.2)
        ];
        had = λ e r l a. subst (Among e) (sym at) (among-all_inserted fresh pending e (elim (cases_Bool (nat_eq r p)) [
          | inl y ↦ inl (subst (λ (i : ℕ). Among e (sim.start i).sends) (eqb-true r p y) a)
          | inr y ↦ inr (h.had e r (below r p l (λ z. let w : true ≡ false = sym (eq-eqb r p z) ∙ y in absurd (cc))) a)
        ]));
        there = longer processes q h.there;
        triples = all_more (λ (r : ℕ) (o : Process M S P K). triple_at o.state o.number o.stream ≡ (sim.start r).triple) processes q p h.there b.triple h.triples;
      } where
        below : (a b : ℕ) → a < b + 1 → (a ≡ b → ⊥) → a < b
        below a b k never = grind (arith, never)

        longer : (xs : List (Process M S P K)) (x : Process M S P K) → {n : ℕ} → length xs ≡ n → length (xs ++ x ∷ []) ≡ n + 1
        longer xs x e = search (arith, length-append, e)

  -- all pending events were sent by processes that were started
  pub sources_below : (p : ℕ) (pending : List (Sent P)) (processes : List (Process M S P K)) → AllStarted sim p pending processes → p < sim.lps
      → (d : Sent P) → Among d pending → d.key.source < p
  sources_below p pending processes h is d m =
      let s = h.sent d m in
      let less : s.0 < p = s.1 in
      let from = numbered-among s.0 0 (sim.start s.0).triple.number (sim.start s.0).sends d (lawful.numbered_start s.0 (let l : s.0 < sim.lps = omega arith in l)) s.2 in
      let source : d.key.source ≡ s.0 = from.0 in omega arith

  -- all started, the fields stand for the opening
  pub stands_start : (p : ℕ) {pending : List (Sent P)} {processes : List (Process M S P K)} → p ≡ sim.lps → AllStarted sim p pending processes → StandsAt sim 0 pending processes
  stands_start p {pending} {processes} all started = go (subst (λ (k : ℕ). AllStarted sim k pending processes) all started) where
    go : AllStarted sim sim.lps pending processes → StandsAt sim 0 pending processes
    go h = record {
      rising = h.rising;
      sent = λ e m. let s = h.sent e m in below-among sim lawful (λ p. (sim.start p).sends) sim.lps s.0 e s.1 s.2;
      had = λ e m. let s = among-below sim lawful (λ p. (sim.start p).sends) sim.lps e m in h.had e s.0 s.1 s.2;
      triples = h.triples;
    }

-- a process's start, from what the calls of the code say of it
pub started_so : {S P : Type 0} (seed end lps p : ℕ) (go : ℕ → ℕ → (ℕ → ℕ) → StartResult S P) {fresh w v : Stream} {o q : Outgoing P} {s : S} {tick : ℕ}
    → w ≡ fresh → fresh ≡ record { key = seed_key seed; process = p; place = 0 }
    → o ≡ record { lps = lps; end = end; lp = p; time = tick; first = 0; number = 0; sends = []; records = [] } → tick ≡ 0
    → s ≡ (go o.lps p (word_of w)).state → v ≡ moved w (go o.lps p (word_of w)).drawn → q ≡ with_requests o (go o.lps p (word_of w)).send_requests []
    → (go lps p (words_at seed p 0)).drawn ≤ MAX_DRAWS → IsStart (start_of end p (go lps p (words_at seed p 0))) s v q
started_so seed end lps p go {w} {v} {o} {q} {s} drawn at whole first state stream out few =
    starts seed end lps p (go lps p) w v o q s (drawn ∙ at)
    (whole ∙ (λ j. record { lps = lps; end = end; lp = p; time = first j; first = 0; number = 0; sends = []; records = [] }))
    (state ∙ (λ j. (go (whole j).lps p (word_of w)).state)) (stream ∙ (λ j. moved w (go (whole j).lps p (word_of w)).drawn)) few
    (out ∙ (λ j. with_requests o (go (whole j).lps p (word_of w)).send_requests []))
