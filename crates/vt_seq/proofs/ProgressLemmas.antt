-- What the fields stand for is what a contract sees.
use Rattle.std.proofs.Common.{◌≡◌, ℕ, zero, suc, ◌+◌, ◌<◌, ◌≤◌, List, [], ◌∷◌, ◌++◌, Bool, true, ◌&&◌, map, length, Option, Some, slice_get, slice_index_or, Result, Ok, Err, IfOk, IfErr, IfSome, Vec, Global, vec_len, inl, inr, refl, sym, ap, subst, ◌∙◌, arith, append_assoc, append-nil}
use Rattle.std.proofs.Math.Logic.{∥∥₁_map, ∥∥₁_elim}
use Rattle.std.proofs.Props.{props}
use Rattle.std.specs.List.{list_all}
use Rattle.std.specs.Option.{option_map}
use Rattle.std.proofs.lemmas.Bool.{and_parts, and_from}
use Rattle.std.proofs.lemmas.List.Elements.{All-from_recursion, recursion_from_All}
use Rattle.std.proofs.lemmas.List.Sums.{AllPass-from_list_all, list_all-from_AllPass}
use Rattle.vt_key.specs.promise.Keys.{Key}
use Rattle.vt_key.specs.promise.Order.{KeyBefore, key_before}
use Rattle.vt_key.specs.promise.Times.{ticks_of}
use Rattle.vt_key.specs.promise.Lists.{Among}
use Rattle.vt_key.proofs.ListLemmas.{every-among, every-weaker}
use Rattle.vt_key.proofs.OrderLemmas.{key_before-true, before-key_before}
use Rattle.vt_model.specs.declared.process.Process.{Process}
use Rattle.vt_model.specs.declared.rows.Record.{Record}
use Rattle.vt_model.specs.declared.sending.Sent.{Sent}
use Rattle.vt_model.specs.declared.settings.Config.{Config}
use Rattle.vt_model.specs.promise.Handler.{Handlers}
use Rattle.vt_model.specs.promise.Simulation.{Simulation, Triple, simulation_of, after}
use Rattle.vt_model.specs.promise.Sequential.{after_steps, events_of, seq_records}
use Rattle.vt_model.specs.inside.Histories.{AllAfter, IsRising}
use Rattle.vt_model.specs.inside.Process.{triple_at}
use Rattle.vt_seq.specs.inside.Limits.{IsCountedWhole}
use Rattle.vt_seq.specs.inside.Given.{records_to, AddsStep, AddsSteps, AddsRest}
use Rattle.vt_seq.specs.inside.Progress.{Progress, IsAfter, with_records}
use Rattle.vt_seq.specs.inside.Standing.{Standing, IsAt, IsOnWay}
use Rattle.vt_seq.specs.inside.StandsFor.{StandsAt}

-- ---- a test of rising keys

module _ {P : Type 0} where
  -- the keys of the list rise strictly, as a test
  are_rising : List (Sent P) → Bool
  are_rising [] = true
  are_rising (e ∷ es) = list_all (λ d. key_before e.key d.key) es && are_rising es

  after-tested : (k : Key) (es : List (Sent P)) → AllAfter k es → list_all (λ (d : Sent P). key_before k d.key) es ≡ true
  after-tested k es h = list_all-from_AllPass _ es (All-from_recursion _ es (every-weaker _ _ es (λ d. before-key_before k d.key) h))

  tested-after : (k : Key) (es : List (Sent P)) → list_all (λ (d : Sent P). key_before k d.key) es ≡ true → AllAfter k es
  tested-after k es h = every-weaker _ _ es (λ d. key_before-true k d.key) (recursion_from_All _ es (AllPass-from_list_all _ es h))

  rising-tested : (es : List (Sent P)) → IsRising es → are_rising es ≡ true
  unfolding are_rising
  rising-tested [] h = refl
  rising-tested (e ∷ es) h = and_from _ _ (after-tested e.key es h.0) (rising-tested es h.1)

  tested-rising : (es : List (Sent P)) → are_rising es ≡ true → IsRising es
  unfolding are_rising
  tested-rising [] h = tt
  tested-rising (e ∷ es) h =
      let r = and_parts (list_all (λ (d : Sent P). key_before e.key d.key) es) (are_rising es) h in
      (tested-after e.key es r.0, tested-rising es r.1)

-- the first of events in rising order has the least tick
pub first_tick : {P : Type 0} (es : List (Sent P)) → IsRising es → (r : Option ℕ) → r ≡ option_map (λ (d : Sent P). ticks_of d.key.time) (slice_get es 0) → (e : Sent P) → Among e es → IfSome r (λ tick. tick ≤ ticks_of e.key.time)
first_tick [] rises r is e m = absurd m
first_tick (d ∷ es) rises r is e m =
    subst (λ (x : Option ℕ). IfSome x (λ tick. tick ≤ ticks_of e.key.time)) (sym is) (elim m [
      | inl same ↦ subst (λ (x : Sent _). ticks_of d.key.time ≤ ticks_of x.key.time) (sym same) (omega arith)
      | inr later ↦ not_before (every-among (λ f. KeyBefore d.key f.key) es e rises.0 later)
    ]) where
      not_before : KeyBefore d.key e.key → ticks_of d.key.time ≤ ticks_of e.key.time
      not_before (inl soon) = omega (arith, soon)
      not_before (inr same) = omega (arith, same.0)

-- fields that stand for the run after some number of steps have their pending events in rising order
pub rising_of : {M S P K : Type 0} {sim : Simulation S P} {pending : List (Sent P)} {processes : List (Process M S P K)} → ∥ ((n : ℕ) × StandsAt sim n pending processes) ∥₁ → IsRising pending
rising_of {pending = pending} stands = tested-rising pending (∥∥₁_elim stands (Prim.hlevel props) (λ x. rising-tested pending x.1.rising))

-- ---- processes by index

-- what holds of an item whatever stands in its place else, holds of what is got
got : {X Y : Type 0} (f : X → Y) (y : Y) (xs : List X) (i : ℕ) → i < length xs → ((d : X) → f (slice_index_or xs i d) ≡ y) → slice_get (map f xs) i ≡ Some y
got f y [] i l h = absurd (omega (arith, l))
got f y (x ∷ xs) zero l h = ap Some (h x)
got f y (x ∷ xs) (suc i) l h = got f y xs i (omega (arith, l)) h

indexed : {X Y : Type 0} (f : X → Y) (y : Y) (xs : List X) (i : ℕ) (d : X) → slice_get (map f xs) i ≡ Some y → f (slice_index_or xs i d) ≡ y
indexed f y [] i d h = absurd (cc)
indexed f y (x ∷ xs) zero d h = let e : f x ≡ y = cc in e
indexed f y (x ∷ xs) (suc i) d h = indexed f y xs i d h

-- a fact of each good result, from two others
pub if_ok-both : {V E : Type 0} (A B C : V → Type 0) (r : Result V E) → IfOk r A → IfOk r B → ((v : V) → A v → B v → C v) → IfOk r C
if_ok-both A B C (Ok v) a b f = f v a b
if_ok-both A B C (Err e) a b f = tt

-- a fact of each refusal, from two others
pub if_err-both : {V E : Type 0} (A B C : E → Type 0) (r : Result V E) → IfErr r A → IfErr r B → ((e : E) → A e → B e → C e) → IfErr r C
if_err-both A B C (Ok v) a b f = tt
if_err-both A B C (Err e) a b f = f e a b

-- the run of a model and config that stayed
pub same-run : {M S P K : Type 0} (handlers : M → Handlers S P K) {m n : M} {c d : Config} → n ≡ m → d ≡ c → simulation_of (handlers m) c ≡ simulation_of (handlers n) d
same-run handlers model config j = simulation_of (handlers (sym model j)) (sym config j)

-- the triple of a process after n steps
abbrev pub triple_of : {S P : Type 0} → Simulation S P → ℕ → ℕ → Triple S
triple_of sim p n = after sim p (events_of p (after_steps sim n).executed)

module _ {M S P K : Type 0} (sim : Simulation S P) (model : M) (config : Config) where
  -- what a contract sees of these fields
  abbrev pub seen : List (Sent P) → List (Process M S P K) → Standing M S P
  seen pending processes = record {
    model = model;
    config = config;
    pending = pending;
    triples = map (λ q. triple_at q.state q.number q.stream) processes;
  }

  -- fields that stand for the run after n steps are seen so
  pub stands-after : (n : ℕ) (pending : List (Sent P)) (processes : List (Process M S P K)) → sim.lps ≤ length processes
      → StandsAt sim n pending processes → IsAt sim n (seen pending processes)
  stands-after n pending processes there st = record {
    sent = st.sent;
    had = st.had;
    triples = λ p is. got (λ (q : Process M S P K). triple_at q.state q.number q.stream) _ processes p (omega (arith, there, is)) (λ d. st.triples p d is);
  }

  -- and fields that are seen so stand for it, if they stand for the run after some number of steps
  pub after-stands : (n : ℕ) (pending : List (Sent P)) (processes : List (Process M S P K)) → ∥ ((m : ℕ) × StandsAt sim m pending processes) ∥₁
      → IsAt sim n (seen pending processes) → StandsAt sim n pending processes
  after-stands n pending processes stands is = record {
    rising = rising_of stands;
    sent = is.sent;
    had = is.had;
    triples = λ p d known. indexed (λ (q : Process M S P K). triple_at q.state q.number q.stream) _ processes p d (is.triples p known);
  }

-- equal fields are seen alike
pub seen_same : {M S P K : Type 0} (sim : Simulation S P) {m n : M} {c d : Config} {es fs : List (Sent P)} {ps qs : List (Process M S P K)} → m ≡ n → c ≡ d → es ≡ fs → ps ≡ qs → seen sim m c es ps ≡ seen sim n d fs qs
seen_same sim model config pending processes j = seen sim (model j) (config j) (pending j) (processes j)

module _ {M S P K : Type 0} (handlers : M → Handlers S P K) (model : M) (config : Config) (pending : List (Sent P)) where
  -- fields that stand for the run after some number of steps are seen on their way
  pub seen-on_way : (processes : Vec (Process M S P K) Global) → vec_len processes ≡ config.lps → ∥ ((n : ℕ) × StandsAt (simulation_of (handlers model) config) n pending processes.items) ∥₁
      → (v : Standing M S P) → seen (simulation_of (handlers model) config) model config pending processes.items ≡ v → IsOnWay (handlers v.model) v
  seen-on_way processes there stands v is =
      let all : config.lps ≤ length processes.items = omega (arith, there, processes.ok.0) in
      subst (λ (v : Standing M S P). IsOnWay (handlers v.model) v) is (∥∥₁_map stands (λ x. (x.0, stands-after (simulation_of (handlers model) config) model config x.0 pending processes.items all x.1)))

  -- what is told of a process's triple in the run, by fields that stand for it
  pub seen-told : (field : Triple S → ℕ) (p : ℕ) (r : Option ℕ) (processes : List (Process M S P K)) → ∥ ((n : ℕ) × StandsAt (simulation_of (handlers model) config) n pending processes) ∥₁
      → ((n : ℕ) → StandsAt (simulation_of (handlers model) config) n pending processes → IfSome r (λ x. (p < config.lps) × (x ≡ field (triple_of (simulation_of (handlers model) config) p n))))
      → (v : Standing M S P) → seen (simulation_of (handlers model) config) model config pending processes ≡ v
      → (n : ℕ) → IsAt (simulation_of (handlers v.model) v.config) n v → IfSome r (λ x. (p < v.config.lps) × (x ≡ field (triple_of (simulation_of (handlers v.model) v.config) p n)))
  seen-told field p r processes stands told v is =
      subst (λ (v : Standing M S P). (n : ℕ) → IsAt (simulation_of (handlers v.model) v.config) n v → IfSome r (λ x. (p < v.config.lps) × (x ≡ field (triple_of (simulation_of (handlers v.model) v.config) p n))))
      is (λ n at. told n (after-stands (simulation_of (handlers model) config) model config n pending processes stands at))

-- ---- records of several steps

module _ {S P : Type 0} (sim : Simulation S P) (n : ℕ) where
  -- no step was made
  pub added_none : (records : List Record) → AddsSteps sim n 0 records records
  added_none records =
      let none : 0 + n ≡ n = omega arith in
      record { fresh = []; added = sym (append-nil records); next = ap (records_to sim) none ∙ sym (append-nil (records_to sim n)) }

  -- one more step was made
  pub added_more : (k : ℕ) (old mid new : List Record) → AddsSteps sim n k old mid → AddsStep sim (k + n) mid new → AddsSteps sim n (suc k) old new
  added_more k old mid new a b =
      let one : suc k + n ≡ suc (k + n) = omega arith in record {
        fresh = a.fresh ++ b.fresh;
        added = b.added ∙ ap (λ (l : List Record). l ++ b.fresh) a.added ∙ append_assoc old a.fresh b.fresh;
        next = ap (records_to sim) one ∙ b.next ∙ ap (λ (l : List Record). l ++ b.fresh) a.next ∙ append_assoc (records_to sim n) a.fresh b.fresh;
      }

  -- with the last of them all records of the run are there
  pub added_rest : (k : ℕ) (old new : List Record) → AddsSteps sim n k old new → records_to sim (k + n) ≡ seq_records sim sim.end → AddsRest sim n old new
  added_rest k old new adds all = record { fresh = adds.fresh; added = adds.added; rest = sym all ∙ adds.next }

-- ---- an execution and the records that were kept of it

module _ {M S P : Type 0} (sim : Simulation S P) (n : ℕ) where
  -- some steps of the execution whose records are kept
  pub kept_through : (k : ℕ) (now : Standing M S P) (old new : List Record) → old ≡ records_to sim n → IsAt sim (k + n) now → AddsSteps sim n k old new → IsAfter sim (k + n) (with_records now new)
  kept_through k now old new all is adds = record { at = is; records = adds.added ∙ ap (λ (l : List Record). l ++ adds.fresh) all ∙ sym adds.next }

  -- a step of the execution whose records are kept
  pub kept_on : (now : Standing M S P) (old new : List Record) → old ≡ records_to sim n → IsAt sim (suc n) now → AddsStep sim n old new → IsAfter sim (suc n) (with_records now new)
  kept_on now old new all is adds = record { at = is; records = adds.added ∙ ap (λ (l : List Record). l ++ adds.fresh) all ∙ sym adds.next }

-- what is told of a process's triple in the run
pub kept-told : {M S P K : Type 0} (handlers : M → Handlers S P K) (now : Standing M S P) (records : List Record) (field : Triple S → ℕ) (p : ℕ) (r : Option ℕ)
    → ((n : ℕ) → IsAt (simulation_of (handlers now.model) now.config) n now → IfSome r (λ x. (p < now.config.lps) × (x ≡ field (triple_of (simulation_of (handlers now.model) now.config) p n))))
    → (v : Progress M S P) → with_records now records ≡ v
    → (n : ℕ) → IsAfter (simulation_of (handlers v.model) v.config) n v → IfSome r (λ x. (p < v.config.lps) × (x ≡ field (triple_of (simulation_of (handlers v.model) v.config) p n)))
kept-told handlers now records field p r told v is =
    subst (λ (v : Progress _ _ _). (n : ℕ) → IsAfter (simulation_of (handlers v.model) v.config) n v → IfSome r (λ x. (p < v.config.lps) × (x ≡ field (triple_of (simulation_of (handlers v.model) v.config) p n))))
    is (λ n is. told n is.at)

-- where all send numbers are counted after any number of steps, they are
pub counted_any : {S P V E : Type 0} (sim : Simulation S P) (In : ℕ → Type 0) (r : Result V E) → ∥ ((n : ℕ) × In n) ∥₁ → ((n : ℕ) → In n → IfOk r (λ v. IsCountedWhole sim)) → IfOk r (λ v. IsCountedWhole sim)
counted_any sim In (Ok v) some all = λ p is. ∥∥₁_elim some (Prim.hlevel props) (λ x. all x.0 x.1 p is)
counted_any sim In (Err e) some all = tt
