-- No two pending events of a run have one key.
use Rattle.std.proofs.Common.{◌≡◌, ℕ, zero, suc, ◌+◌, ◌<◌, ◌≤◌, inl, inr, List, [], ◌∷◌, Bool, true, false, not, filter, flat_map, sum_by, refl, sym, subst, ap, ◌∙◌, arith}
use Rattle.std.specs.List.{range_with_len}
use Rattle.std.proofs.lemmas.List.Sums.{sum_by-cons}
use Rattle.std.proofs.lemmas.Bool.{cases_Bool}
use Rattle.vt_key.specs.promise.Keys.{Key}
use Rattle.vt_key.specs.promise.Order.{key_same}
use Rattle.vt_key.specs.promise.Lists.{Among, IsRisingBy}
use Rattle.vt_key.proofs.OrderLemmas.{key_same-true, same-key_same}
use Rattle.vt_key.proofs.ListLemmas.{every-all, every-among, filter-among, rising-append, rising-filter}
use Rattle.vt_model.specs.declared.sending.Sent.{Sent}
use Rattle.vt_model.specs.promise.Simulation.{Simulation, after}
use Rattle.vt_model.specs.promise.Sequential.{RunState, events_of, fired_after, with_event, after_steps}
use Rattle.vt_model.specs.promise.Histories.{AreNumbered, IsLawful}
use Rattle.vt_model.specs.inside.Histories.{AreDistinct, sends_of}
use Rattle.vt_model.proofs.RunLemmas.{each_step, filter-all, filter-yes, filter-no, numbered-among, numbered-all, known_sent, lists_of, least-found, IsReached, reached, among-below, flat-next}

differs : (a b : Key) → (a ≡ b → ⊥) → key_same a b ≡ false
differs a b never = elim (cases_Bool (key_same a b)) [ inl y ↦ absurd (never (key_same-true a b y)) | inr y ↦ y ]

module _ {P : Type 0} where
  -- sends with rising numbers are distinct
  distinct-numbered : (p lo hi : ℕ) (es : List (Sent P)) → AreNumbered p lo hi es → AreDistinct es
  distinct-numbered p lo hi [] n = tt
  distinct-numbered p lo hi (e ∷ es) n = (
    every-all (λ d. e.key ≡ d.key → ⊥) es (λ d m same.
        let r = numbered-among p (suc e.key.number) hi es d n.2 m in
        let above : suc e.key.number ≤ d.key.number = r.1 in
        let number : e.key.number ≡ d.key.number = ap (λ (k : Key). k.number) same in
        omega arith),
    distinct-numbered p (suc e.key.number) hi es n.2,
  )

  -- where no two have one key, the sum without one of them is less by just what it adds
  pub sum_by-without : (f : Sent P → ℕ) (xs : List (Sent P)) (e : Sent P) → AreDistinct xs → Among e xs → sum_by f (filter (λ d. not (key_same d.key e.key)) xs) + f e ≡ sum_by f xs
  sum_by-without f [] e h m = absurd m
  sum_by-without f (x ∷ xs) e h (inl at) =
      let others : (d : Sent P) → Among d xs → not (key_same d.key e.key) ≡ true = λ d m. ap not (differs d.key e.key (λ same. every-among (λ d. x.key ≡ d.key → ⊥) xs d h.0 m (ap (λ (y : Sent P). y.key) (sym at) ∙ sym same))) in
      let out : not (key_same x.key e.key) ≡ false = ap not (subst (λ (y : Sent P). key_same y.key e.key ≡ true) at (same-key_same e.key)) in
      rw (filter-no (λ d. not (key_same d.key e.key)) x xs out, filter-all (λ d. not (key_same d.key e.key)) xs others) (omega (arith, sum_by-cons f x xs, ap f at))
  sum_by-without f (x ∷ xs) e h (inr m) =
      let in_place : not (key_same x.key e.key) ≡ true = ap not (differs x.key e.key (every-among (λ d. x.key ≡ d.key → ⊥) xs e h.0 m)) in
      rw (filter-yes (λ d. not (key_same d.key e.key)) x xs in_place)
      (omega (arith, sum_by-without f xs e h.1 m, sum_by-cons f x xs, sum_by-cons f x (filter (λ d. not (key_same d.key e.key)) xs)))

module _ {S P : Type 0} (sim : Simulation S P) (lawful : IsLawful sim) where
  distinct_with : (x : RunState P) (e : Sent P) → IsReached sim lawful x → Among e x.pending → AreDistinct x.pending → AreDistinct (with_event sim x e).pending
  unfolding fired_after
  distinct_with x e r here h =
      let is = (known_sent sim lawful (lists_of sim lawful x.executed) e (r.made e (inl here))).0 in
      let there = after sim e.dest (events_of e.dest x.executed) in
      let fresh = sim.fire e.dest there e in
      let kept : Sent P → Bool = λ d. not (key_same d.key e.key) in
      let numbers = lawful.numbered e.dest there e is in
      rising-append (λ a b. a.key ≡ b.key → ⊥) (filter kept x.pending) fresh.sends (rising-filter (λ a b. a.key ≡ b.key → ⊥) kept x.pending h) (distinct-numbered e.dest there.number fresh.triple.number fresh.sends numbers)
      (λ a b m n same.
      let s = r.made a (inl (filter-among kept a x.pending m).0) in
      let old = numbered-among s.0 0 (after sim s.0 (events_of s.0 x.executed)).number (sends_of sim s.0 (events_of s.0 x.executed)) a (numbered-all sim lawful s.0 s.1 (events_of s.0 x.executed)) s.2 in
      let new = numbered-among e.dest there.number fresh.triple.number fresh.sends b numbers n in
      let source : s.0 ≡ e.dest = sym old.0 ∙ ap (λ (k : Key). k.source) same ∙ new.0 in
      let below : a.key.number < (after sim s.0 (events_of s.0 x.executed)).number = old.2 in
      let before : a.key.number < there.number = subst (λ (q : ℕ). a.key.number < (after sim q (events_of q x.executed)).number) source below in
      let above : there.number ≤ b.key.number = new.1 in
      let number : a.key.number ≡ b.key.number = ap (λ (k : Key). k.number) same in
      omega arith)

  distinct_opening : (n : ℕ) → n ≤ sim.lps → AreDistinct (flat_map (λ p. (sim.start p).sends) (range_with_len 0 n))
  distinct_opening zero few = tt
  distinct_opening (suc n) few =
      let is : n < sim.lps = omega arith in
      let numbers = lawful.numbered_start n is in
      rw (flat-next (λ p. (sim.start p).sends) n)
      (rising-append (λ a b. a.key ≡ b.key → ⊥) (flat_map (λ p. (sim.start p).sends) (range_with_len 0 n)) (sim.start n).sends (distinct_opening n (omega arith)) (distinct-numbered n 0 (sim.start n).triple.number (sim.start n).sends numbers)
      (λ a b m k same.
      let s = among-below sim lawful (λ p. (sim.start p).sends) n a m in
      let less : s.0 < n = s.1 in
      let old = numbered-among s.0 0 (sim.start s.0).triple.number (sim.start s.0).sends a (lawful.numbered_start s.0 (omega arith)) s.2 in
      let new = numbered-among n 0 (sim.start n).triple.number (sim.start n).sends b numbers k in
      let source : s.0 ≡ n = sym old.0 ∙ ap (λ (q : Key). q.source) same ∙ new.0 in
      omega arith))

  -- wherever a run is
  pub distinct_pending : (n : ℕ) → AreDistinct (after_steps sim n).pending
  distinct_pending = each_step sim (λ x. AreDistinct x.pending) (distinct_opening sim.lps (omega arith)) (λ n e found h. distinct_with (after_steps sim n) e (reached sim lawful n) (least-found (after_steps sim n).pending e found).0 h)
