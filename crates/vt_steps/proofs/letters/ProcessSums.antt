-- Sums over all processes, worker by worker and index by index; and the rows of the sequential run as such a sum.
use Rattle.std.proofs.Common.{◌≡◌, ℕ, zero, suc, ◌+◌, ◌/◌, ◌%◌, ◌≤◌, ◌<◌, inl, inr, true, false, cond, List, [], ◌∷◌, ◌++◌, length, Some, None, slice_get, slice_set, nat_eq, refl, sym, subst, ◌∙◌, ap, arith}
use Rattle.std.specs.List.{sum_by, range_with_len}
use Rattle.std.proofs.lemmas.Bool.{eqb-true, eq-eqb, cases_Bool}
use Rattle.std.proofs.lemmas.Bool.Decides.{nat_tests}
use Rattle.std.proofs.lemmas.List.Sums.{sum_by-cons, sum_by-append}
use Rattle.vt_model.specs.declared.rows.Row.{Row}
use Rattle.vt_model.specs.declared.sending.Sent.{Sent}
use Rattle.vt_model.specs.promise.Simulation.{Simulation, Triple, after}
use Rattle.vt_model.specs.promise.Sequential.{opening, weight, whole_run, events_of, rows_after, fired_after}
use Rattle.vt_model.specs.promise.Histories.{IsLawful}
use Rattle.vt_model.proofs.RunLemmas.{filter-yes, filter-no, after-snoc, events_of-same, events_of-other, known_sent, lists_of, reached}
use Rattle.vt_steps.specs.promise.Rows.{rows_from}
use Rattle.vt_steps.specs.promise.World.{process_at, process_count}
use Rattle.std.proofs.Math.Nat.{mod-lt}
use Rattle.vt_key.specs.promise.Lists.{Among}
use Rattle.vt_steps.proofs.lists.Sums.{sum_by-same, sum_by-zero}
use Rattle.vt_steps.proofs.steps.Shape.{own-index, worker-of_index, index-of_index, known-index}

-- ---- sums over a range of numbers

-- sums over the same list add up
sum_by-plus : {X : Type 0} (f g : X → ℕ) (xs : List X) → sum_by (λ x. f x + g x) xs ≡ sum_by f xs + sum_by g xs
sum_by-plus f g [] = refl
sum_by-plus f g (x ∷ xs) =
    let a = sum_by-cons (λ y. f y + g y) x xs in
    let b = sum_by-cons f x xs in
    let c = sum_by-cons g x xs in
    let ih = sum_by-plus f g xs in
    omega arith

-- a sum over a range of numbers of what is the same for each
sum_by-range_same : (f g : ℕ → ℕ) (a n : ℕ) → ((i : ℕ) → a ≤ i → i < a + n → f i ≡ g i) → sum_by f (range_with_len a n) ≡ sum_by g (range_with_len a n)
sum_by-range_same f g a zero same = refl
sum_by-range_same f g a (suc n) same =
    let x = sum_by-cons f a (range_with_len (a + 1) n) in
    let y = sum_by-cons g a (range_with_len (a + 1) n) in
    let here = same a (omega arith) (omega arith) in
    let ih = sum_by-range_same f g (a + 1) n (λ i low high. same i (omega arith) (omega arith)) in
    omega arith

-- a sum in which one number of the range alone weighs something
sum_by-range_one : (x j a n : ℕ) → a ≤ j → j < a + n → sum_by (λ i. cond (nat_eq j i) x 0) (range_with_len a n) ≡ x
sum_by-range_one x j a zero low high = absurd (omega arith)
sum_by-range_one x j a (suc n) low high =
    let first = sum_by-cons (λ i. cond (nat_eq j i) x 0) a (range_with_len (a + 1) n) in
    elim (cases_Bool (nat_eq j a)) [
      | inl is ↦
          let here : cond (nat_eq j a) x 0 ≡ x = ap (λ b. cond b x 0) is in
          let at = eqb-true j a is in
          let others = sum_by-range_same (λ i. cond (nat_eq j i) x 0) (λ i. 0) (a + 1) n (λ i more less. (let differ : nat_eq j i ≡ false = grind (arith, nat_tests) in ap (λ b. cond b x 0) differ)) in
          let none = sum_by-zero (range_with_len (a + 1) n) in
          omega arith
      | inr is ↦
          let here : ◌≡◌ {A = ℕ} (cond (nat_eq j a) x 0) 0 = ap (λ b. cond b x 0) is in
          let more : a < j = grind (arith, nat_tests) in
          let ih = sum_by-range_one x j (a + 1) n (omega arith) (omega arith) in
          omega arith
    ]

-- ---- sums by index

-- the sum of what the elements of a list weigh at their indices, counted from a first one on
abbrev pub sum_by_index : {X : Type 0} → (ℕ → X → ℕ) → ℕ → List X → ℕ
sum_by_index g i [] = 0
sum_by_index g i (x ∷ xs) = g i x + sum_by_index g (i + 1) xs

-- one gives way to another, of a list counted from a first index on
sum_by_index-put_from : {X : Type 0} (g : ℕ → X → ℕ) (i : ℕ) (xs : List X) (j : ℕ) (x y : X) → slice_get xs j ≡ Some x →
    sum_by_index g i (slice_set xs j y) + g (i + j) x ≡ sum_by_index g i xs + g (i + j) y
sum_by_index-put_from g i [] j x y e = absurd (let h : None ≡ Some x = e in cc)
sum_by_index-put_from g i (z ∷ zs) zero x y e =
    let same : z ≡ x = cc in
    let here : i + 0 ≡ i = omega arith in
    let a : g (i + 0) x ≡ g i z = ap (λ k. g k x) here ∙ ap (g i) (sym same) in
    let b : g (i + 0) y ≡ g i y = ap (λ k. g k y) here in
    omega arith
sum_by_index-put_from g i (z ∷ zs) (suc j) x y e =
    let there : (i + 1) + j ≡ i + suc j = omega arith in
    let ih = sum_by_index-put_from g (i + 1) zs j x y e in
    let a : g ((i + 1) + j) x ≡ g (i + suc j) x = ap (λ k. g k x) there in
    let b : g ((i + 1) + j) y ≡ g (i + suc j) y = ap (λ k. g k y) there in
    omega arith

-- one gives way to another
pub sum_by_index-put : {X : Type 0} (g : ℕ → X → ℕ) (xs : List X) (j : ℕ) (x y : X) → slice_get xs j ≡ Some x →
    sum_by_index g 0 (slice_set xs j y) + g j x ≡ sum_by_index g 0 xs + g j y
sum_by_index-put g xs j x y e = subst (λ k. sum_by_index g 0 (slice_set xs j y) + g k x ≡ sum_by_index g 0 xs + g k y) (let z : 0 + j ≡ j = omega arith in z) (sum_by_index-put_from g 0 xs j x y e)

-- what depends on the indices alone, from a first one on
sum_by_index-range_from : {X : Type 0} (g : ℕ → X → ℕ) (h : ℕ → ℕ) (a : ℕ) (xs : List X) → ((i : ℕ) (x : X) → slice_get xs i ≡ Some x → g (a + i) x ≡ h (a + i)) →
    sum_by_index g a xs ≡ sum_by h (range_with_len a (length xs))
sum_by_index-range_from g h a [] same = refl
sum_by_index-range_from g h a (x ∷ xs) same =
    let first : g a x ≡ h a = subst (λ k. g k x ≡ h k) (let z : a + 0 ≡ a = omega arith in z) (same 0 x refl) in
    let ih = sum_by_index-range_from g h (a + 1) xs (λ i y at. subst (λ k. g k y ≡ h k) (let z : a + suc i ≡ (a + 1) + i = omega arith in z) (same (suc i) y at)) in
    let c = sum_by-cons h a (range_with_len (a + 1) (length xs)) in
    omega arith

-- what depends on the indices alone is a sum over a range of numbers
pub sum_by_index-range : {X : Type 0} (g : ℕ → X → ℕ) (h : ℕ → ℕ) (xs : List X) → ((i : ℕ) (x : X) → slice_get xs i ≡ Some x → g i x ≡ h i) →
    sum_by_index g 0 xs ≡ sum_by h (range_with_len 0 (length xs))
sum_by_index-range g h xs same = sum_by_index-range_from g h 0 xs (λ i x at. subst (λ k. g k x ≡ h k) (let z : i ≡ 0 + i = omega arith in z) (same i x at))

-- what is at most what depends on the indices alone, from a first one on
sum_by_index-bound_from : {X : Type 0} (g : ℕ → X → ℕ) (h : ℕ → ℕ) (a : ℕ) (xs : List X) → ((i : ℕ) (x : X) → slice_get xs i ≡ Some x → g (a + i) x ≤ h (a + i)) →
    sum_by_index g a xs ≤ sum_by h (range_with_len a (length xs))
sum_by_index-bound_from g h a [] low = omega arith
sum_by_index-bound_from g h a (x ∷ xs) low =
    let first : g a x ≤ h a = subst (λ k. g k x ≤ h k) (let z : a + 0 ≡ a = omega arith in z) (low 0 x refl) in
    let ih = sum_by_index-bound_from g h (a + 1) xs (λ i y at. subst (λ k. g k y ≤ h k) (let z : a + suc i ≡ (a + 1) + i = omega arith in z) (low (suc i) y at)) in
    let c = sum_by-cons h a (range_with_len (a + 1) (length xs)) in
    omega arith

-- what is at most what depends on the indices alone is at most a sum over a range of numbers
pub sum_by_index-bound : {X : Type 0} (g : ℕ → X → ℕ) (h : ℕ → ℕ) (xs : List X) → ((i : ℕ) (x : X) → slice_get xs i ≡ Some x → g i x ≤ h i) →
    sum_by_index g 0 xs ≤ sum_by h (range_with_len 0 (length xs))
sum_by_index-bound g h xs low = sum_by_index-bound_from g h 0 xs (λ i x at. subst (λ k. g k x ≤ h k) (let z : i ≡ 0 + i = omega arith in z) (low i x at))

-- ---- sums over all processes

module _ {S P : Type 0} (sim : Simulation S P) where
  -- the sum over the processes of a worker
  abbrev pub over_indices : (ℕ → ℕ) → ℕ → ℕ
  over_indices h w = sum_by (λ index. h (process_at sim w index)) (range_with_len 0 (process_count sim w))

  -- the sum over all processes
  abbrev pub over_processes : (ℕ → ℕ) → ℕ
  over_processes h = sum_by (over_indices h) (range_with_len 0 sim.workers)

  -- sums over all processes add up
  over_processes-plus : (f g : ℕ → ℕ) → over_processes (λ p. f p + g p) ≡ over_processes f + over_processes g
  over_processes-plus f g =
      sum_by-range_same (over_indices (λ p. f p + g p)) (λ w. over_indices f w + over_indices g w) 0 sim.workers
      (λ w low high. sum_by-plus (λ index. f (process_at sim w index)) (λ index. g (process_at sim w index)) (range_with_len 0 (process_count sim w)))
      ∙ sum_by-plus (over_indices f) (over_indices g) (range_with_len 0 sim.workers)

  -- what is the same for each process has the same sum
  over_processes-same : (f g : ℕ → ℕ) → ((p : ℕ) → f p ≡ g p) → over_processes f ≡ over_processes g
  over_processes-same f g same =
      sum_by-same (over_indices f) (over_indices g)
      (λ w. sum_by-same (λ index. f (process_at sim w index)) (λ index. g (process_at sim w index)) (λ index. same (process_at sim w index)) (range_with_len 0 (process_count sim w))) (range_with_len 0 sim.workers)

  -- where no process weighs anything
  over_processes-none : over_processes (λ p. 0) ≡ 0
  over_processes-none =
      sum_by-range_same (over_indices (λ p. 0)) (λ w. 0) 0 sim.workers (λ w low high. sum_by-zero (range_with_len 0 (process_count sim w))) ∙ sum_by-zero (range_with_len 0 sim.workers)

  -- a process of a worker is at an index if it is its own index
  by-index : (p w index : ℕ) → p % sim.workers ≡ w → w < sim.workers → nat_eq p (process_at sim w index) ≡ nat_eq (p / sim.workers) index
  by-index p w index at within = elim (cases_Bool (nat_eq p (process_at sim w index))) [
    | inl is ↦
        let own : p / sim.workers ≡ index = ap (λ q. q / sim.workers) (eqb-true p (process_at sim w index) is) ∙ index-of_index sim w index within in
        is ∙ sym (eq-eqb (p / sim.workers) index own)
    | inr is ↦ elim (cases_Bool (nat_eq (p / sim.workers) index)) [
      | inl also ↦
          let there : p ≡ process_at sim w index = sym (own-index sim p) ∙ (λ i. process_at sim (at i) (eqb-true (p / sim.workers) index also i)) in
          absurd (let h : true ≡ false = sym (eq-eqb p (process_at sim w index) there) ∙ is in cc)
      | inr also ↦ is ∙ sym also
    ]
  ]

  -- a process of another worker is at none of a worker's indices
  not-there : (p w index : ℕ) → nat_eq (p % sim.workers) w ≡ false → w < sim.workers → nat_eq p (process_at sim w index) ≡ false
  not-there p w index is within = elim (cases_Bool (nat_eq p (process_at sim w index))) [
    | inl at ↦
        let own : p % sim.workers ≡ w = ap (λ q. q % sim.workers) (eqb-true p (process_at sim w index) at) ∙ worker-of_index sim w index within in
        absurd (let h : true ≡ false = sym (eq-eqb (p % sim.workers) w own) ∙ is in cc)
    | inr at ↦ at
  ]

  -- the index of one process, among the indices of a worker
  one-at-worker : (x p w : ℕ) → 1 ≤ sim.workers → p < sim.lps → w < sim.workers → over_indices (λ q. cond (nat_eq p q) x 0) w ≡ cond (nat_eq (p % sim.workers) w) x 0
  one-at-worker x p w some known within = elim (cases_Bool (nat_eq (p % sim.workers) w)) [
    | inl is ↦
        let at : p % sim.workers ≡ w = eqb-true (p % sim.workers) w is in
        let fits = known-index sim p some known in
        let count = ap (process_count sim) at in
        let same : over_indices (λ q. cond (nat_eq p q) x 0) w ≡ sum_by (λ index. cond (nat_eq (p / sim.workers) index) x 0) (range_with_len 0 (process_count sim w)) =
        sum_by-range_same (λ index. cond (nat_eq p (process_at sim w index)) x 0) (λ index. cond (nat_eq (p / sim.workers) index) x 0) 0 (process_count sim w)
        (λ index low high. ap (λ b. cond b x 0) (by-index p w index at within)) in
        let one = sum_by-range_one x (p / sim.workers) 0 (process_count sim w) (omega arith) (omega arith) in
        same ∙ one ∙ sym (ap (λ b. cond b x 0) is)
    | inr is ↦
        let none = sum_by-range_same (λ index. cond (nat_eq p (process_at sim w index)) x 0) (λ index. 0) 0 (process_count sim w)
        (λ index low high. ap (λ b. cond b x 0) (not-there p w index is within)) in
        none ∙ sum_by-zero (range_with_len 0 (process_count sim w)) ∙ sym (ap (λ b. cond b x 0) is)
  ]

  -- a sum in which one process alone weighs something
  over_processes-one : (x p : ℕ) → 1 ≤ sim.workers → p < sim.lps → over_processes (λ q. cond (nat_eq p q) x 0) ≡ x
  over_processes-one x p some known =
      let within = mod-lt p some in
      sum_by-range_same (over_indices (λ q. cond (nat_eq p q) x 0)) (λ w. cond (nat_eq (p % sim.workers) w) x 0) 0 sim.workers
      (λ w low high. one-at-worker x p w some known (omega arith))
      ∙ sum_by-range_one x (p % sim.workers) 0 sim.workers (omega arith) (omega arith)

-- ---- the rows of the sequential run, process by process

module _ {S P : Type 0} (sim : Simulation S P) (lawful : IsLawful sim) (f : Row → ℕ) where
  -- what the rows weigh that a process's events among these have, after its events among those that were executed
  abbrev rows_to_come : List (Sent P) → List (Sent P) → ℕ → ℕ
  rows_to_come executed events p = sum_by f (rows_from sim p (after sim p (events_of p executed)) (events_of p events))

  -- what the rows of an event weigh, at its receiver
  abbrev rows_at : List (Sent P) → Sent P → ℕ → ℕ
  rows_at executed e p = cond (nat_eq e.dest p) (sum_by f (fired_after sim executed e).rows) 0

  -- where an event is executed, its receiver has its rows less to come
  rows-next : (executed : List (Sent P)) (e : Sent P) (es : List (Sent P)) (p : ℕ) →
      rows_to_come executed (e ∷ es) p ≡ rows_at executed e p + rows_to_come (executed ++ e ∷ []) es p
  unfolding fired_after
  rows-next executed e es p = elim (cases_Bool (nat_eq e.dest p)) [
    | inl is ↦
        let at : e.dest ≡ p = eqb-true e.dest p is in
        let before : Triple S = after sim p (events_of p executed) in
        let first = ap (λ l. sum_by f (rows_from sim p before l)) (filter-yes (λ d. nat_eq d.dest p) e es is) in
        let split = sum_by-append f (sim.fire p before e).rows (rows_from sim p (sim.fire p before e).triple (events_of p es)) in
        let own : rows_at executed e p ≡ sum_by f (sim.fire p before e).rows =
        ap (λ b. cond b (sum_by f (fired_after sim executed e).rows) 0) is ∙ ap (λ q. sum_by f (sim.fire q (after sim q (events_of q executed)) e).rows) at in
        let rest : rows_to_come (executed ++ e ∷ []) es p ≡ sum_by f (rows_from sim p (sim.fire p before e).triple (events_of p es)) =
        ap (λ l. sum_by f (rows_from sim p (after sim p l) (events_of p es))) (events_of-same p executed e at)
        ∙ ap (λ triple. sum_by f (rows_from sim p triple (events_of p es))) (after-snoc sim lawful p (sim.start p).triple (events_of p executed) e) in
        omega arith
    | inr is ↦
        let first = ap (λ l. sum_by f (rows_from sim p (after sim p (events_of p executed)) l)) (filter-no (λ d. nat_eq d.dest p) e es is) in
        let own : rows_at executed e p ≡ 0 = ap (λ b. cond b (sum_by f (fired_after sim executed e).rows) 0) is in
        let rest : rows_to_come (executed ++ e ∷ []) es p ≡ rows_to_come executed es p =
        ap (λ l. sum_by f (rows_from sim p (after sim p l) (events_of p es))) (events_of-other p executed e is) in
        omega arith
  ]

  -- the rows of events, each after those before it, are the rows of each process
  rows-by-process : (executed events : List (Sent P)) → ((e : Sent P) → Among e events → e.dest < sim.lps) →
      sum_by f (rows_after sim executed events) ≡ over_processes sim (rows_to_come executed events)
  rows-by-process executed [] known = sym (over_processes-none sim)
  rows-by-process executed (e ∷ es) known =
      let split = sum_by-append f (fired_after sim executed e).rows (rows_after sim (executed ++ e ∷ []) es) in
      let ih = rows-by-process (executed ++ e ∷ []) es (λ d m. known d (inr m)) in
      let here = over_processes-one sim (sum_by f (fired_after sim executed e).rows) e.dest lawful.some_worker (known e (inl refl)) in
      let next = over_processes-same sim (rows_to_come executed (e ∷ es)) (λ p. rows_at executed e p + rows_to_come (executed ++ e ∷ []) es p) (λ p. rows-next executed e es p) in
      let both = over_processes-plus sim (rows_at executed e) (rows_to_come (executed ++ e ∷ []) es) in
      omega arith

module _ {S P : Type 0} (sim : Simulation S P) (lawful : IsLawful sim) where
  -- the events of the sequential run are for known processes
  known-events : (e : Sent P) → Among e (whole_run sim) → e.dest < sim.lps
  unfolding whole_run
  known-events e m =
      let r = reached sim lawful (weight sim (opening sim).pending) in
      (known_sent sim lawful (lists_of sim lawful (whole_run sim)) e (r.made e (inr m))).0

  -- what the rows of the sequential run weigh is what the rows of each process's events weigh
  pub whole-rows-by-process : (f : Row → ℕ) →
      sum_by f (rows_after sim [] (whole_run sim)) ≡ over_processes sim (λ p. sum_by f (rows_from sim p (sim.start p).triple (events_of p (whole_run sim))))
  whole-rows-by-process f = rows-by-process sim lawful f [] (whole_run sim) known-events
