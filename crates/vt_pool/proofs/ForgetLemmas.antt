-- A commit, on what a worker keeps of all its processes together: what is left of each, and the rows of all.
use Rattle.std.proofs.Common.{◌≡◌, ◌∙◌, ◌⊎◌, inl, inr, ℕ, zero, suc, ◌+◌, ◌*◌, ◌<◌, ◌≤◌, Bool, true, false, not, if◌then◌else◌, List, [], ◌∷◌, ◌++◌, map, length, refl, sym, ap, subst, arith}
use Rattle.std.specs.List.{filter, flat_map, sum_by, AllByRecursion}
use Rattle.std.proofs.lemmas.Bool.{cases_Bool, eqb-true, eqb-false}
use Rattle.std.proofs.lemmas.Bool.Decides.{nat_tests}
use Rattle.std.proofs.lemmas.List.Sums.{sum_by-append}
use Rattle.vt_key.specs.promise.Times.{Time}
use Rattle.vt_key.specs.inside.Order.{RankBefore}
use Rattle.vt_key.proofs.ListLemmas.{every-weaker, every-filter}
use Rattle.vt_model.specs.declared.rows.Row.{Row}
use Rattle.vt_model.specs.declared.settings.Config.{Config}
use Rattle.vt_model.specs.promise.Handler.{Handlers}
use Rattle.vt_model.specs.promise.Simulation.{Triple, simulation_of, rows_of}
use Rattle.vt_steps.specs.inside.Rows.{AreSameRows}
use Rattle.vt_steps.specs.promise.World.{LogicalProcess, Part, process_at}
use Rattle.vt_steps.specs.promise.PartSteps.{part_after_commit, rows_of_commit, ripe_rows}
use Rattle.vt_steps.specs.inside.StandsFor.{StandsForProcess, StandForProcesses}
use Rattle.vt_steps.proofs.letters.RankTimes.{rank-order-time}
use Rattle.vt_steps.proofs.steps.CommitRows.{rows_of_processes}
use Rattle.vt_past.specs.declared.event.PastEvent.{PastEvent}
use Rattle.vt_lp.specs.inside.Held.{HeldProcess, process_memory, IsRisingPast}
use Rattle.vt_lp.specs.inside.Ripe.{is_ripe, unripe_events, rows_of_ripe}
use Rattle.vt_lp.proofs.RipeLemmas.{commits, rows-ripe}
use Rattle.vt_kernel.specs.inside.Held.{HeldWorker, StandsFor, AreProcesses}
use Rattle.vt_kernel.proofs.CommitLemmas.{AllForgotten, stands-commit}
use Rattle.vt_kernel.proofs.ProcessLemmas.{index-known}
use Rattle.vt_pool.specs.inside.View.{Placed, Stock, is_at, past_at, number_at, process_in, processes_from, processes_in}
use Rattle.vt_pool.specs.inside.Inside.{AreRisingPasts, IsWorkersEvent, placed_rank, IsStockInside}
use Rattle.vt_pool.specs.inside.Forgotten.{is_placed_ripe, unripe_placed, placed_rows, rows_of_placed, rows_of_held, forgotten_in}
use Rattle.vt_pool.proofs.ViewLemmas.{past-here, past-elsewhere, are-from, number-index, number-own}
use Rattle.vt_pool.proofs.GuardLemmas.{every-past_at}

-- ---- lists

module _ {X : Type 0} (test : X → Bool) where
  filter-none : (xs : List X) → AllByRecursion (λ x. test x ≡ false) xs → filter test xs ≡ []
  filter-none [] all = refl
  filter-none (x ∷ xs) all = ap (λ (b : Bool). if b then x ∷ filter test xs else filter test xs) all.0 ∙ filter-none xs all.1

  filter-all : (xs : List X) → AllByRecursion (λ x. test x ≡ true) xs → filter test xs ≡ xs
  filter-all [] all = refl
  filter-all (x ∷ xs) all = ap (λ (b : Bool). if b then x ∷ filter test xs else filter test xs) all.0 ∙ ap (λ ys. x ∷ ys) (filter-all xs all.1)

module _ {P K : Type 0} where
  -- of those that pass a test, those of one process
  past-filter : (test : PastEvent P K → Bool) (i : ℕ) (es : List (Placed P K)) → past_at i (filter (λ (e : Placed P K). test e.event) es) ≡ filter test (past_at i es)
  past-filter test i [] = refl
  past-filter test i (e ∷ es) =
      let rest = filter (λ (d : Placed P K). test d.event) es in
      let chosen = λ (b : Bool). if b then e.event ∷ filter test (past_at i es) else filter test (past_at i es) in
      elim (test e.event) as (λ b. test e.event ≡ b → past_at i (if b then e ∷ rest else rest) ≡ filter test (past_at i (e ∷ es))) [
        | true ↦ λ passes. elim (cases_Bool (is_at i e)) [
          | inl is ↦ past-here i e rest is ∙ ap (λ ds. e.event ∷ ds) (past-filter test i es) ∙ sym (ap (filter test) (past-here i e es is) ∙ ap chosen passes)
          | inr is ↦ past-elsewhere i e rest is ∙ past-filter test i es ∙ sym (ap (filter test) (past-elsewhere i e es is))
        ]
        | false ↦ λ fails. elim (cases_Bool (is_at i e)) [
          | inl is ↦ past-filter test i es ∙ sym (ap (filter test) (past-here i e es is) ∙ ap chosen fails)
          | inr is ↦ past-filter test i es ∙ sym (ap (filter test) (past-elsewhere i e es is))
        ]
      ] refl

  -- the past events of one process rise
  pub rising-at : (i : ℕ) (es : List (Placed P K)) → AreRisingPasts es → IsRisingPast (past_at i es)
  rising-at i [] rises = tt
  rising-at i (e ∷ es) rises = elim (cases_Bool (is_at i e)) [
    | inl is ↦ subst IsRisingPast (sym (past-here i e es is)) (
      every-past_at (λ (d : PastEvent P K). RankBefore e.event.letter.event.rank d.letter.event.rank) i es
          (every-weaker _ (λ (d : Placed P K). d.index ≡ i → RankBefore (placed_rank e) (placed_rank d)) es (λ d before at. before (eqb-true e.index i is ∙ sym at)) rises.0),
      rising-at i es rises.1,
    )
    | inr is ↦ subst IsRisingPast (sym (past-elsewhere i e es is)) (rising-at i es rises.1)
  ]

  -- the rows of a past event
  abbrev event_rows : PastEvent P K → List Row
  event_rows e = rows_of e.letter.event.rank.key e.records

  module _ (floor : Time) where
    -- where an event isn't before the floor, none after it is
    none-ripe : (e : PastEvent P K) (es : List (PastEvent P K)) → AllByRecursion (λ (d : PastEvent P K). RankBefore e.letter.event.rank d.letter.event.rank) es → is_ripe floor e ≡ false
        → AllByRecursion (λ (d : PastEvent P K). is_ripe floor d ≡ false) es
    none-ripe e es after late =
        every-weaker _ (λ (d : PastEvent P K). is_ripe floor d ≡ false) es
        (λ d before. let later = rank-order-time e.letter.event.rank d.letter.event.rank before in grind (arith, nat_tests)) after

    -- what isn't before the floor is what is left without the first ones
    unripe-is : (es : List (PastEvent P K)) → IsRisingPast es → filter (λ (e : PastEvent P K). not (is_ripe floor e)) es ≡ unripe_events floor es
    unripe-is [] rises = refl
    unripe-is (e ∷ es) rises =
        let stays = λ (d : PastEvent P K). not (is_ripe floor d) in
        elim (is_ripe floor e) as (λ b. is_ripe floor e ≡ b → (if not b then e ∷ filter stays es else filter stays es) ≡ (if b then unripe_events floor es else e ∷ es)) [
          | true ↦ λ is. unripe-is es rises.1
          | false ↦ λ late. ap (λ ds. e ∷ ds) (filter-all stays es (every-weaker _ (λ (d : PastEvent P K). stays d ≡ true) es (λ d is. ap not is) (none-ripe e es rises.0 late)))
        ] refl

    -- the rows of what is before it are those of the first ones
    rows-are : (es : List (PastEvent P K)) → IsRisingPast es → flat_map event_rows (filter (is_ripe floor) es) ≡ rows_of_ripe floor es
    rows-are [] rises = refl
    rows-are (e ∷ es) rises =
        elim (is_ripe floor e) as (λ b. is_ripe floor e ≡ b → flat_map event_rows (if b then e ∷ filter (is_ripe floor) es else filter (is_ripe floor) es)
        ≡ (if b then rows_of e.letter.event.rank.key e.records ++ rows_of_ripe floor es else [])) [
          | true ↦ λ is. ap (λ rs. event_rows e ++ rs) (rows-are es rises.1)
          | false ↦ λ late. ap (flat_map event_rows) (filter-none (is_ripe floor) es (none-ripe e es rises.0 late))
        ] refl

-- ---- what is left

module _ {S P K : Type 0} (floor : Time) (config : Config) (w : ℕ) (stock : Stock S P K) (rises : AreRisingPasts stock.past) where
  -- each process has forgotten what is before the floor
  forgotten-from : (base : ℕ) (triples : List (Triple S)) → AllForgotten floor (processes_from config w base triples stock) (processes_from config w base triples (forgotten_in floor stock))
  forgotten-from base [] = tt
  forgotten-from base (t ∷ ts) =
      let q : HeldProcess S P K = process_in config w base t stock in
      let left = past_at base (unripe_placed floor stock.past) in
      let is = past-filter (λ (e : PastEvent P K). not (is_ripe floor e)) base stock.past ∙ unripe-is floor (past_at base stock.past) (rising-at base stock.past rises) in (
        record { committed = λ handlers process s. commits handlers floor q process left is s; lp = refl; config = refl; pending = refl; waiting = refl },
        forgotten-from (base + 1) ts,
      )

-- a worker that has forgotten what is before its floor stands for the part that has committed
pub forget-stands : {S P K : Type 0} (handlers : Handlers S P K) (held : HeldWorker S P K) (stock : Stock S P K) → held.processes ≡ processes_in held.config held.worker stock → AreRisingPasts stock.past
    → (part : Part P) → StandsFor handlers held part
    → StandsFor handlers (record held { processes = processes_in held.config held.worker (forgotten_in held.floor stock) }) (part_after_commit part)
forget-stands handlers held stock is rises part s =
    let new = processes_in held.config held.worker (forgotten_in held.floor stock) in
    stands-commit {held = held} {now = held} refl handlers part s
    (subst (AreProcesses held.config held.worker 0) (sym is) (are-from held.config held.worker 0 stock.triples stock)) new
    (subst (λ ps. AllForgotten held.floor ps new) (sym is) (forgotten-from held.floor held.config held.worker stock rises 0 stock.triples))

-- ---- the rows

module _ {P K : Type 0} (f : Row → ℕ) where
  -- the sum of the rows of these events
  abbrev weight : List (PastEvent P K) → ℕ
  weight es = sum_by f (flat_map event_rows es)

  -- and of those of so many processes, from an index on
  abbrev total : ℕ → ℕ → List (Placed P K) → ℕ
  total base zero es = 0
  total base (suc n) es = weight (past_at base es) + total (base + 1) n es

  total-nothing : (base n : ℕ) (es : List (Placed P K)) → es ≡ [] → total base n es ≡ 0
  total-nothing base zero es none = refl
  total-nothing base (suc n) es none =
      let here : weight (past_at base es) ≡ 0 = ap (λ (ds : List (Placed P K)). weight (past_at base ds)) none in
      let rest = total-nothing (base + 1) n es none in
      omega (arith, here, rest)

  -- an event of none of them
  total-outside : (base n : ℕ) (e : Placed P K) (es : List (Placed P K)) → (e.index < base) ⊎ (base + n ≤ e.index) → total base n (e ∷ es) ≡ total base n es
  total-outside base zero e es out = refl
  total-outside base (suc n) e es out =
      let other : e.index ≡ base → ⊥ = λ same. elim out [ inl before ↦ omega (arith, before, same) | inr after ↦ omega (arith, after, same) ] in
      let here : weight (past_at base (e ∷ es)) ≡ weight (past_at base es) =
      ap weight (elim (cases_Bool (is_at base e)) [ inl is ↦ absurd (other (eqb-true e.index base is)) | inr is ↦ past-elsewhere base e es is ]) in
      let rest = total-outside (base + 1) n e es (elim out [ inl before ↦ inl (omega (arith, before)) | inr after ↦ inr (omega (arith, after)) ]) in
      omega (arith, here, rest)

  -- an event of one of them
  total-inside : (base n : ℕ) (e : Placed P K) (es : List (Placed P K)) → base ≤ e.index → e.index < base + n → total base n (e ∷ es) ≡ sum_by f (event_rows e.event) + total base n es
  total-inside base zero e es from to = absurd (omega (arith, from, to))
  total-inside base (suc n) e es from to = elim (cases_Bool (is_at base e)) [
    | inl is ↦
        let at : e.index ≡ base = eqb-true e.index base is in
        let here : weight (past_at base (e ∷ es)) ≡ sum_by f (event_rows e.event) + weight (past_at base es) = ap weight (past-here base e es is) ∙ sum_by-append f (event_rows e.event) (flat_map event_rows (past_at base es)) in
        let rest = total-outside (base + 1) n e es (inl (omega (arith, at))) in
        omega (arith, here, rest)
    | inr is ↦
        let other : e.index ≡ base → ⊥ = eqb-false e.index base is in
        let here : weight (past_at base (e ∷ es)) ≡ weight (past_at base es) = ap weight (past-elsewhere base e es is) in
        let rest = total-inside (base + 1) n e es (omega (arith, from, other)) (omega (arith, to)) in
        omega (arith, here, rest)
  ]

  -- all events are of some of the processes
  total-all : (n : ℕ) (es : List (Placed P K)) → AllByRecursion (λ (e : Placed P K). e.index < n) es → total 0 n es ≡ sum_by f (flat_map placed_rows es)
  total-all n [] all = total-nothing 0 n [] refl
  total-all n (e ∷ es) all =
      let within = all.0 in
      let first = total-inside 0 n e es (omega arith) (omega (arith, within)) in
      let rest = total-all n es all.1 in
      let both = sum_by-append f (event_rows e.event) (flat_map placed_rows es) in
      omega (arith, first, rest, both)

-- the rows of the processes that contracts see are those of what is past, in another order
module _ {S P K : Type 0} (floor : Time) (config : Config) (w : ℕ) (stock : Stock S P K) where
  sum-from : (rises : AreRisingPasts stock.past) (f : Row → ℕ) (base : ℕ) (triples : List (Triple S))
      → sum_by f (rows_of_held floor (processes_from config w base triples stock)) ≡ total f base (length triples) (filter (is_placed_ripe floor) stock.past)
  sum-from rises f base [] = refl
  sum-from rises f base (t ∷ ts) =
      let mine = rows_of_ripe floor (past_at base stock.past) in
      let is : mine ≡ flat_map event_rows (past_at base (filter (is_placed_ripe floor) stock.past)) =
      sym (ap (flat_map event_rows) (past-filter (is_ripe floor) base stock.past) ∙ rows-are floor (past_at base stock.past) (rising-at base stock.past rises)) in
      let here = ap (sum_by f) is in
      let both = sum_by-append f mine (rows_of_held floor (processes_from config w (base + 1) ts stock)) in
      let rest = sum-from rises f (base + 1) ts in
      omega (arith, here, both, rest)

  pub rows-same : w < config.workers → IsStockInside config w stock → AreSameRows (rows_of_held floor (processes_in config w stock)) (rows_of_placed floor stock.past)
  rows-same known i f =
      let some : 1 ≤ config.workers = omega (arith, known) in
      let all_there = i.all_there in
      let indices : AllByRecursion (λ (e : Placed P K). e.index < length stock.triples) stock.past =
      every-weaker (IsWorkersEvent config w) (λ (e : Placed P K). e.index < length stock.triples) stock.past
      (λ e mine.
      let less = index-known config.lps config.workers w (number_at config w e.index) some mine.known (number-own config w known e.index) in
      let index = number-index config w known e.index in
      omega (arith, less, index, all_there)) i.own_past in
      sum-from i.pasts_rise f 0 stock.triples
      ∙ total-all {P = P} {K = K} f (length stock.triples) (filter (is_placed_ripe floor) stock.past) (every-filter (λ (e : Placed P K). e.index < length stock.triples) (is_placed_ripe floor) stock.past indices)

-- what a part commits, by the processes of a worker that stands for it
module _ {S P K : Type 0} (handlers : Handlers S P K) (floor : Time) (config : Config) (w : ℕ) where
  rows-stood : (base : ℕ) (held : List (HeldProcess S P K)) (processes : List (LogicalProcess P)) → AreProcesses config w base held
      → StandForProcesses (simulation_of handlers config) w base (map (process_memory handlers) held) processes
      → rows_of_held floor held ≡ rows_of_processes (simulation_of handlers config) w floor base processes
  rows-stood base [] [] are s = refl
  rows-stood base [] (q ∷ qs) are s = absurd s
  rows-stood base (x ∷ xs) [] are s = absurd s
  rows-stood base (x ∷ xs) (q ∷ qs) are s =
      let sim = simulation_of handlers config in
      let mine : StandsForProcess (simulation_of handlers x.config) x.lp (process_memory handlers x) q =
      subst (λ (p : ℕ). StandsForProcess (simulation_of handlers x.config) p (process_memory handlers x) q) (sym are.0)
      (subst (λ (c : Config). StandsForProcess (simulation_of handlers c) (base * config.workers + w) (process_memory handlers x) q) (sym are.1) s.0) in
      let here : rows_of_ripe floor x.past ≡ ripe_rows sim (process_at sim w base) floor q =
      sym (rows-ripe handlers floor x q mine) ∙ (λ j. ripe_rows (simulation_of handlers (are.1 j)) (are.0 j) floor q) in
      λ j. here j ++ rows-stood (base + 1) xs qs are.2 s.1 j

-- the rows of a commit are those of the worker's processes, one after the other
pub rows-commit : {S P K : Type 0} (handlers : Handlers S P K) (held : HeldWorker S P K) → AreProcesses held.config held.worker 0 held.processes → (part : Part P) → StandsFor handlers held part
    → rows_of_held held.floor held.processes ≡ rows_of_commit (simulation_of handlers held.config) held.worker part
unfolding rows_of_commit
rows-commit handlers held are part s =
    rows-stood handlers held.floor held.config held.worker 0 held.processes part.processes are s.processes
    ∙ ap (λ t. rows_of_processes (simulation_of handlers held.config) held.worker t 0 part.processes) (sym s.floor)
