-- The rows of the sequential run: they rise, those before a time come first, and what a process's rows before a time weigh, its
-- events before that time decide.
use Rattle.std.proofs.Common.{◌≡◌, ℕ, suc, inl, inr, true, false, cond, List, [], ◌∷◌, ◌++◌, refl, sym, ◌∙◌, ap, arith}
use Rattle.std.specs.List.{sum_by, AllByRecursion}
use Rattle.std.proofs.lemmas.Bool.Decides.{nat_tests}
use Rattle.std.proofs.lemmas.List.{map-append}
use Rattle.std.proofs.lemmas.List.Sums.{sum_by-cons, sum_by-append}
use Rattle.std.proofs.lemmas.Bool.{cases_Bool}
use Rattle.vt_key.proofs.ListLemmas.{rising-filter}
use Rattle.vt_key.specs.promise.Times.{Time, TimeAtMost, TimeBefore, time_before}
use Rattle.vt_key.specs.promise.Keys.{Key}
use Rattle.vt_key.specs.promise.Lists.{IsRisingBy}
use Rattle.vt_model.specs.declared.rows.Row.{Row}
use Rattle.vt_model.specs.declared.rows.Record.{Record}
use Rattle.vt_model.specs.declared.sending.Sent.{Sent}
use Rattle.vt_model.specs.promise.Rows.{RowBefore, AreRowsOf}
use Rattle.vt_model.specs.promise.Simulation.{Simulation, Triple}
use Rattle.vt_model.specs.promise.Sequential.{rows_before, records_of, events_before, whole_run, rows_after, seq_rows, seq_records}
use Rattle.vt_model.specs.promise.Histories.{IsLawful}
use Rattle.vt_model.proofs.RunLemmas.{filter-yes, filter-no}
use Rattle.vt_model.proofs.EndLemmas.{whole_rows-rise}
use Rattle.vt_steps.specs.promise.Rows.{rows_from}
use Rattle.vt_steps.proofs.letters.EventTimes.{AreEventsLate, DoTimesRise, late-events, late-rest}

-- ---- rows before a time

-- a row that is not after another is not later
row-time : (a b : Row) → RowBefore a b → TimeAtMost a.key.time b.key.time
row-time a b h = elim h [ inl k ↦ (grind arith) | inr k ↦ (let e : a.key.time ≡ b.key.time = ap (λ (x : Key). x.time) k.0 in omega arith) ]

-- none of these rows is before a time
abbrev pub AreLate : Time → List Row → Type 0
AreLate t [] = Unit {0}
AreLate t (r ∷ rs) = TimeAtMost t r.key.time × AreLate t rs

-- the rows after a late row are late
late-after : (t : Time) (a : Row) (rows : List Row) → TimeAtMost t a.key.time → AllByRecursion (RowBefore a) rows → AreLate t rows
late-after t a [] h k = tt
late-after t a (r ∷ rs) h k = (let b = row-time a r k.0 in omega arith, late-after t a rs h k.1)

-- late rows are not before the time
late-none : (t : Time) (rows : List Row) → AreLate t rows → rows_before t rows ≡ []
late-none t [] h = refl
late-none t (r ∷ rs) h =
    let le = h.0 in
    let is : time_before r.key.time t ≡ false = grind (arith, nat_tests) in
    ap (λ b. cond b (r ∷ rows_before t rs) (rows_before t rs)) is ∙ late-none t rs h.1

-- of rising rows, those before a time come first
pub early-first : (t : Time) (rows : List Row) → IsRisingBy RowBefore rows → (rest : List Row) × (rows ≡ rows_before t rows ++ rest)
early-first t [] h = ([], refl)
early-first t (r ∷ rs) h = elim (cases_Bool (time_before r.key.time t)) [
  | inl is ↦
      let ih = early-first t rs h.1 in
      (ih.0, ap (λ l. r ∷ l) ih.1 ∙ sym (ap (λ b. cond b (r ∷ rows_before t rs) (rows_before t rs) ++ ih.0) is))
  | inr is ↦
      let late : TimeAtMost t r.key.time = grind (arith, nat_tests) in
      (r ∷ rs, sym (ap (λ b. cond b (r ∷ rows_before t rs) (rows_before t rs) ++ (r ∷ rs)) is ∙ ap (λ l. l ++ (r ∷ rs)) (late-none t rs (late-after t r rs late h.0))))
]

-- the rows before a time are among those before a later one
before-before : (t u : Time) (rows : List Row) → TimeAtMost t u → rows_before t (rows_before u rows) ≡ rows_before t rows
before-before t u [] le = refl
before-before t u (r ∷ rs) le =
    let ih = before-before t u rs le in
    elim (cases_Bool (time_before r.key.time u)) [
      | inl is ↦ ap (λ b. rows_before t (cond b (r ∷ rows_before u rs) (rows_before u rs))) is
          ∙ ap (λ l. cond (time_before r.key.time t) (r ∷ l) l) ih
      | inr is ↦
          let also : time_before r.key.time t ≡ false = grind (arith, nat_tests) in
          ap (λ b. rows_before t (cond b (r ∷ rows_before u rs) (rows_before u rs))) is
          ∙ ih ∙ sym (ap (λ b. cond b (r ∷ rows_before t rs) (rows_before t rs)) also)
    ]

module _ {S P : Type 0} (sim : Simulation S P) (lawful : IsLawful sim) where
  -- the rows of the sequential run before any time rise
  pub seq_rows-rise : (t : Time) → IsRisingBy RowBefore (seq_rows sim t)
  seq_rows-rise t = rising-filter RowBefore (λ (r : Row). time_before r.key.time t) (rows_after sim [] (whole_run sim)) (whole_rows-rise sim lawful)

  -- its records before a time begin those before a later one
  pub seq_records-begin : (t u : Time) → TimeAtMost t u → (rest : List Record) × (seq_records sim u ≡ seq_records sim t ++ rest)
  seq_records-begin t u le =
      let first = early-first t (seq_rows sim u) (seq_rows-rise u) in
      let same = before-before t u (rows_after sim [] (whole_run sim)) le in (
        records_of first.0,
        ap records_of (first.1 ∙ ap (λ l. l ++ first.0) same) ∙ map-append (λ (r : Row). r.rec) (seq_rows sim t) first.0,
      )

-- ---- what the rows before a time weigh

-- a row weighs what it weighs if it is before a time, and nothing otherwise
abbrev pub early_weight : (Row → ℕ) → Time → Row → ℕ
early_weight f t row = cond (time_before row.key.time t) (f row) 0

-- the rows before a time weigh as much as all rows, of which the late ones weigh nothing
pub sum_by-before : (f : Row → ℕ) (t : Time) (rows : List Row) → sum_by f (rows_before t rows) ≡ sum_by (early_weight f t) rows
sum_by-before f t [] = refl
sum_by-before f t (r ∷ rs) =
    let ih = sum_by-before f t rs in
    let a = sum_by-cons (early_weight f t) r rs in
    elim (time_before r.key.time t) as (λ b. early_weight f t r ≡ cond b (f r) 0 → sum_by f (cond b (r ∷ rows_before t rs) (rows_before t rs)) ≡ sum_by (early_weight f t) (r ∷ rs)) [
      | true ↦ λ e. (let c = sum_by-cons f r (rows_before t rs) in let w : early_weight f t r ≡ f r = e in omega arith)
      | false ↦ λ e. (let w : early_weight f t r ≡ 0 = e in omega arith)
    ] refl

-- the rows of a late event weigh nothing
late-weight : (f : Row → ℕ) (t : Time) (key : Key) (n : ℕ) (rows : List Row) → TimeAtMost t key.time → AreRowsOf key n rows → sum_by (early_weight f t) rows ≡ 0
late-weight f t key n [] late h = refl
late-weight f t key n (r ∷ rs) late h =
    let time : r.key.time ≡ key.time = ap (λ (k : Key). k.time) h.0 in
    let is : time_before r.key.time t ≡ false = grind (arith, nat_tests) in
    let none : early_weight f t r ≡ 0 = ap (λ b. cond b (f r) 0) is in
    let a = sum_by-cons (early_weight f t) r rs in
    let ih = late-weight f t key (suc n) rs late h.3 in
    omega arith

-- the rows of an early event weigh what they weigh
early-weight : (f : Row → ℕ) (t : Time) (key : Key) (n : ℕ) (rows : List Row) → TimeBefore key.time t → AreRowsOf key n rows → sum_by (early_weight f t) rows ≡ sum_by f rows
early-weight f t key n [] soon h = refl
early-weight f t key n (r ∷ rs) soon h =
    let time : r.key.time ≡ key.time = ap (λ (k : Key). k.time) h.0 in
    let is : time_before r.key.time t ≡ true = grind (arith, nat_tests) in
    let whole : early_weight f t r ≡ f r = ap (λ b. cond b (f r) 0) is in
    let a = sum_by-cons (early_weight f t) r rs in
    let b = sum_by-cons f r rs in
    let ih = early-weight f t key (suc n) rs soon h.3 in
    omega arith

module _ {S P : Type 0} (sim : Simulation S P) (lawful : IsLawful sim) where
  -- the rows of early events weigh what they weigh
  pub all-early-rows : (f : Row → ℕ) (t : Time) (p : ℕ) (triple : Triple S) (events : List (Sent P)) → AllByRecursion (λ (e : Sent P). TimeBefore e.key.time t) events →
      sum_by (early_weight f t) (rows_from sim p triple events) ≡ sum_by f (rows_from sim p triple events)
  all-early-rows f t p triple [] soon = refl
  all-early-rows f t p triple (e ∷ es) soon =
      let fired = sim.fire p triple e in
      let a = sum_by-append (early_weight f t) fired.rows (rows_from sim p fired.triple es) in
      let b = sum_by-append f fired.rows (rows_from sim p fired.triple es) in
      let c = early-weight f t e.key 0 fired.rows soon.0 (lawful.rows p triple e) in
      let ih = all-early-rows f t p fired.triple es soon.1 in
      omega arith

  -- the rows of late events weigh nothing
  late-rows : (f : Row → ℕ) (t : Time) (p : ℕ) (triple : Triple S) (events : List (Sent P)) → AreEventsLate t events → sum_by (early_weight f t) (rows_from sim p triple events) ≡ 0
  late-rows f t p triple [] late = refl
  late-rows f t p triple (e ∷ es) late =
      let fired = sim.fire p triple e in
      let a = sum_by-append (early_weight f t) fired.rows (rows_from sim p fired.triple es) in
      let b = late-weight f t e.key 0 fired.rows late.0 (lawful.rows p triple e) in
      let ih = late-rows f t p fired.triple es late.1 in
      omega arith

  -- what a process's rows before a time weigh, its events before it decide
  pub early-rows : (f : Row → ℕ) (t : Time) (p : ℕ) (triple : Triple S) (events : List (Sent P)) → DoTimesRise events →
      sum_by (early_weight f t) (rows_from sim p triple events) ≡ sum_by (early_weight f t) (rows_from sim p triple (events_before t events))
  early-rows f t p triple [] rise = refl
  early-rows f t p triple (e ∷ es) rise =
      let fired = sim.fire p triple e in
      let a = sum_by-append (early_weight f t) fired.rows (rows_from sim p fired.triple es) in
      elim (cases_Bool (time_before e.key.time t)) [
        | inl is ↦
            let first = ap (λ l. sum_by (early_weight f t) (rows_from sim p triple l)) (filter-yes (λ d. time_before d.key.time t) e es is) in
            let b = sum_by-append (early_weight f t) fired.rows (rows_from sim p fired.triple (events_before t es)) in
            let ih = early-rows f t p fired.triple es rise.1 in
            omega arith
        | inr is ↦
            let late : TimeAtMost t e.key.time = grind (arith, nat_tests) in
            let rest = late-rest t e es late rise.0 in
            let none = ap (λ l. sum_by (early_weight f t) (rows_from sim p triple l)) (filter-no (λ d. time_before d.key.time t) e es is ∙ late-events t es rest) in
            let b = late-weight f t e.key 0 fired.rows late (lawful.rows p triple e) in
            let c = late-rows f t p fired.triple es rest in
            omega arith
      ]
