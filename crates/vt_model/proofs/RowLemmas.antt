-- Records and rows.
use Rattle.std.proofs.Common.{◌≡◌, ℕ, suc, ◌+◌, ◌<◌, inl, inr, List, [], ◌∷◌, ◌++◌, Bool, true, false, map, filter, nat_lt, if◌then◌else◌, refl, sym, subst, ap, ◌∙◌, arith}
use Rattle.std.specs.List.{enumerate_from, AllByRecursion}
use Rattle.std.proofs.lemmas.Bool.{lt-ltb}
use Rattle.vt_key.proofs.ListLemmas.{every-append}
use Rattle.vt_key.specs.promise.Keys.{Key}
use Rattle.vt_key.specs.promise.Order.{KeyBefore}
use Rattle.vt_key.specs.promise.Times.{ticks_of, priority_of}
use Rattle.vt_key.specs.promise.Lists.{Among, IsRisingBy}
use Rattle.vt_model.specs.declared.rows.Record.{Record}
use Rattle.vt_model.specs.declared.rows.Row.{Row}
use Rattle.vt_model.specs.declared.sending.Sent.{Sent}
use Rattle.vt_model.specs.declared.settings.Config.{Config}
use Rattle.vt_model.specs.promise.Sends.{RecordRequest, requested_records}
use Rattle.vt_model.specs.promise.Handler.{Handlers}
use Rattle.vt_model.specs.promise.Simulation.{Simulation, Triple, rows_of, fire_of, simulation_of, words_at}
use Rattle.vt_model.specs.promise.Sequential.{fired_after, rows_after}
use Rattle.vt_model.specs.inside.Histories.{AllAfter, IsRising}
use Rattle.vt_model.specs.promise.Rows.{AreRowsOf, record_time, RowBefore}
use Rattle.vt_model.specs.inside.Rows.{records_before}

told_from : (key : Key) (n : ℕ) (rs : List Record) → map (λ (r : Row). r.rec) (map (λ (q : ℕ × Record). record { key = key; index = q.0; rec = q.1 }) (enumerate_from n rs)) ≡ rs
told_from key n [] = refl
told_from key n (r ∷ rs) = ap (λ (xs : List Record). r ∷ xs) (told_from key (n + 1) rs)

-- the records of the rows of an event's records
pub told_rows : (key : Key) (rs : List Record) → map (λ (r : Row). r.rec) (rows_of key rs) ≡ rs
unfolding rows_of
told_rows key rs = told_from key 0 rs

-- an event's rows have its key, its time and rising indices
rows_from : (key : Key) (lp n : ℕ) (record_requests : List RecordRequest) → AreRowsOf key n (map (λ (q : ℕ × Record). record { key = key; index = q.0; rec = q.1 }) (enumerate_from n (map (λ (x : RecordRequest). record { time = ticks_of key.time; priority = priority_of key.time; lp = lp; kind = x.kind; value = x.value }) record_requests)))
rows_from key lp n [] = tt
rows_from key lp n (x ∷ xs) = (refl, refl, omega arith, subst (λ (k : ℕ). AreRowsOf key k (map (λ (q : ℕ × Record). record { key = key; index = q.0; rec = q.1 }) (enumerate_from (n + 1) (map (λ (y : RecordRequest). record { time = ticks_of key.time; priority = priority_of key.time; lp = lp; kind = y.kind; value = y.value }) xs)))) (let u : n + 1 ≡ suc n = omega arith in u) (rows_from key lp (n + 1) xs))

module _ {S P K : Type 0} (handlers : Handlers S P K) (c : Config) where
  pub has_rows : (p : ℕ) (t : Triple S) (e : Sent P) → AreRowsOf e.key 0 ((simulation_of handlers c).fire p t e).rows
  unfolding fire_of rows_of requested_records
  has_rows p t e = rows_from e.key p 0 (handlers.forward c.lps p e.key.time e.payload t.state (words_at c.seed p t.place)).record_requests

-- rows after a row of an event: those of the same event with greater indices, and those of later events
late_rows : (k : Key) (a : Row) (rs : List Row) (n : ℕ) → a.key ≡ k → a.index < n → AreRowsOf k n rs → AllByRecursion (RowBefore a) rs
late_rows k a [] n same less h = tt
late_rows k a (r ∷ rs) n same less h =
    let at : r.index ≡ n = h.1 in
    let below : a.index < r.index = omega arith in
    (inr (same ∙ sym h.0, below), late_rows k a rs (suc n) same (omega arith) h.3)

rising_append : (k : Key) (n : ℕ) (xs ys : List Row) → AreRowsOf k n xs → IsRisingBy RowBefore ys → ((a : Row) → a.key ≡ k → AllByRecursion (RowBefore a) ys) → IsRisingBy RowBefore (xs ++ ys)
rising_append k n [] ys h r all = r
rising_append k n (x ∷ xs) ys h r all =
    let less : x.index < suc n = let at : x.index ≡ n = h.1 in omega arith in
    (every-append (RowBefore x) xs ys (late_rows k x xs (suc n) h.0 less h.3) (all x h.0), rising_append k (suc n) xs ys h.3 r all)

module _ {S P : Type 0} (sim : Simulation S P) (rows : (p : ℕ) (t : Triple S) (e : Sent P) → AreRowsOf e.key 0 (sim.fire p t e).rows) where
  key_after : (a : Row) (k : Key) (n : ℕ) (rs : List Row) → KeyBefore a.key k → AreRowsOf k n rs → AllByRecursion (RowBefore a) rs
  key_after a k n [] b h = tt
  key_after a k n (r ∷ rs) b h = (inl (subst (KeyBefore a.key) (sym h.0) b), key_after a k (suc n) rs b h.3)

  later_rows : (a : Row) (done xs : List (Sent P)) → AllAfter a.key xs → AllByRecursion (RowBefore a) (rows_after sim done xs)
  unfolding fired_after
  later_rows a done [] h = tt
  later_rows a done (x ∷ xs) h = every-append (RowBefore a) (fired_after sim done x).rows (rows_after sim (done ++ x ∷ []) xs) (key_after a x.key 0 (fired_after sim done x).rows h.0 (rows x.dest _ x)) (later_rows a (done ++ x ∷ []) xs h.1)

  -- the rows of events in rising order of keys rise by (key, index): each stands once
  pub rows_rise : (done xs : List (Sent P)) → IsRising xs → IsRisingBy RowBefore (rows_after sim done xs)
  unfolding fired_after
  rows_rise done [] r = tt
  rows_rise done (x ∷ xs) r =
      rising_append x.key 0 (fired_after sim done x).rows (rows_after sim (done ++ x ∷ []) xs) (rows x.dest _ x) (rows_rise (done ++ x ∷ []) xs r.1)
      (λ a same. later_rows a (done ++ x ∷ []) xs (subst (λ (k : Key). AllAfter k xs) (sym same) r.0))

  -- records of a time are those of rows of that time
  filter_told : (t : ℕ) (k : Key) (n : ℕ) (rs more : List Row) → AreRowsOf k n rs
      → records_before t (map (λ (r : Row). r.rec) more) ≡ map (λ (r : Row). r.rec) (filter (λ (r : Row). nat_lt r.key.time t) more)
      → records_before t (map (λ (r : Row). r.rec) (rs ++ more)) ≡ map (λ (r : Row). r.rec) (filter (λ (r : Row). nat_lt r.key.time t) (rs ++ more))
  filter_told t k n [] more h ih = ih
  filter_told t k n (r ∷ rs) more h ih =
      let rest = filter_told t k (suc n) rs more h.3 ih in
      let time : record_time r.rec ≡ r.key.time = h.2 ∙ ap (λ (j : Key). j.time) (sym h.0) in
      go (nat_lt r.key.time t) (nat_lt (record_time r.rec) t) refl (ap (λ (i : ℕ). nat_lt i t) time) rest where
        go : (b d : Bool) → nat_lt r.key.time t ≡ b → nat_lt (record_time r.rec) t ≡ nat_lt r.key.time t
            → records_before t (map (λ (q : Row). q.rec) (rs ++ more)) ≡ map (λ (q : Row). q.rec) (filter (λ (q : Row). nat_lt q.key.time t) (rs ++ more))
            → records_before t (map (λ (q : Row). q.rec) ((r ∷ rs) ++ more)) ≡ map (λ (q : Row). q.rec) (filter (λ (q : Row). nat_lt q.key.time t) ((r ∷ rs) ++ more))
        go true d e f rest =
            ap (λ (z : Bool). if z then (r.rec ∷ records_before t (map (λ (q : Row). q.rec) (rs ++ more))) else records_before t (map (λ (q : Row). q.rec) (rs ++ more))) (f ∙ e)
            ∙ ap (λ (l : List Record). r.rec ∷ l) rest
            ∙ ap (λ (z : Bool). map (λ (q : Row). q.rec) (if z then (r ∷ filter (λ (q : Row). nat_lt q.key.time t) (rs ++ more)) else filter (λ (q : Row). nat_lt q.key.time t) (rs ++ more))) (sym e)
        go false d e f rest =
            ap (λ (z : Bool). if z then (r.rec ∷ records_before t (map (λ (q : Row). q.rec) (rs ++ more))) else records_before t (map (λ (q : Row). q.rec) (rs ++ more))) (f ∙ e)
            ∙ rest
            ∙ ap (λ (z : Bool). map (λ (q : Row). q.rec) (if z then (r ∷ filter (λ (q : Row). nat_lt q.key.time t) (rs ++ more)) else filter (λ (q : Row). nat_lt q.key.time t) (rs ++ more))) (sym e)

  pub told_before : (t : ℕ) (done xs : List (Sent P)) → records_before t (map (λ (r : Row). r.rec) (rows_after sim done xs)) ≡ map (λ (r : Row). r.rec) (filter (λ (r : Row). nat_lt r.key.time t) (rows_after sim done xs))
  unfolding fired_after
  told_before t done [] = refl
  told_before t done (x ∷ xs) = filter_told t x.key 0 (fired_after sim done x).rows (rows_after sim (done ++ x ∷ []) xs) (rows x.dest _ x) (told_before t (done ++ x ∷ []) xs)

  -- rows of events before a time are all before it
  filter_all : (t : ℕ) (k : Key) (n : ℕ) (rs more : List Row) → AreRowsOf k n rs → k.time < t → filter (λ (r : Row). nat_lt r.key.time t) more ≡ more → filter (λ (r : Row). nat_lt r.key.time t) (rs ++ more) ≡ rs ++ more
  filter_all t k n [] more h l ih = ih
  filter_all t k n (r ∷ rs) more h l ih =
      let e : nat_lt r.key.time t ≡ true = lt-ltb r.key.time t (subst (λ (j : Key). j.time < t) (sym h.0) l) in
      ap (λ (z : Bool). if z then (r ∷ filter (λ (q : Row). nat_lt q.key.time t) (rs ++ more)) else filter (λ (q : Row). nat_lt q.key.time t) (rs ++ more)) e
      ∙ ap (λ (q : List Row). r ∷ q) (filter_all t k (suc n) rs more h.3 l ih)

  pub all_before : (t : ℕ) (done xs : List (Sent P)) → ((e : Sent P) → Among e xs → e.key.time < t) → filter (λ (r : Row). nat_lt r.key.time t) (rows_after sim done xs) ≡ rows_after sim done xs
  unfolding fired_after
  all_before t done [] h = refl
  all_before t done (x ∷ xs) h = filter_all t x.key 0 (fired_after sim done x).rows (rows_after sim (done ++ x ∷ []) xs) (rows x.dest _ x) (h x (inl refl)) (all_before t (done ++ x ∷ []) xs (λ e m. h e (inr m)))
