-- The records that the steps of a run give begin those of the whole run.
use Rattle.std.proofs.Common.{◌≡◌, ℕ, zero, suc, ◌+◌, ◌<◌, ◌≤◌, inr, List, [], ◌∷◌, ◌++◌, Option, Some, None, filter, map, nat_lt, sym, subst, ap, ◌∙◌, arith, append_assoc, append-nil}
use Rattle.std.specs.Option.{option_map_or}
use Rattle.std.proofs.lemmas.List.{map-append}
use Rattle.vt_key.specs.promise.Times.{time_before}
use Rattle.vt_key.specs.declared.limits.TheConstants.{MAX_COUNT}
use Rattle.vt_key.specs.promise.Lists.{Among}
use Rattle.vt_model.specs.declared.process.Process.{Process}
use Rattle.vt_model.specs.declared.rows.Record.{Record}
use Rattle.vt_model.specs.declared.rows.Row.{Row}
use Rattle.vt_model.specs.declared.sending.Sent.{Sent}
use Rattle.vt_model.specs.promise.Histories.{IsLawful}
use Rattle.vt_model.specs.inside.Process.{triple_at}
use Rattle.vt_model.specs.promise.Rows.{record_time}
use Rattle.vt_model.specs.promise.Simulation.{Simulation, Fired, Triple, after}
use Rattle.vt_model.specs.promise.Sequential.{RunState, opening, events_of, least_event, fired_after, with_event, after_steps, weight, whole_run, rows_after, records_of, seq_records}
use Rattle.vt_model.proofs.EndLemmas.{ends, no_step, executed_all}
use Rattle.vt_model.proofs.RowLemmas.{all_before, told_before}
use Rattle.vt_model.proofs.RunLemmas.{known_sent, lists_of, reached}
use Rattle.vt_seq.specs.inside.Given.{records_to, BeginRun, AddsStep}
use Rattle.vt_seq.specs.inside.Limits.{IsCounted, IsCountedWhole}
use Rattle.vt_seq.specs.inside.StandsFor.{StandsAt, HasExecuted}
use Rattle.vt_seq.proofs.StepLemmas.{IsNext, step_is, seated, none_pending}

module _ {S P : Type 0} (sim : Simulation S P) where
  -- rows, with one more event
  rows-snoc : (done xs : List (Sent P)) (e : Sent P) → rows_after sim done (xs ++ e ∷ []) ≡ rows_after sim done xs ++ (fired_after sim (done ++ xs) e).rows
  rows-snoc done [] e = append-nil (fired_after sim done e).rows ∙ ap (λ (l : List (Sent P)). (fired_after sim l e).rows) (sym (append-nil done))
  rows-snoc done (x ∷ xs) e =
      ap (λ (l : List Row). (fired_after sim done x).rows ++ l) (rows-snoc (done ++ x ∷ []) xs e ∙ ap (λ (l : List (Sent P)). rows_after sim (done ++ x ∷ []) xs ++ (fired_after sim l e).rows) (append_assoc done (x ∷ []) xs))
      ∙ sym (append_assoc (fired_after sim done x).rows (rows_after sim (done ++ x ∷ []) xs) (fired_after sim (done ++ x ∷ xs) e).rows)

  -- records, with one more event
  records-snoc : (xs : List (Sent P)) (e : Sent P) → records_of (rows_after sim [] (xs ++ e ∷ [])) ≡ records_of (rows_after sim [] xs) ++ records_of (fired_after sim xs e).rows
  records-snoc xs e = ap records_of (rows-snoc [] xs e) ∙ map-append (λ (r : Row). r.rec) (rows_after sim [] xs) (fired_after sim xs e).rows

  -- a step adds records
  step_adds : (n : ℕ) → (fresh : List Record) × (records_to sim (suc n) ≡ records_to sim n ++ fresh)
  step_adds n = go (least_event x.pending) where
    x : RunState P
    x = after_steps sim n

    go : (o : Option (Sent P)) → (fresh : List Record) × (records_of (rows_after sim [] (option_map_or (with_event sim x) o x).executed) ≡ records_of (rows_after sim [] x.executed) ++ fresh)
    go None = ([], sym (append-nil _))
    go (Some e) = (records_of (fired_after sim x.executed e).rows, records-snoc x.executed e)

  -- and so do more steps
  steps_add : (n k : ℕ) → (fresh : List Record) × (records_to sim (k + n) ≡ records_to sim n ++ fresh)
  steps_add n zero = let none : 0 + n ≡ n = omega arith in ([], ap (records_to sim) none ∙ sym (append-nil (records_to sim n)))
  steps_add n (suc k) =
      let before = steps_add n k in
      let next = step_adds (k + n) in
      let one : suc k + n ≡ suc (k + n) = omega arith in
      (before.0 ++ next.0, ap (records_to sim) one ∙ next.1 ∙ ap (λ l. l ++ next.0) before.1 ∙ append_assoc (records_to sim n) before.0 next.0)

module _ {S P : Type 0} (sim : Simulation S P) (lawful : IsLawful sim) where
  -- with nothing pending, the records are those of the whole run
  pub whole_records : (n : ℕ) → (after_steps sim n).pending ≡ [] → records_to sim n ≡ seq_records sim sim.end
  whole_records n none =
      let all : (after_steps sim n).executed ≡ whole_run sim = executed_all sim lawful n none in
      let early : (e : Sent P) → Among e (after_steps sim n).executed → e.key.time < sim.end =
      λ e m. (known_sent sim lawful (lists_of sim lawful (after_steps sim n).executed) e ((reached sim lawful n).made e (inr m))).1 in
      ap (map (λ (r : Row). r.rec)) (sym (all_before sim lawful.rows sim.end [] (after_steps sim n).executed early))
      ∙ ap (seq_of sim) all where
        seq_of : (y : Simulation S P) → List (Sent P) → List Record
        seq_of y es = map (λ (r : Row). r.rec) (filter (λ (r : Row). nat_lt r.key.time y.end) (rows_after y [] es))

  -- after the run's end nothing changes
  stays : (k : ℕ) → after_steps sim (k + weight sim (opening sim).pending) ≡ after_steps sim (weight sim (opening sim).pending)
  stays zero = let end : ℕ = weight sim (opening sim).pending in let none : 0 + end ≡ end = omega arith in ap (after_steps sim) none
  stays (suc k) =
      let end : ℕ = weight sim (opening sim).pending in
      let one : suc k + end ≡ suc (k + end) = omega arith in
      let none : (after_steps sim (k + end)).pending ≡ [] = ap (λ (x : RunState P). x.pending) (stays k) ∙ ends sim lawful in
      ap (after_steps sim) one ∙ no_step sim lawful (k + end) none ∙ stays k

  -- the records of any number of steps begin those of the whole run
  records_begin : (n : ℕ) → BeginRun sim (records_to sim n)
  records_begin n =
      let end : ℕ = weight sim (opening sim).pending in
      let more = steps_add sim n end in
      let swap : n + end ≡ end + n = omega arith in
      let none : (after_steps sim (end + n)).pending ≡ [] = subst (λ (k : ℕ). (after_steps sim k).pending ≡ []) swap (ap (λ (x : RunState P). x.pending) (stays n) ∙ ends sim lawful) in
      record { rest = more.0; whole = sym (whole_records (end + n) none) ∙ more.1 }

  -- where nothing is pending, a step adds nothing
  pub adds_nothing : {M K : Type 0} (n : ℕ) (records : List Record) {pending : List (Sent P)} {processes : List (Process M S P K)}
      → pending ≡ [] → StandsAt sim n pending processes → AddsStep sim n records records
  adds_nothing n records {pending} none st = record {
    fresh = [];
    added = sym (append-nil records);
    next = ap (λ (x : RunState P). records_of (rows_after sim [] x.executed)) (no_step sim lawful n (none_pending (after_steps sim n).pending pending st.had none)) ∙ sym (append-nil (records_to sim n));
    begins = records_begin (suc n);
  }

  -- the records below a time are those of the rows below it
  pub records_before : (n t : ℕ) → filter (λ (r : Record). time_before (record_time r) t) (records_to sim n) ≡ map (λ (r : Row). r.rec) (filter (λ (r : Row). nat_lt r.key.time t) (rows_after sim [] (after_steps sim n).executed))
  records_before n t = told_before sim lawful.rows t [] (after_steps sim n).executed

  -- with nothing pending, the whole run's send numbers are within their limits where those of the processes are
  pub counted_whole : (n : ℕ) → (after_steps sim n).pending ≡ [] → IsCounted sim n → IsCountedWhole sim
  counted_whole n none counted p is = subst (λ (es : List (Sent P)). (after sim p (events_of p es)).number ≤ MAX_COUNT) (executed_all sim lawful n none) (counted p is)

  -- and then no further step raises a send number
  pub counted_on : (n : ℕ) → (after_steps sim n).pending ≡ [] → IsCountedWhole sim → IsCounted sim (suc n)
  counted_on n none counted p is =
      subst (λ (x : RunState P). (after sim p (events_of p x.executed)).number ≤ MAX_COUNT) (sym (no_step sim lawful n none))
      (subst (λ (es : List (Sent P)). (after sim p (events_of p es)).number ≤ MAX_COUNT) (sym (executed_all sim lawful n none)) (counted p is))

module _ {M S P K : Type 0} (sim : Simulation S P) (lawful : IsLawful sim) where
  -- the code's step adds the records of the definition's
  pub adds_step : (n : ℕ) {pending after_pending : List (Sent P)} {processes : List (Process M S P K)} {records after_records : List Record} {e : Sent P} {p : Process M S P K} (q : Process M S P K)
      → StandsAt sim n pending processes → IsNext sim.lps sim.end pending processes e p
      → HasExecuted (sim.fire e.dest (triple_at p.state p.number p.stream) e) pending records q.state q.number q.stream after_pending after_records
      → AddsStep sim n records after_records
  unfolding fired_after
  adds_step n {records} {e} {p} q st next f =
      let x : RunState P = after_steps sim n in
      let seat = seated sim n st next in
      let is : sim.fire e.dest (triple_at p.state p.number p.stream) e ≡ fired_after sim x.executed e = ap (λ (t : Triple S). sim.fire e.dest t e) seat in
      record {
        fresh = records_of (fired_after sim x.executed e).rows;
        added = f.records ∙ ap (λ (g : Fired S P). records ++ records_of g.rows) is;
        next = ap (λ (y : RunState P). records_of (rows_after sim [] y.executed)) (step_is sim lawful n st next) ∙ records-snoc sim x.executed e;
        begins = records_begin sim lawful (suc n);
      }
