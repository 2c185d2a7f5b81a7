-- What the records of a place say of the run, once its worker's work has ended.
use Rattle.std.proofs.Common.{ℕ, List, [], ◌∷◌, ◌++◌, length, take, drop, map, Bool, true, false, cond, Option, Some, None, IfSome, IfNone, slice_index_or, Result, Ok, Err, inl, inr, subst, ap, refl, sym, ◌∙◌, arith, Vec, Global}
use Rattle.std.proofs.Math.Seq.{take-append_seam}
use Rattle.std.proofs.lemmas.Bool.{le-ltb}
use Rattle.std.proofs.lemmas.List.Elements.{recursion_from_All}
use Rattle.std.proofs.lemmas.Option.{slice_get_within, get_or_from_slice_get}
use Rattle.std.specs.List.{AllByRecursion}
use Rattle.std.specs.Option.{unwrap_or}
use Rattle.std.specs.Prelude.{◌≡◌, ◌<◌, ◌⊎◌, IfOk, IfErr, MatchResult}
use Rattle.vt_key.specs.promise.Times.{Time, opening_time, time_before}
use Rattle.vt_key.specs.declared.fault.Fault.{Fault}
use Rattle.vt_model.specs.declared.rows.Record.{Record}
use Rattle.vt_model.specs.declared.rows.Row.{Row}
use Rattle.vt_model.specs.promise.Simulation.{Simulation}
use Rattle.vt_model.specs.promise.Sequential.{rows_before, records_of, rows_after, whole_run, seq_records}
use Rattle.vt_steps.specs.inside.Marked.{answered, has_closed}
use Rattle.vt_places.specs.declared.view.View.{View}
use Rattle.vt_station.specs.declared.crew.Stopped.{Stopped}
use Rattle.vt_station.specs.declared.crew.Finished.{Finished}
use Rattle.vt_station.specs.declared.driver.Outcome.{Outcome}
use Rattle.vt_station.specs.declared.driver.Outcome.TheVariants.{Closed}
use Rattle.vt_places.specs.inside.Calls.{AreRecordsShown}
use Rattle.vt_key.specs.declared.fault.Fault.TheVariants.{Busy, TurnsSpent}
use Rattle.vt_model.specs.declared.settings.Config.{Config}
use Rattle.vt_station.specs.declared.pieces.Standing.TheVariants.{GoesOn}
use Rattle.vt_station.specs.promise.Crew.{IsStop}
use Rattle.vt_station.specs.inside.Crew.{AtJob, IsLeftBy, IsToldBy, IsClosedAt, NoneClosed, AreUnbegun, fault_or, first_fault, StandsBy}
use Rattle.vt_station.specs.promise.Turns.{IsLasting}

-- the worker closed the book, and its place knows it
pub closed-left : {P : Type 0} (view : View P) (outcome : Option Outcome) → IsLeftBy view outcome → outcome ≡ Some Closed → has_closed (map answered view.mine) ≡ true
closed-left view outcome left is = subst (λ (o : Option Outcome). IsLeftBy view o) is left

-- the records are those before some time, and where the worker closed the book all
pub records-left : {S P X : Type 0} (sim : Simulation S P) (items : X → List Record) (result : Result X Fault) (v : View P) (outcome : Option Outcome)
    → (outcome ≡ Some Closed → has_closed (map answered v.mine) ≡ true)
    → IfOk result (λ x. (floor : Time) × AreRecordsShown sim v floor (items x))
    → IfOk result (λ x. (floor : Time) × (items x ≡ seq_records sim floor) × (outcome ≡ Some Closed → floor ≡ sim.end))
records-left sim items (Ok x) v outcome closed done = (done.0, done.1.records_are, λ is. done.1.closed (closed is))
records-left sim items (Err fault) v outcome closed done = tt

-- nothing is before the opening
rows-none : (rows : List Row) → rows_before opening_time rows ≡ []
rows-none [] = refl
rows-none (row ∷ rows) =
    let no : time_before row.key.time opening_time ≡ false = le-ltb row.key.time opening_time (omega arith) in
    ap (λ (b : Bool). cond b (row ∷ rows_before opening_time rows) (rows_before opening_time rows)) no ∙ rows-none rows

pub none-at-first : {S P : Type 0} (sim : Simulation S P) → [] ≡ seq_records sim opening_time
none-at-first sim = ap (λ (rows : List Row). records_of rows) (sym (rows-none (rows_after sim [] (whole_run sim))))

-- what a run stops with: the records that a place shows, or none
pub stop-records : {S P X : Type 0} (sim : Simulation S P) (items : X → List Record) (result : Result X Fault) (records : List Record) (Known : Time → Type 0) (A : X → Type 0) (B : Fault → Type 0)
    → IfOk result (λ x. (floor : Time) × (items x ≡ seq_records sim floor) × Known floor) → MatchResult result (λ x. A x × (records ≡ items x)) (λ fault. B fault × (records ≡ []))
    → (t : Time) × (records ≡ seq_records sim t)
stop-records sim items (Ok x) records Known A B shown stops = (shown.0, stops.1 ∙ shown.1)
stop-records sim items (Err fault) records Known A B shown stops = (opening_time, stops.1 ∙ none-at-first sim)

-- why it stops: for what ended the work, or since the book was claimed
pub stop-fault : {X : Type 0} (config : Config) (items : X → List Record) (result : Result X Fault) (fault told : Fault) (records : List Record) → IsLasting fault ⊎ (fault ≡ TurnsSpent)
    → IfErr result (λ refused. (refused ≡ Busy) × (1 < config.workers)) → MatchResult result (λ x. (told ≡ fault) × (records ≡ items x)) (λ refused. (told ≡ refused) × (records ≡ [])) → IsStop config told records
stop-fault config items (Ok x) fault told records (inl lasting) busy stops = inl (subst IsLasting (sym stops.0) lasting)
stop-fault config items (Ok x) fault told records (inr spent) busy stops = inr (inl (stops.0 ∙ spent))
stop-fault config items (Err refused) fault told records ended busy stops = inr (inr (stops.0 ∙ busy.0, busy.1, stops.1))

-- and what it is told by: that fault, since no worker closed the book, or that the book was claimed
pub stop-told : {M X : Type 0} (config : Config) (jobs : List (AtJob M)) (items : X → List Record) (result : Result X Fault) (fault told : Fault) (records : List Record) → NoneClosed jobs → fault ≡ first_fault jobs
    → IfErr result (λ refused. (refused ≡ Busy) × (1 < config.workers)) → MatchResult result (λ x. (told ≡ fault) × (records ≡ items x)) (λ refused. (told ≡ refused) × (records ≡ [])) → IsToldBy jobs told records
stop-told config jobs items (Ok x) fault told records none first busy stops = inl (none, stops.0 ∙ first)
stop-told config jobs items (Err refused) fault told records none first busy stops = inr (stops.0 ∙ busy.0, stops.1)

-- a run that went to its end, or was told as stopped since its final values were refused
module _ (records : Result (Vec Record Global) Stopped) (finals : Result (Vec ℕ Global) Fault) (A : Vec Record Global → Type 0) where
  pub finished-records : (result : Result Finished Stopped) → IfOk result (λ v. (records ≡ Ok v.records) × (finals ≡ Ok v.finals)) → IfOk records A → IfOk result (λ v. A v.records)
  finished-records (Ok v) is all = subst (λ r. IfOk r A) is.0 all
  finished-records (Err stopped) is all = tt

  pub finished-finals : (F : Vec ℕ Global → Type 0) (result : Result Finished Stopped) → IfOk result (λ v. (records ≡ Ok v.records) × (finals ≡ Ok v.finals)) → IfOk finals F → IfOk result (λ v. F v.finals)
  finished-finals F (Ok v) is all = subst (λ r. IfOk r F) is.1 all
  finished-finals F (Err stopped) is all = tt

  pub finish-stopped : (B : Fault → Type 0) (Told : Fault → List Record → Type 0) (result : Result Finished Stopped)
      → IfErr result (λ stopped. (records ≡ Err stopped) ⊎ ((records ≡ Ok stopped.records) × (finals ≡ Err stopped.fault)))
      → IfErr records (λ stopped. Told stopped.fault stopped.records.items) → IfOk records A → IfErr finals B → ((v : Vec Record Global) (fault : Fault) → A v → B fault → Told fault v.items)
      → IfErr result (λ stopped. Told stopped.fault stopped.records.items)
  finish-stopped B Told (Ok v) is told all refused then = tt
  finish-stopped B Told (Err stopped) (inl is) told all refused then = subst (λ r. IfErr r (λ s. Told s.fault s.records.items)) is told
  finish-stopped B Told (Err stopped) (inr is) told all refused then = then stopped.records stopped.fault (subst (λ r. IfOk r A) is.0 all) (subst (λ r. IfErr r B) is.1 refused)

-- a list that was lent to a call, which kept its length
pub whole-again : {X : Type 0} (n : ℕ) (new old : List X) → length new ≡ n → take n (new ++ drop (length new) old) ≡ new
whole-again n new old count = ap (λ m. take m (new ++ drop (length new) old)) (sym count) ∙ take-append_seam new (drop (length new) old)

-- the job whose place is read: that of the worker that closed the book, if there is one, else the first
module _ {M : Type 0} (jobs : List (AtJob M)) (some : 0 < length jobs) where
  pub reader-there : (closer : Option ℕ) → IfSome closer (IsClosedAt jobs) → unwrap_or closer 0 < length jobs
  reader-there (Some i) closed = slice_get_within jobs i closed.0 closed.1
  reader-there None closed = some

  pub reader-closed : (closer : Option ℕ) → IfSome closer (IsClosedAt jobs) → IfNone closer (NoneClosed jobs) → (NoneClosed jobs → ⊥) → (d : AtJob M) → (slice_index_or jobs (unwrap_or closer 0) d).outcome ≡ Some Closed
  reader-closed (Some i) closed none some-closed d = ap (λ (j : AtJob M). j.outcome) (get_or_from_slice_get jobs i closed.0 d closed.1) ∙ closed.2
  reader-closed None closed none some-closed d = absurd (some-closed none)

-- a run of which no work has begun goes on
module _ {M : Type 0} where
  none-yet : (jobs : List (AtJob M)) → AllByRecursion (λ j. j.outcome ≡ None) jobs → first_fault jobs ≡ TurnsSpent
  none-yet [] unbegun = refl
  none-yet (job ∷ jobs) unbegun = ap (λ (o : Option Outcome). fault_or o (first_fault jobs)) unbegun.0 ∙ none-yet jobs unbegun.1

  pub unbegun-stands : (jobs : List (AtJob M)) → AreUnbegun jobs → StandsBy jobs GoesOn
  unbegun-stands jobs unbegun = (
    λ i d below closed. (let no : Some Closed ≡ None = sym closed ∙ unbegun i d below in cc),
    none-yet jobs (recursion_from_All (λ (j : AtJob M). j.outcome ≡ None) jobs unbegun),
  )
