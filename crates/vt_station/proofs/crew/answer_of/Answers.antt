use Rattle.std.proofs.Common.{rules, ◌≡◌, sym, ◌∙◌, ap, subst, inr, List, length, Some, slice_get}
use Rattle.std.proofs.lemmas.Option.{slice_get_within, get_or_from_slice_get}
use Rattle.std.specs.Prelude.{◌<◌, IfOk, IfErr}
use Rattle.vt_key.specs.promise.Times.{Time, opening_time}
use Rattle.vt_model.specs.declared.settings.Config.{Config}
use Rattle.vt_model.specs.promise.Simulation.{simulation_of}
use Rattle.vt_model.specs.promise.Sequential.{seq_records}
use Rattle.vt_model.specs.promise.Settings.{end_of}
use Rattle.vt_station.specs.declared.driver.Outcome.TheVariants.{Closed}
use Rattle.vt_key.specs.declared.fault.Fault.TheVariants.{Busy}
use Rattle.vt_station.specs.promise.Crew.{IsStop}
use Rattle.vt_station.specs.inside.Crew.{AtJob, IsToldBy, NoneClosed, first_fault}
use Rattle.vt_station.proofs.CrewLemmas.{none-at-first, stop-records, stop-fault, stop-told}
use Rattle.vt_station.proofs.crew.answer_of.Given.{Over}
use Rattle.vt_station.proofs.crew.answer_of.Goals as goal
use Rattle.vt_station.proofs.crew.answer_of.Goals.{In-Some, in-Ok, in-Err}

-- the job that closed the book is one of them
within : (g : Over) (c : In-Some g) → c.in-Some.closer < length c.args.jobs.items
within g c =
    let closed = c.in-Some.ensures.some in
    subst (λ (l : List (AtJob g.row.M.Denot)). c.in-Some.closer < length l) c.as_slice.ensures.value (slice_get_within c.as_slice.result.now c.in-Some.closer closed.0 closed.1)

pub remove-requires : goal.remove-requires
remove-requires g c = subst (λ n. c.in-Some.closer < n) (sym c.args.jobs.ok.0) (within g (goal.at.remove-requires g c).In-Some)

pub remove-requires-2 : goal.remove-requires-2
remove-requires-2 g c = subst (λ n. 0 < n) (sym c.args.jobs.ok.0) c.requires.some

pub returns-in-Some-clause-told : goal.returns-in-Some-clause-told
returns-in-Some-clause-told g c =
    let jobs = c.args.jobs.items in
    elim c.match-into_records.branch [
      | in-Ok w ↦ subst (λ r. IfErr r (λ stopped. IsToldBy jobs stopped.fault stopped.records.items)) (sym w.result-is) tt
      | in-Err w ↦ subst (λ r. IfErr r (λ stopped. IsToldBy jobs stopped.fault stopped.records.items)) (sym w.result-is) (inr (w.stop_with.ensures.0 ∙ w.in-Err.ensures.refused.0, w.stop_with.ensures.1))
    ]

pub returns-in-Some-clause-whole : goal.returns-in-Some-clause-whole
returns-in-Some-clause-whole g c =
    let H = g.M.Model.handlers in
    let whole = seq_records (simulation_of (H c.args.model.now) c.args.config) (end_of c.args.config) in
    let jobs = c.args.jobs.items in
    let job = c.remove.result in
    let closer = c.in-Some.closer in
    let closed = c.in-Some.ensures.some in
    let is = c.remove.ensures.value in
    let told = c.requires.told closer job (within g (goal.at.returns-in-Some-clause-whole g c).In-Some) in
    let model : job.model ≡ c.args.model.now = ap (λ (j : AtJob g.row.M.Denot). j.model) is ∙ told.0 in
    let config : job.config ≡ c.args.config = ap (λ (j : AtJob g.row.M.Denot). j.config) is ∙ told.1 in
    let found : slice_get jobs closer ≡ Some closed.0 = subst (λ (l : List (AtJob g.row.M.Denot)). slice_get l closer ≡ Some closed.0) c.as_slice.ensures.value closed.1 in
    let done : job.outcome ≡ Some Closed = ap (λ (j : AtJob g.row.M.Denot). j.outcome) (is ∙ get_or_from_slice_get jobs closer closed.0 job found) ∙ closed.2 in
    elim c.match-into_records.branch [
      | in-Ok w ↦
          let shown = w.in-Ok.ensures.shown in
          let floor = shown.2 done ∙ ap (λ (k : Config). end_of k) config in
          subst (λ r. IfOk r (λ v. v.items ≡ whole)) (sym w.result-is) (shown.1 ∙ (λ i. seq_records (simulation_of (H (model i)) (config i)) (floor i)))
      | in-Err w ↦ subst (λ r. IfOk r (λ v. v.items ≡ whole)) (sym w.result-is) tt
    ]

pub returns-clause-told : goal.returns-clause-told
returns-clause-told g c =
    let jobs = c.args.jobs.items in
    stop-told c.remove-2.result.config jobs (λ v. v.items) c.into_records-records.result c.fault_of-fault.result c.stop_with-2.result.fault c.stop_with-2.result.records.items
    (subst NoneClosed c.as_slice.ensures.value c.in_default.ensures.none) (c.fault_of-fault.ensures.first ∙ ap first_fault c.as_slice-2.ensures.value) c.into_records-records.ensures.refused c.stop_with-2.ensures

pub returns-in-Some-clause-begun : goal.returns-in-Some-clause-begun
returns-in-Some-clause-begun g c =
    let sim = simulation_of (g.M.Model.handlers c.args.model.now) c.args.config in
    elim c.match-into_records.branch [
      | in-Ok w ↦ subst (λ r. IfErr r (λ stopped. (t : Time) × (stopped.records.items ≡ seq_records sim t))) (sym w.result-is) tt
      | in-Err w ↦ subst (λ r. IfErr r (λ stopped. (t : Time) × (stopped.records.items ≡ seq_records sim t))) (sym w.result-is) (opening_time, w.stop_with.ensures.1 ∙ none-at-first sim)
    ]

pub returns-clause-begun : goal.returns-clause-begun
returns-clause-begun g c =
    let job = c.remove-2.result in
    let told : (job.model ≡ c.args.model.now) × (job.config ≡ c.args.config) = search rules in
    let shown = c.into_records-records in
    let of-model = subst (λ (m : g.row.M.Denot). IfOk shown.result (λ v. (floor : Time) × (v.items ≡ seq_records (simulation_of (g.M.Model.handlers m) job.config) floor) × (job.outcome ≡ Some Closed → floor ≡ (end_of job.config)))) told.0 shown.ensures.shown in
    let of-config = subst (λ (k : Config). IfOk shown.result (λ v. (floor : Time) × (v.items ≡ seq_records (simulation_of (g.M.Model.handlers c.args.model.now) k) floor) × (job.outcome ≡ Some Closed → floor ≡ (end_of k)))) told.1 of-model in
    stop-records (simulation_of (g.M.Model.handlers c.args.model.now) c.args.config) (λ v. v.items) shown.result c.stop_with-2.result.records.items
    (λ floor. job.outcome ≡ Some Closed → floor ≡ (end_of c.args.config)) (λ v. c.stop_with-2.result.fault ≡ c.fault_of-fault.result) (λ refused. c.stop_with-2.result.fault ≡ refused) of-config c.stop_with-2.ensures

pub returns-in-Some-clause-fault : goal.returns-in-Some-clause-fault
returns-in-Some-clause-fault g c =
    let job = c.remove.result in
    let told = c.requires.told c.in-Some.closer job (within g (goal.at.returns-in-Some-clause-fault g c).In-Some) in
    let known : job.config ≡ c.args.config = ap (λ (j : AtJob g.row.M.Denot). j.config) c.remove.ensures.value ∙ told.1 in
    elim c.match-into_records.branch [
      | in-Ok w ↦ subst (λ r. IfErr r (λ stopped. IsStop c.args.config stopped.fault stopped.records.items)) (sym w.result-is) tt
      | in-Err w ↦
          let busy = subst (λ (k : Config). (w.in-Err.fault ≡ Busy) × (1 < k.workers)) known w.in-Err.ensures.refused in
          subst (λ r. IfErr r (λ stopped. IsStop c.args.config stopped.fault stopped.records.items)) (sym w.result-is) (inr (inr (w.stop_with.ensures.0 ∙ busy.0, busy.1, w.stop_with.ensures.1)))
    ]

pub returns-clause-fault : goal.returns-clause-fault
returns-clause-fault g c =
    let job = c.remove-2.result in
    let told : (job.model ≡ c.args.model.now) × (job.config ≡ c.args.config) = search rules in
    let shown = c.into_records-records in
    let busy = subst (λ (k : Config). IfErr shown.result (λ fault. (fault ≡ Busy) × (1 < k.workers))) told.1 shown.ensures.refused in
    stop-fault c.args.config (λ v. v.items) shown.result c.fault_of-fault.result c.stop_with-2.result.fault c.stop_with-2.result.records.items c.fault_of-fault.ensures.stop busy c.stop_with-2.ensures
