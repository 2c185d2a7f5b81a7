use Rattle.std.proofs.Common.{◌≡◌, List, sym, ◌∙◌, subst, ap, inl, length, take, drop, ◌++◌}
use Rattle.vt_key.specs.promise.Times.{Time, opening_time}
use Rattle.vt_key.specs.declared.fault.Fault.TheVariants.{Memory}
use Rattle.vt_model.specs.promise.Simulation.{simulation_of}
use Rattle.vt_model.specs.promise.Sequential.{seq_records}
use Rattle.vt_model.specs.promise.Settings.{end_of}
use Rattle.vt_station.specs.promise.Crew.{IsStop}
use Rattle.vt_station.specs.inside.Crew.{AtJob, AllAt, AreInOrder}
use Rattle.vt_station.proofs.CrewLemmas.{none-at-first, finished-records, finished-finals, finish-stopped, whole-again}
use Rattle.vt_station.proofs.crew.run_crew.Given.{Over}
use Rattle.vt_station.proofs.crew.run_crew.Goals.{After-work_all}
use Rattle.vt_station.proofs.crew.run_crew.Goals as goal

pub returns-in-Err-clause-begun : goal.returns-in-Err-clause-begun
returns-in-Err-clause-begun g c = (opening_time, c.stop_with.ensures.1 ∙ none-at-first (simulation_of (g.M.Model.handlers c.args.model.now) c.args.config))

pub returns-in-Err-jobs_at-clause-begun : goal.returns-in-Err-jobs_at-clause-begun
returns-in-Err-jobs_at-clause-begun g c = (opening_time, c.stop_with-in-Err-jobs_at.ensures.1 ∙ none-at-first (simulation_of (g.M.Model.handlers c.args.model.now) c.args.config))

pub returns-in-Err-new-clause-begun : goal.returns-in-Err-new-clause-begun
returns-in-Err-new-clause-begun g c = (opening_time, c.stop_with-in-Err-new.ensures.1 ∙ none-at-first (simulation_of (g.M.Model.handlers c.args.model.now) c.args.config))

-- the jobs after the work, as they stand in their list
again : (g : Over) (c : After-work_all g) → take c.in-Ok-jobs_at.jobs.len (c.work_all.new.jobs ++ drop (length c.work_all.new.jobs) c.in-Ok-jobs_at.jobs.items) ≡ c.work_all.new.jobs
again g c =
    let old = c.in-Ok-jobs_at.jobs in
    whole-again old.len c.work_all.new.jobs old.items (c.work_all.ensures.count ∙ ap length c.as_mut_slice.ensures.value ∙ sym old.ok.0)

-- they are for the same model and config
told : (g : Over) (c : After-work_all g) → AllAt c.args.model.now c.args.config c.work_all.new.jobs
told g c = c.work_all.ensures.told c.args.model.now c.args.config (subst (AllAt c.args.model.now c.args.config) (sym c.as_mut_slice.ensures.value) c.in-Ok-jobs_at.ensures.told.0)

pub finals_of-finals-requires-clause-told : goal.finals_of-finals-requires-clause-told
finals_of-finals-requires-clause-told g c κs within =
    let after = (goal.at.finals_of-finals-requires-clause-told g c).After-work_all in
    subst (AllAt c.args.model.now c.args.config) (sym (c.as_slice.ensures.value ∙ again g after)) (told g after)

pub finals_of-finals-requires-clause-order : goal.finals_of-finals-requires-clause-order
finals_of-finals-requires-clause-order g c κs within =
    let order = c.work_all.ensures.order (subst (λ (jobs : List (AtJob g.row.M.Denot)). AreInOrder jobs) (sym c.as_mut_slice.ensures.value) c.in-Ok-jobs_at.ensures.order) in
    subst (λ (jobs : List (AtJob g.row.M.Denot)). AreInOrder jobs) (sym (c.as_slice.ensures.value ∙ again g (goal.at.finals_of-finals-requires-clause-order g c).After-work_all)) order

pub answer_of-requires-clause-told : goal.answer_of-requires-clause-told
answer_of-requires-clause-told g c κs within =
    let after = (goal.at.answer_of-requires-clause-told g c).After-work_all in
    subst (AllAt c.args.model.now c.args.config) (sym (again g after)) (told g after)

pub returns-clause-whole : goal.returns-clause-whole
returns-clause-whole g c = finished-records c.answer_of.result c.finals_of-finals.result _ c.finish_with.result c.finish_with.ensures.finished c.answer_of.ensures.whole

pub returns-clause-finals : goal.returns-clause-finals
returns-clause-finals g c = finished-finals c.answer_of.result c.finals_of-finals.result (λ _. Unit {0}) _ c.finish_with.result c.finish_with.ensures.finished c.finals_of-finals.ensures.finals

pub returns-clause-begun : goal.returns-clause-begun
returns-clause-begun g c =
    let sim = simulation_of (g.M.Model.handlers c.args.model.now) c.args.config in
    finish-stopped c.answer_of.result c.finals_of-finals.result (λ v. v.items ≡ seq_records sim (end_of c.args.config)) _ (λ fault records. (t : Time) × (records ≡ seq_records sim t)) c.finish_with.result c.finish_with.ensures.stopped
    c.answer_of.ensures.begun c.answer_of.ensures.whole c.finals_of-finals.ensures.refused (λ v fault all refused. (end_of c.args.config, all))

pub returns-clause-fault : goal.returns-clause-fault
returns-clause-fault g c =
    let sim = simulation_of (g.M.Model.handlers c.args.model.now) c.args.config in
    finish-stopped c.answer_of.result c.finals_of-finals.result (λ v. v.items ≡ seq_records sim (end_of c.args.config)) (λ fault. fault ≡ Memory) (IsStop c.args.config) c.finish_with.result c.finish_with.ensures.stopped
    c.answer_of.ensures.fault c.answer_of.ensures.whole c.finals_of-finals.ensures.refused (λ v fault all refused. inl (inl refused))
