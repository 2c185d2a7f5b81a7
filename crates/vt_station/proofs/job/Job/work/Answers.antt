use Rattle.std.specs.Option.{option_map}
use Rattle.std.proofs.Common.{◌≡◌, refl, sym, ◌∙◌, subst, ap, inl, Some, IfSome}
use Rattle.vt_key.specs.declared.fault.Fault.TheVariants.{Memory}
use Rattle.vt_model.specs.promise.Simulation.{simulation_of}
use Rattle.vt_steps.specs.inside.Finals.{worker_finals}
use Rattle.vt_places.specs.inside.Told.{station_model, station_config, station_table}
use Rattle.vt_places.specs.declared.view.View.{View}
use Rattle.vt_places.proofs.FinalLemmas.{finals-told}
use Rattle.vt_station.specs.declared.job.Post.{Post}
use Rattle.vt_station.specs.declared.job.Job.TheInside.{Inside}
use Rattle.vt_station.specs.inside.Crew.{IsJob, StandsThere, IsLeftBy, view_of}
use Rattle.vt_station.specs.declared.driver.Outcome.TheVariants.{Refused}
use Rattle.vt_station.specs.inside.Turns.{HasEnded}
use Rattle.vt_station.proofs.JobLemmas.{stands-taken, stands-from, not-begun, view-from, stands-on, same-job}
use Rattle.vt_station.proofs.job.Job.work.Given.{Over}
use Rattle.vt_station.proofs.job.Job.work.Goals.{in-Some+in-New-1, in-Some+in-Begun-1, in-Some+in-Left-1, in-None-2, in-Some-fault, in_default-fault, in-Some+in-New-2, in-Some+in-Begun-2, in-Some+in-Left-2, in-None-3}
use Rattle.vt_station.proofs.job.Job.work.Goals as goal

pub invariant_of-self-in-Ok-4 : goal.invariant_of-self-in-Ok-4
invariant_of-self-in-Ok-4 g c =
    let i = c.self.inside in
    let before = c.self.invariant in
    let begun = c.in-Ok.ensures.begun in
    let ran = c.run-outcome.ensures.same in
    let told = c.tell.ensures.same in
    let stayed = c.finals.ensures.same in
    let driver = c.finals.new.self in
    let model = ap (λ w. w.model) told ∙ ran.model ∙ begun.0 in
    let config = ap (λ w. w.config) told ∙ ran.config ∙ begun.1 in
    let number = ap (λ w. w.view.worker) told ∙ ran.worker ∙ begun.3 in
    record {
      model_is = before.model_is;
      config_is = before.config_is;
      within = before.within;
      there = c.rest.result;
      post_is = refl;
      stands = stands-from (simulation_of (g.M.Model.handlers i.model.now) i.config) driver c.rest.result
          (stayed.station.model ∙ model, stayed.station.config ∙ config, stayed.station.table ∙ ap (λ w. w.table) told ∙ ran.table ∙ begun.2, stayed.station.worker ∙ number) c.rest.ensures.there;
      left = subst (λ (v : View g.row.M-Payload.Denot). HasEnded v c.run-outcome.result) (sym (view-from driver c.rest.result c.rest.ensures.there ∙ stayed.view ∙ ap (λ w. w.view) told)) c.run-outcome.ensures.ended;
      finals_are = finals-told (λ v. v.items) c.finals.result _ _ (λ j. worker_finals (simulation_of (g.M.Model.handlers (model j)) (config j)) (number j)) c.finals.ensures.values;
    }

-- what holds of the fields of a job whose worker stands there
abbrev HoldsAt : (g : Over) → Post g.row.M.Denot g.row.M-State.Denot g.row.M-Payload.Denot g.row.M-Kept.Denot → Inside g.row.M.Denot g.row.M-State.Denot g.row.M-Payload.Denot g.row.M-Kept.Denot → Type 0
HoldsAt g there i = IsJob g.M.Model.handlers (station_model i.station.now) (station_config i.station.now) (station_table i.station.now) i.model.now i.config i.worker (Some there) i.outcome (option_map (λ v. v.items) i.finals)

pub invariant_of-self-after-fault-4 : goal.invariant_of-self-after-fault-4
invariant_of-self-after-fault-4 g c =
    let i = c.self.inside in
    let before = c.self.invariant in
    let post = c.in-Err.post in
    let sim = simulation_of (g.M.Model.handlers i.model.now) i.config in
    let refused = c.in-Err.ensures.refused in
    let here = stands-taken before c.take.ensures.value c.in-Some.is in
    let there = subst (λ p. StandsThere sim i.model.now i.config (station_table i.station.now) i.worker p × IsLeftBy (view_of p) i.outcome) (sym refused.0) here in
    elim c.match-fault.branch [
      | in-Some-fault w ↦
          let memory = subst (λ o. IfSome o (λ f. f ≡ Memory)) w.in-Some-fault.is (not-begun c.in-Some.post c.in-Err.fault refused.1) in
          subst (HoldsAt g post) (sym w.self-inside-is) (stands-on before post {ended = Some (Refused w.in-Some-fault.fault)} there.0 (inl memory))
      | in_default-fault w ↦ subst (HoldsAt g post) (sym w.self-inside-is) (stands-on before post there.0 there.1)
    ]

pub returns-in-Ok : goal.returns-in-Ok
returns-in-Ok g c =
    elim c.match-self.branch [
      | in-Some+in-New-1 w ↦ record { same = same-job c.self.view_is w.self-is (refl, refl, refl, refl) }
      | in-Some+in-Begun-1 w ↦ record { same = same-job c.self.view_is w.self-is (refl, refl, refl, refl) }
      | in-Some+in-Left-1 w ↦ record { same = same-job c.self.view_is w.self-is (refl, refl, refl, refl) }
      | in-None-2 w ↦ record { same = same-job c.self.view_is w.self-is (refl, refl, refl, refl) }
    ]

pub returns-after-fault : goal.returns-after-fault
returns-after-fault g c =
    let i = c.match-fault.self-inside in
    let old = c.self.inside in
    let same : (i.model.now ≡ old.model.now) × (i.config ≡ old.config) × (station_table i.station.now ≡ station_table old.station.now) × (i.worker ≡ old.worker) =
    elim c.match-fault.branch [
      | in-Some-fault w ↦ (ap (λ j. j.model.now) w.self-inside-is, ap (λ j. j.config) w.self-inside-is, ap (λ j. station_table j.station.now) w.self-inside-is, ap (λ j. j.worker) w.self-inside-is)
      | in_default-fault w ↦ (ap (λ j. j.model.now) w.self-inside-is, ap (λ j. j.config) w.self-inside-is, ap (λ j. station_table j.station.now) w.self-inside-is, ap (λ j. j.worker) w.self-inside-is)
    ] in
    elim c.match-self-3.branch [
      | in-Some+in-New-2 w ↦ record { same = same-job c.self.view_is w.self-is same }
      | in-Some+in-Begun-2 w ↦ record { same = same-job c.self.view_is w.self-is same }
      | in-Some+in-Left-2 w ↦ record { same = same-job c.self.view_is w.self-is same }
      | in-None-3 w ↦ record { same = same-job c.self.view_is w.self-is same }
    ]
