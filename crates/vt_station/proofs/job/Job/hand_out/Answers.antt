use Rattle.std.proofs.Common.{◌≡◌, ℕ, List, refl, sym, ◌∙◌, ap, subst, Option, Some, None, Result, Vec, Global}
use Rattle.std.specs.Option.{option_map}
use Rattle.std.specs.Prelude.{IfOk}
use Rattle.vt_key.specs.promise.Times.{Time}
use Rattle.vt_key.specs.declared.fault.Fault.{Fault}
use Rattle.vt_model.specs.declared.rows.Record.{Record}
use Rattle.vt_model.specs.promise.Settings.{end_of}
use Rattle.vt_model.specs.promise.Simulation.{simulation_of}
use Rattle.vt_places.specs.inside.Told.{station_model, station_config, station_table, place_view}
use Rattle.vt_station.specs.declared.driver.Outcome.TheVariants.{Closed}
use Rattle.vt_station.specs.inside.Crew.{AtJob, IsJob, IsPieceOf}
use Rattle.vt_station.proofs.JobLemmas.{stands-taken, begun-still, left-still, piece-there, none-there}
use Rattle.vt_station.specs.declared.job.Post.{Post}
use Rattle.vt_station.specs.declared.job.Job.TheInside.{Inside}
use Rattle.vt_station.proofs.job.Job.hand_out.Given.{Over}
use Rattle.vt_station.proofs.job.Job.hand_out.Goals.{in-Some-Begun, in-Some-Left, in-Some-New, in-None}
use Rattle.vt_station.proofs.job.Job.hand_out.Goals as goal

-- what holds of the fields of a job, if the worker stands so
abbrev HoldsAt : (g : Over) → Inside g.row.M.Denot g.row.M-State.Denot g.row.M-Payload.Denot g.row.M-Kept.Denot → Option (Post g.row.M.Denot g.row.M-State.Denot g.row.M-Payload.Denot g.row.M-Kept.Denot) → Type 0
HoldsAt g i post = IsJob g.M.Model.handlers (station_model i.station.now) (station_config i.station.now) (station_table i.station.now) i.model.now i.config i.worker post i.outcome (option_map (λ v. v.items) i.finals)

abbrev Holds : (g : Over) → Inside g.row.M.Denot g.row.M-State.Denot g.row.M-Payload.Denot g.row.M-Kept.Denot → Type 0
Holds g i = HoldsAt g i i.post

pub invariant_of-self : goal.invariant_of-self
invariant_of-self g c =
    elim c.match-self.branch [
      | in-Some-Begun w ↦
          let driver = w.in-Some-Begun in
          let after = w.hand_out in
          subst (Holds g) (sym w.self-inside-is) (begun-still c.self.invariant _ after.result driver.driver after.new.self (driver.is ∙ ap Some driver.field-0-is) after.ensures.station after.ensures.done)
      | in-Some-Left w ↦
          let here = w.in-Some-Left in
          let after = w.hand_out-in-Some-Left in
          subst (Holds g) (sym w.self-inside-is) (left-still c.self.invariant _ after.result here.place after.new.place (here.is ∙ ap Some here.field-0-is) after.ensures.same.0 after.ensures.done)
      | in-Some-New w ↦ subst (Holds g) (sym w.self-inside-is) (subst (HoldsAt g c.self.inside) w.in-Some-New.is c.self.invariant)
      | in-None w ↦ subst (Holds g) (sym w.self-inside-is) c.self.invariant
    ]

-- what it says of what it has handed out, whatever its answer
abbrev Says : (g : Over) → ℕ → Result (Unit {0}) Fault → List Record → AtJob g.row.M.Denot → Type 0
Says g from result records job = IfOk result (λ _. (floor : Time) × IsPieceOf (simulation_of (g.M.Model.handlers job.model) job.config) from records floor × (job.outcome ≡ Some Closed → floor ≡ end_of job.config))

-- so it says it of its own answer, records and job
told : (g : Over) (from : ℕ) {result after : Result (Unit {0}) Fault} {records left : Vec Record Global} {inside job : AtJob g.row.M.Denot} → result ≡ after → records ≡ left → inside ≡ job → Says g from after left.items inside → Says g from result records.items job
told g from {after = after} {records} {left} {inside} {job} result-is records-is job-is says =
    subst (λ r. Says g from r records.items job) (sym result-is) (subst (λ (v : Vec Record Global). Says g from after v.items job) (sym records-is) (subst (Says g from after left.items) job-is says))

pub returns-clause-piece : goal.returns-clause-piece
returns-clause-piece g c =
    let i = c.self.inside in
    let from = c.args.from in
    let H = g.M.Model.handlers in
    elim c.match-self.branch [
      | in-Some-Begun w ↦
          let driver = w.in-Some-Begun.driver in
          let after = w.hand_out in
          let here = stands-taken c.self.invariant refl (w.in-Some-Begun.is ∙ ap Some w.in-Some-Begun.field-0-is) in
          told g from w.result-is w.records-is c.self.view_is (piece-there H here.0.0 here.0.1 driver.view after.new.self.view from after.new.records.items i.outcome after.result here.1 after.ensures.done)
      | in-Some-Left w ↦
          let place = w.in-Some-Left.place in
          let after = w.hand_out-in-Some-Left in
          let here = stands-taken c.self.invariant refl (w.in-Some-Left.is ∙ ap Some w.in-Some-Left.field-0-is) in
          told g from w.result-is w.records-is c.self.view_is
          (piece-there H c.self.invariant.model_is c.self.invariant.config_is (place_view place) (place_view after.new.place) from after.new.records.items i.outcome after.result here.1 after.ensures.done)
      | in-Some-New w ↦
          let after = w.hand_out_none in
          let here = stands-taken c.self.invariant refl (w.in-Some-New.is ∙ ap Some w.in-Some-New.field-0-is) in
          told g from w.result-is w.records-is c.self.view_is (none-there (simulation_of (H i.model.now) i.config) w.in-Some-New.field-0-0 from after.new.records.items i.outcome after.result here.0 here.1 after.ensures.none)
      | in-None w ↦ absurd (let no : Some c.self.invariant.there ≡ None = sym c.self.invariant.post_is ∙ w.in-None.is in cc)
    ]
