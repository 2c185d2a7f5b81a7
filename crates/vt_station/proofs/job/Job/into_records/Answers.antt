use Rattle.std.proofs.Common.{◌≡◌, refl, sym, subst, Some}
use Rattle.std.specs.Prelude.{◌<◌, IfOk, IfErr}
use Rattle.vt_key.specs.declared.fault.Fault.TheVariants.{Busy}
use Rattle.vt_key.specs.promise.Times.{Time}
use Rattle.vt_model.specs.declared.settings.Config.{Config}
use Rattle.vt_model.specs.promise.Simulation.{simulation_of}
use Rattle.vt_model.specs.promise.Sequential.{seq_records}
use Rattle.vt_model.specs.promise.Settings.{end_of}
use Rattle.vt_places.specs.declared.view.View.{View}
use Rattle.vt_station.specs.declared.driver.Outcome.TheVariants.{Closed}
use Rattle.vt_station.specs.inside.Crew.{AtJob, IsLeftBy}
use Rattle.vt_station.proofs.CrewLemmas.{closed-left, records-left}
use Rattle.vt_station.proofs.JobLemmas.{stands-taken}
use Rattle.vt_station.proofs.job.Job.into_records.Goals as goal

pub returns-clause-shown : goal.returns-clause-shown
returns-clause-shown g c =
    let i = c.self.inside in
    let inv = c.self.invariant in
    let H = g.M.Model.handlers in
    let key = i.station.now.table.shared.key in
    let place = c.leave.result in
    let here = stands-taken inv refl c.in-Some.is in
    let left = subst (λ (v : View g.row.M-Payload.Denot). IsLeftBy v i.outcome) (sym c.leave.ensures.view) here.1 in
    let shown = records-left (simulation_of (H key.model.value) key.config) (λ v. v.items) c.take_out.result place.seat.me.0 i.outcome (closed-left place.seat.me.0 i.outcome left) c.take_out.ensures.shown in
    let of-model = subst (λ (m : g.row.M.Denot). IfOk c.take_out.result (λ v. (floor : Time) × (v.items ≡ seq_records (simulation_of (H m) key.config) floor) × (i.outcome ≡ Some Closed → floor ≡ (end_of key.config)))) inv.model_is shown in
    let of-config = subst (λ (k : Config). IfOk c.take_out.result (λ v. (floor : Time) × (v.items ≡ seq_records (simulation_of (H i.model.now) k) floor) × (i.outcome ≡ Some Closed → floor ≡ (end_of k)))) inv.config_is of-model in
    subst (λ (j : AtJob g.row.M.Denot). IfOk c.take_out.result (λ v. (floor : Time) × (v.items ≡ seq_records (simulation_of (H j.model) j.config) floor) × (j.outcome ≡ Some Closed → floor ≡ (end_of j.config)))) c.self.view_is of-config

pub returns-clause-refused : goal.returns-clause-refused
returns-clause-refused g c =
    let of-config = subst (λ (k : Config). IfErr c.take_out.result (λ fault. (fault ≡ Busy) × (1 < k.workers))) c.self.invariant.config_is c.take_out.ensures.refused in
    subst (λ (j : AtJob g.row.M.Denot). IfErr c.take_out.result (λ fault. (fault ≡ Busy) × (1 < j.config.workers))) c.self.view_is of-config
