use Rattle.std.proofs.Common.{Some, refl, sym, subst, inl}
use Rattle.std.specs.Option.{option_map}
use Rattle.vt_places.specs.inside.Told.{station_model, station_config, station_table}
use Rattle.vt_key.specs.declared.fault.Fault.TheVariants.{Memory}
use Rattle.vt_station.specs.declared.driver.Outcome.TheVariants.{Refused}
use Rattle.vt_station.specs.inside.Crew.{IsJob}
use Rattle.vt_station.proofs.JobLemmas.{stands-on}
use Rattle.vt_station.proofs.job.Job.run.Goals as goal

pub invariant_of-self : goal.invariant_of-self
invariant_of-self g c =
    let i = c.self.inside in
    let before = c.self.invariant in
    subst (λ post. IsJob g.M.Model.handlers (station_model i.station.now) (station_config i.station.now) (station_table i.station.now) i.model.now i.config i.worker post (Some (Refused Memory)) (option_map (λ v. v.items) i.finals)) (sym before.post_is)
    (stands-on before before.there before.stands (inl refl))
