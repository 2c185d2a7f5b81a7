use Rattle.std.proofs.Common.{◌≡◌, ◌+◌, ◌*◌, ◌<◌, length, refl, sym, ◌∙◌, ap, subst, Some, slice_get}
use Rattle.std.proofs.lemmas.Bool.{ltb-true}
use Rattle.std.proofs.lemmas.Option.{slice_get_read}
use Rattle.vt_model.specs.promise.Simulation.{simulation_of}
use Rattle.vt_steps.specs.inside.Finals.{final_value}
use Rattle.vt_station.specs.inside.Crew.{AtJob}
use Rattle.vt_places.proofs.FinalLemmas.{final-at, finals-there}
use Rattle.vt_station.proofs.job.Job.final_at.Goals as goal

pub returns : goal.returns
returns g c =
    let i = c.self.inside in
    let index = c.args.index in
    let lent = c.deref.result.now in
    let value = c.in-Some-get.value.now in
    let lookup = c.in-Some-get.ensures.lookup in
    let inside : index < length lent = ltb-true index (length lent) (sym lookup.0) in
    let at : slice_get lent index ≡ Some value = slice_get_read lent (length lent) index value refl inside lookup.1 in
    let are = finals-there (λ v. v.items) i.finals c.in-Some.finals _ c.in-Some.is c.self.invariant.finals_are in
    let right = final-at (simulation_of (g.M.Model.handlers i.model.now) i.config) i.worker index value c.in-Some.finals.items are (ap (λ l. slice_get l index) (sym c.deref.ensures.value) ∙ at) in
    subst (λ (j : AtJob g.row.M.Denot). value ≡ final_value (simulation_of (g.M.Model.handlers j.model) j.config) (index * j.config.workers + j.worker)) c.self.view_is right
