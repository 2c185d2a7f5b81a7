use Rattle.std.proofs.Common.{◌≡◌, ◌+◌, ◌*◌, ◌/◌, ◌<◌, length, sym, ◌∙◌, ap, subst, slice_index_or}
use Rattle.std.specs.Prelude.{IfSome}
use Rattle.std.proofs.lemmas.Bool.{ltb-true}
use Rattle.std.proofs.Math.Nat.{div-add-mod'}
use Rattle.vt_model.specs.promise.Simulation.{simulation_of}
use Rattle.vt_steps.specs.inside.Finals.{final_value}
use Rattle.vt_station.specs.inside.Crew.{AtJob}
use Rattle.vt_station.proofs.crew.final_of.Goals as goal

pub returns : goal.returns
returns g c =
    let jobs = c.args.jobs.now in
    let config = c.args.config in
    let lp = c.args.lp in
    let w = c.owner.result in
    let job = c.in-Some.job.now in
    let lookup = c.in-Some.ensures.lookup in
    let inside : w < length jobs = ltb-true w (length jobs) (sym lookup.0) in
    let same : job ≡ slice_index_or jobs w job = lookup.1 in
    let told = c.requires.told w job inside in
    let model = ap (λ (j : AtJob g.row.M.Denot). j.model) same ∙ told.0 in
    let of : job.config ≡ config = ap (λ (j : AtJob g.row.M.Denot). j.config) same ∙ told.1 in
    let worker = ap (λ (j : AtJob g.row.M.Denot). j.worker) same ∙ c.requires.order w job inside ∙ c.owner.ensures.value in
    let process : lp / config.workers * job.config.workers + job.worker ≡ lp = (λ j. lp / config.workers * (of j).workers + worker j) ∙ div-add-mod' lp config.workers in
    subst (λ n. IfSome c.final_at.result (λ v. v ≡ n)) (λ j. final_value (simulation_of (g.M.Model.handlers (model j)) (of j)) (process j)) c.final_at.ensures
