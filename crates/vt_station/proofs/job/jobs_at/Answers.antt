use Rattle.std.proofs.Common.{◌≡◌, ◌+◌, List, [], ◌∷◌, length, sym, ◌∙◌, ap, subst, arith, length-append}
use Rattle.vt_model.specs.promise.Simulation.{simulation_of}
use Rattle.vt_places.specs.inside.Making.{AreNew}
use Rattle.vt_station.specs.inside.Crew.{AtJob, AllAt, AreInOrder, AreUnbegun}
use Rattle.vt_station.proofs.JobLemmas.{next-new, more-in-order, more-at, more-unbegun}
use Rattle.vt_station.proofs.job.jobs_at.Goals as goal

pub loop-worker-preserved : goal.loop-worker-preserved
loop-worker-preserved g c =
    let l = c.loop-worker in
    let next = next-new l.places.items c.remove-place.result (omega (arith, l.invariant.left, c.loop-worker-test.true)) c.remove-place.ensures.value l.invariant.new in
    let job = c.job_of.result in
    let is = c.in-Ok.ensures.items in
    let more : length c.push.new.self.items ≡ length l.jobs.items + 1 = ap length is ∙ length-append l.jobs.items (job ∷ []) in
    record {
      left = omega (arith, l.invariant.left, next.2, ap length c.remove-place.ensures.items);
      made = omega (arith, l.invariant.made, more);
      order = subst (λ (jobs : List (AtJob g.row.M.Denot)). AreInOrder jobs) (sym is) (more-in-order l.jobs.items job l.invariant.order (c.job_of.ensures.worker ∙ sym l.invariant.made));
      begins = subst (λ (jobs : List (AtJob g.row.M.Denot)). AreUnbegun jobs) (sym is) (more-unbegun l.jobs.items job l.invariant.begins c.job_of.ensures.begins.0);
      told = subst (AllAt c.args.model.now c.args.config) (sym is) (more-at c.args.model.now c.args.config l.jobs.items job l.invariant.told c.job_of.ensures.told);
      new = subst (AreNew (simulation_of (g.M.Model.handlers c.args.model.now) c.args.config) c.args.station.now.table.shared.table_id (l.worker + 1)) (sym c.remove-place.ensures.items) next.1;
    }
