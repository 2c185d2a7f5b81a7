use Rattle.std.proofs.Common.{◌≡◌, ◌∙◌, ℕ, [], IfOk, filter, ap, subst}
use Rattle.std.proofs.lemmas.Result.{IfOk-weaker}
use Rattle.vt_key.specs.promise.Times.{time_before}
use Rattle.vt_model.specs.promise.Rows.{record_time}
use Rattle.vt_model.specs.promise.Simulation.{simulation_of}
use Rattle.vt_model.specs.promise.Sequential.{after_steps, rows_after, rows_before, records_of}
use Rattle.vt_model.proofs.LawLemmas.{lawful_of}
use Rattle.vt_seq.specs.inside.Progress.{Progress, IsAfter, IsAfterSomeSteps}
use Rattle.vt_seq.proofs.GivenLemmas.{records_before}
use Rattle.vt_seq.proofs.run.Sequential.records_below.Goals as goal

pub returns-clause-rows : goal.returns-clause-rows
returns-clause-rows g c =
    let e = c.self.inside.execution in
    let records = c.self.inside.records.items in
    let sim = simulation_of (g.M.Model.handlers e.model) e.config in
    let lawful = lawful_of (g.M.Model.handlers e.model) e.config (g.met.M.Model.start_within e.model) (g.met.M.Model.forward_within e.model) in
    subst (λ (v : Progress _ _ _). (n : ℕ) → IsAfter (simulation_of (g.M.Model.handlers v.model) v.config) n v → IfOk c.copy_below.result (λ r. r.items ≡ records_of (rows_before c.args.t (rows_after (simulation_of (g.M.Model.handlers v.model) v.config) [] (after_steps (simulation_of (g.M.Model.handlers v.model) v.config) n).executed))))
    c.self.view_is
    (λ n is. IfOk-weaker c.copy_below.result _ _
    (λ r found. found ∙ ap (filter (λ r. time_before (record_time r) c.args.t)) (c.deref.ensures.value ∙ is.records) ∙ records_before sim lawful n c.args.t)
    c.copy_below.ensures.before)

pub returns-clause-reached : goal.returns-clause-reached
returns-clause-reached g c = subst (λ (v : Progress _ _ _). IsAfterSomeSteps (g.M.Model.handlers v.model) v) c.self.view_is c.self.invariant
