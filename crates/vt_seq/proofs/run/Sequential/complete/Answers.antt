use Rattle.std.proofs.Common.{◌≡◌, ◌∙◌, ℕ, ◌+◌, IfOk, IfErr, subst}
use Rattle.std.proofs.Math.Logic.{∥∥₁_map, ∥∥₁_elim}
use Rattle.std.proofs.Props.{props}
use Rattle.std.proofs.lemmas.Result.{IfErr-weaker, IfOk-weaker}
use Rattle.vt_model.specs.promise.Simulation.{Simulation, simulation_of}
use Rattle.vt_model.specs.promise.Sequential.{after_steps, seq_records}
use Rattle.vt_model.specs.promise.Settings.{end_of}
use Rattle.vt_model.proofs.LawLemmas.{lawful_of}
use Rattle.vt_seq.specs.inside.Limits.{IsCountedWhole, IsRunStepRefusal}
use Rattle.vt_seq.specs.inside.Progress.{Progress, IsAfter, IsAfterSomeSteps, with_records}
use Rattle.vt_seq.proofs.GivenLemmas.{whole_records}
use Rattle.vt_seq.proofs.ProgressLemmas.{counted_any, kept_through, same-run}
use Rattle.vt_seq.proofs.StepLemmas.{none_pending}
use Rattle.vt_seq.proofs.run.Sequential.complete.Goals as goal

pub returns-clause-whole : goal.returns-clause-whole
returns-clause-whole g c =
    let e = c.self.inside.execution in
    let records = c.self.inside.records.items in
    let sim = simulation_of (g.M.Model.handlers e.model) e.config in
    let lawful = lawful_of (g.M.Model.handlers e.model) e.config (g.met.M.Model.start_within e.model) (g.met.M.Model.forward_within e.model) in
    let f = c.complete.new.self in
    subst (λ (v : Progress _ _ _). IfOk c.complete.result (λ x. c.complete.new.records.items ≡ seq_records (simulation_of (g.M.Model.handlers v.model) v.config) (end_of v.config)))
    c.self.view_is
    (IfOk-weaker c.complete.result _ _ (λ x none.
    ∥∥₁_elim c.self.invariant (Prim.hlevel props) (λ y.
    let r = c.complete.ensures.steps y.0 y.1.at in
    let k : ℕ = r.0 + y.0 in
    (kept_through sim y.0 r.0 f records c.complete.new.records.items y.1.records r.1 r.2).records ∙ whole_records sim lawful k (none_pending (after_steps sim k).pending f.pending r.1.had none))) c.complete.ensures.nothing_left)

pub returns-clause-steps : goal.returns-clause-steps
returns-clause-steps g c =
    let e = c.self.inside.execution in
    let records = c.self.inside.records.items in
    let sim = simulation_of (g.M.Model.handlers e.model) e.config in
    let f = c.complete.new.self in
    let later = with_records f c.complete.new.records.items in
    subst (λ (v : Progress _ _ _). (n : ℕ) → IsAfter (simulation_of (g.M.Model.handlers v.model) v.config) n v → (k : ℕ) × IsAfter (simulation_of (g.M.Model.handlers v.model) v.config) (k + n) later)
    c.self.view_is (λ n is.
    let r = c.complete.ensures.steps n is.at in
    (r.0, kept_through sim n r.0 f records c.complete.new.records.items is.records r.1 r.2))

pub returns-clause-counted : goal.returns-clause-counted
returns-clause-counted g c =
    let e = c.self.inside.execution in
    let records = c.self.inside.records.items in
    let sim = simulation_of (g.M.Model.handlers e.model) e.config in
    subst (λ (v : Progress _ _ _). IfOk c.complete.result (λ x. IsCountedWhole (simulation_of (g.M.Model.handlers v.model) v.config)))
    c.self.view_is (counted_any sim (λ n. IsAfter sim n (with_records e records)) c.complete.result c.self.invariant (λ n is. c.complete.ensures.counted n is.at))

pub returns-clause-refused : goal.returns-clause-refused
returns-clause-refused g c =
    let e = c.self.inside.execution in
    let records = c.self.inside.records.items in
    let sim = simulation_of (g.M.Model.handlers e.model) e.config in
    let f = c.complete.new.self in
    let later = with_records f c.complete.new.records.items in
    subst (λ (v : Progress _ _ _). (n : ℕ) → IsAfter (simulation_of (g.M.Model.handlers v.model) v.config) n v
    → IfErr c.complete.result (λ fault. (k : ℕ) × IsAfter (simulation_of (g.M.Model.handlers v.model) v.config) (k + n) later × IsRunStepRefusal (simulation_of (g.M.Model.handlers v.model) v.config) (k + n) fault))
    c.self.view_is (λ n is. IfErr-weaker c.complete.result _ _
    (λ fault h. (h.0, kept_through sim n h.0 f records c.complete.new.records.items is.records h.1 h.2, h.3))
    (c.complete.ensures.refused n is.at))

pub invariant_of-self : goal.invariant_of-self
invariant_of-self g c =
    let e = c.self.inside.execution in
    let records = c.self.inside.records.items in
    let sim = simulation_of (g.M.Model.handlers e.model) e.config in
    let f = c.complete.new.self in
    let later = with_records f c.complete.new.records.items in
    let same = same-run g.M.Model.handlers c.complete.ensures.model c.complete.ensures.config in
    ∥∥₁_map c.self.invariant (λ x.
    let r = c.complete.ensures.steps x.0 x.1.at in
    (r.0 + x.0, subst (λ (s : Simulation _ _). IsAfter s (r.0 + x.0) later) same (kept_through sim x.0 r.0 f records c.complete.new.records.items x.1.records r.1 r.2)))

pub returns-clause-reached : goal.returns-clause-reached
returns-clause-reached g c = subst (λ (v : Progress _ _ _). IsAfterSomeSteps (g.M.Model.handlers v.model) v) c.self.view_is c.self.invariant
