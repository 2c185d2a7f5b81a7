use Rattle.std.proofs.Common.{ℕ, suc, IfOk, IfErr, sym, subst}
use Rattle.std.proofs.Math.Logic.{∥∥₁_map}
use Rattle.vt_model.specs.promise.Simulation.{Simulation, simulation_of}
use Rattle.vt_seq.specs.inside.Limits.{IsCounted, IsRunStepRefusal}
use Rattle.vt_seq.specs.inside.Progress.{Progress, IsAfter, IsAfterSomeSteps, with_records}
use Rattle.vt_seq.proofs.ProgressLemmas.{kept_on, if_ok-both, same-run}
use Rattle.vt_seq.proofs.StepLemmas.{either_way}
use Rattle.vt_seq.proofs.run.Sequential.step.Goals as goal

pub returns-clause-steps : goal.returns-clause-steps
returns-clause-steps g c =
    let e = c.self.inside.execution in
    let records = c.self.inside.records.items in
    let sim = simulation_of (g.M.Model.handlers e.model) e.config in
    let f = c.step.new.self in
    let later = with_records f c.step.new.records.items in
    subst (λ (v : Progress _ _ _). (n : ℕ) → IsAfter (simulation_of (g.M.Model.handlers v.model) v.config) n v → IfOk c.step.result (λ more. IsAfter (simulation_of (g.M.Model.handlers v.model) v.config) (suc n) later))
    c.self.view_is
    (λ n is. if_ok-both _ _ _ c.step.result (c.step.ensures.steps n is.at) (c.step.ensures.adds n is.at) (λ more. kept_on sim n f records c.step.new.records.items is.records))

pub returns-clause-refused : goal.returns-clause-refused
returns-clause-refused g c =
    subst (λ (v : Progress _ _ _). (n : ℕ) → IsAfter (simulation_of (g.M.Model.handlers v.model) v.config) n v → IfErr c.step.result (IsRunStepRefusal (simulation_of (g.M.Model.handlers v.model) v.config) n))
    c.self.view_is (λ n is. c.step.ensures.refused n is.at)

pub returns-clause-counted : goal.returns-clause-counted
returns-clause-counted g c =
    subst (λ (v : Progress _ _ _). (n : ℕ) → IsAfter (simulation_of (g.M.Model.handlers v.model) v.config) n v → IfOk c.step.result (λ more. IsCounted (simulation_of (g.M.Model.handlers v.model) v.config) (suc n)))
    c.self.view_is (λ n is. c.step.ensures.counted n is.at)

pub invariant_of-self : goal.invariant_of-self
invariant_of-self g c =
    let e = c.self.inside.execution in
    let records = c.self.inside.records.items in
    let sim = simulation_of (g.M.Model.handlers e.model) e.config in
    let f = c.step.new.self in
    let later = with_records f c.step.new.records.items in
    let same = same-run g.M.Model.handlers c.step.ensures.model c.step.ensures.config in
    ∥∥₁_map c.self.invariant (λ x.
    let on : IfOk c.step.result (λ more. IsAfter sim (suc x.0) later) =
    if_ok-both _ _ _ c.step.result (c.step.ensures.steps x.0 x.1.at) (c.step.ensures.adds x.0 x.1.at) (λ more. kept_on sim x.0 f records c.step.new.records.items x.1.records) in
    either_way c.step.result on c.step.ensures.kept c.step.ensures.records_kept c.step.ensures.records_kept
    (λ is. (suc x.0, subst (λ (s : Simulation _ _). IsAfter s (suc x.0) later) same is))
    (λ kept same_records more. (x.0, subst (λ (s : Simulation _ _). IsAfter s x.0 later) same (subst (λ (v : Progress _ _ _). IsAfter sim x.0 v) (λ j. with_records (sym kept j) (sym same_records j)) x.1))))

pub returns-clause-reached : goal.returns-clause-reached
returns-clause-reached g c = subst (λ (v : Progress _ _ _). IsAfterSomeSteps (g.M.Model.handlers v.model) v) c.self.view_is c.self.invariant
