use Rattle.std.proofs.Common.{◌≡◌, ℕ, ◌+◌, ◌⊎◌, inl, inr, refl}
use Rattle.vt_key.specs.declared.fault.Fault.TheVariants.{Memory, Exhausted}
use Rattle.vt_model.specs.promise.Simulation.{simulation_of}
use Rattle.vt_model.specs.promise.Sequential.{after_steps}
use Rattle.vt_model.proofs.LawLemmas.{lawful_of}
use Rattle.vt_seq.specs.inside.Limits.{IsRunStepRefusal}
use Rattle.vt_seq.specs.inside.Progress.{IsAfter}
use Rattle.vt_seq.proofs.GivenLemmas.{counted_on}
use Rattle.vt_seq.proofs.StepLemmas.{none_pending}
use Rattle.vt_key.proofs.ResultLemmas.{if_err, if_refused}
use Rattle.vt_seq.proofs.run.Sequential.run.Goals as goal

-- the copy was refused, with nothing pending
pub returns-in_default : goal.returns-in_default
returns-in_default g c =
    let old = c.args.self.now in
    let later = c.complete.new.self in
    let own = simulation_of (g.M.Model.handlers old.model) old.config in
    let lawful = lawful_of (g.M.Model.handlers old.model) old.config (g.met.M.Model.start_within old.model) (g.met.M.Model.forward_within old.model) in
    record {
      model = c.complete.ensures.model;
      config = c.complete.ensures.config;
      whole = tt;
      nothing_left = tt;
      steps = c.complete.ensures.steps;
      reached = c.complete.ensures.reached;
      counted = tt;
      faults = inl refl;
      refused = λ n is.
          let r = c.complete.ensures.steps n is in
          let k : ℕ = r.0 + n in
          (r.0, r.1, inr (refl, counted_on own lawful k (none_pending (after_steps own k).pending later.pending r.1.at.had c.in_ok-complete.ensures.nothing_left) c.in_ok-complete.ensures.counted));
    }

-- the run was refused
pub returns-in_err-complete : goal.returns-in_err-complete
returns-in_err-complete g c =
    let old = c.args.self.now in
    let later = c.complete.new.self in
    let own = simulation_of (g.M.Model.handlers old.model) old.config in
    let fault = c.in_err-complete.field-0.0 in
    let e = c.in_err-complete.ensures in
    record {
      model = c.complete.ensures.model;
      config = c.complete.ensures.config;
      whole = if_refused _ _ c.from_residual.result c.from_residual.ensures.1;
      nothing_left = if_refused _ _ c.from_residual.result c.from_residual.ensures.1;
      steps = c.complete.ensures.steps;
      reached = c.complete.ensures.reached;
      counted = if_refused _ _ c.from_residual.result c.from_residual.ensures.1;
      faults = if_err (λ x. (x ≡ Memory) ⊎ (x ≡ Exhausted)) c.from_residual.result fault c.from_residual.ensures.1 e.faults;
      refused = λ n is. if_err (λ x. (k : ℕ) × IsAfter own (k + n) later × IsRunStepRefusal own (k + n) x) c.from_residual.result fault c.from_residual.ensures.1 (e.refused n is);
    }
