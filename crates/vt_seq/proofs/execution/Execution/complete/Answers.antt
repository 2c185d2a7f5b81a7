use Rattle.std.proofs.Common.{arith, refl, ◌≡◌, ℕ, zero, suc, ◌+◌, ◌<◌, ◌∙◌, List, [], sym, ap, subst}
use Rattle.vt_model.specs.promise.Simulation.{Simulation, simulation_of}
use Rattle.vt_model.specs.promise.Sequential.{after_steps, weight}
use Rattle.vt_model.specs.declared.rows.Record.{Record}
use Rattle.vt_model.proofs.LawLemmas.{lawful_of}
use Rattle.vt_seq.specs.inside.Limits.{IsRunStepRefusal, IsCounted}
use Rattle.vt_seq.specs.inside.Given.{AddsStep, AddsSteps}
use Rattle.vt_seq.specs.inside.Standing.{Standing, IsAt}
use Rattle.vt_seq.proofs.GivenLemmas.{counted_whole, whole_records}
use Rattle.vt_model.proofs.Sizes.{out_fits, first_out}
use Rattle.vt_seq.proofs.ProgressLemmas.{added_more, added_none, added_rest, seen-on_way}
use Rattle.vt_key.proofs.ResultLemmas.{if_err}
use Rattle.vt_seq.proofs.StepLemmas.{none_pending}
use Rattle.vt_seq.proofs.PlainLemmas.{none_plus, one_plus, told_none}
use Rattle.vt_seq.proofs.execution.Execution.complete.Goals as goal

pub new-out-requires : goal.new-out-requires
new-out-requires g c = first_out _ _ c.self.inside.engine.config g.met.M.Model.payload_align g.met.M.Model.payload_size (omega (arith, c.self.inside.engine.config.some_process)) c.tick.ensures

pub step_reusing-requires-after_bounds : goal.step_reusing-requires-after_bounds
step_reusing-requires-after_bounds g c κs within = out_fits _ _ g.met.M.Model.payload_align g.met.M.Model.payload_size

pub loop-init : goal.loop-init
loop-init g c = record {
  model = refl;
  config = refl;
  steps = λ n is.
      let none : 0 + n ≡ n = none_plus n in
      let own = simulation_of (g.M.Model.handlers c.args.self.now.model) c.args.self.now.config in
      (zero, subst (λ (i : ℕ). IsAt own i c.args.self.now) (sym none) is, added_none own n c.args.records.now.items);
}

pub loop-preserved : goal.loop-preserved
loop-preserved g c =
    let before = c.loop.self in
    let later = c.step_reusing.new.self in
    let own = simulation_of (g.M.Model.handlers c.args.self.now.model) c.args.self.now.config in
    let same : simulation_of (g.M.Model.handlers before.model) before.config ≡ own = λ j. simulation_of (g.M.Model.handlers (c.loop.invariant.model j)) (c.loop.invariant.config j) in
    record {
      model = c.step_reusing.ensures.model ∙ c.loop.invariant.model;
      config = c.step_reusing.ensures.config ∙ c.loop.invariant.config;
      steps = λ n is.
          let r = c.loop.invariant.steps n is in
          let m : ℕ = r.0 + n in
          let up : suc (r.0 + n) ≡ suc r.0 + n = one_plus r.0 n in
          let at : IsAt (simulation_of (g.M.Model.handlers before.model) before.config) m before = subst (λ (s : Simulation _ _). IsAt s m before) (sym same) r.1 in (
            suc r.0,
            subst (λ (i : ℕ). IsAt own i later) up (subst (λ (s : Simulation _ _). IsAt s (suc m) later) same (c.in_ok-step_reusing.ensures.steps m at)),
            added_more own n r.0 c.args.records.now.items c.loop.records.items c.step_reusing.new.records.items r.2
                (subst (λ (s : Simulation _ _). AddsStep s m c.loop.records.items c.step_reusing.new.records.items) same (c.in_ok-step_reusing.ensures.adds m at)),
          );
    }

pub returns-clause-steps : goal.returns-clause-steps
returns-clause-steps g c n is =
    let before = c.loop.self in
    let later = c.step_reusing.new.self in
    let r = c.loop.invariant.steps n is in
    let own = simulation_of (g.M.Model.handlers c.args.self.now.model) c.args.self.now.config in
    let kept : later ≡ before = c.in_ok-step_reusing.ensures.idle c.if-branch.false in
    let records : c.step_reusing.new.records.items ≡ c.loop.records.items = c.in_ok-step_reusing.ensures.none_added c.if-branch.false in (
      r.0,
      subst (λ (v : Standing _ _ _). IsAt own (r.0 + n) v) (sym kept) r.1,
      subst (λ (l : List Record). AddsSteps own n r.0 c.args.records.now.items l) (sym records) r.2,
    )

pub returns-clause-whole : goal.returns-clause-whole
returns-clause-whole g c n is =
    let before = c.loop.self in
    let later = c.step_reusing.new.self in
    let m = c.args.self.now.model in
    let cfg = c.args.self.now.config in
    let own = simulation_of (g.M.Model.handlers m) cfg in
    let lawful = lawful_of (g.M.Model.handlers m) cfg (g.met.M.Model.start_within m) (g.met.M.Model.forward_within m) in
    let r = c.loop.invariant.steps n is in
    let k : ℕ = r.0 + n in
    let records : c.step_reusing.new.records.items ≡ c.loop.records.items = c.in_ok-step_reusing.ensures.none_added c.if-branch.false in
    let none : before.pending ≡ [] = told_none before.pending _ c.if-branch.false c.in_ok-step_reusing.ensures.more in
    added_rest own n r.0 c.args.records.now.items c.step_reusing.new.records.items
    (subst (λ (l : List Record). AddsSteps own n r.0 c.args.records.now.items l) (sym records) r.2)
    (whole_records own lawful k (none_pending (after_steps own k).pending before.pending r.1.had none))

pub returns-clause-counted : goal.returns-clause-counted
returns-clause-counted g c n is =
    let before = c.loop.self in
    let later = c.step_reusing.new.self in
    let m = c.args.self.now.model in
    let cfg = c.args.self.now.config in
    let own = simulation_of (g.M.Model.handlers m) cfg in
    let lawful = lawful_of (g.M.Model.handlers m) cfg (g.met.M.Model.start_within m) (g.met.M.Model.forward_within m) in
    let same : simulation_of (g.M.Model.handlers before.model) before.config ≡ own = λ j. simulation_of (g.M.Model.handlers (c.loop.invariant.model j)) (c.loop.invariant.config j) in
    let r = c.loop.invariant.steps n is in
    let k : ℕ = r.0 + n in
    let at : IsAt (simulation_of (g.M.Model.handlers before.model) before.config) k before = subst (λ (s : Simulation _ _). IsAt s k before) (sym same) r.1 in
    let on : IsAt own (suc k) later = subst (λ (s : Simulation _ _). IsAt s (suc k) later) same (c.in_ok-step_reusing.ensures.steps k at) in
    let none : later.pending ≡ [] = ap (λ (v : Standing _ _ _). v.pending) (c.in_ok-step_reusing.ensures.idle c.if-branch.false) ∙ told_none before.pending _ c.if-branch.false c.in_ok-step_reusing.ensures.more in
    counted_whole own lawful (suc k) (none_pending (after_steps own (suc k)).pending later.pending on.had none)
    (subst (λ (s : Simulation _ _). IsCounted s (suc k)) same (c.in_ok-step_reusing.ensures.counted k at))

-- the step was refused where the run stands
pub returns-in_err-step_reusing-clause-refused : goal.returns-in_err-step_reusing-clause-refused
returns-in_err-step_reusing-clause-refused g c n is =
    let before = c.loop.self in
    let later = c.step_reusing.new.self in
    let own = simulation_of (g.M.Model.handlers c.args.self.now.model) c.args.self.now.config in
    let same : simulation_of (g.M.Model.handlers before.model) before.config ≡ own = λ j. simulation_of (g.M.Model.handlers (c.loop.invariant.model j)) (c.loop.invariant.config j) in
    let r = c.loop.invariant.steps n is in
    let m : ℕ = r.0 + n in
    let e = c.in_err-step_reusing.ensures in
    let at : IsAt (simulation_of (g.M.Model.handlers before.model) before.config) m before = subst (λ (s : Simulation _ _). IsAt s m before) (sym same) r.1 in
    if_err (λ fault. (k : ℕ) × IsAt own (k + n) later × AddsSteps own n k c.args.records.now.items c.step_reusing.new.records.items × IsRunStepRefusal own (k + n) fault)
    c.from_residual.result c.in_err-step_reusing.field-0.0 c.from_residual.ensures.1 (
      r.0,
      subst (λ (v : Standing _ _ _). IsAt own m v) (sym e.kept) r.1,
      subst (λ (l : List Record). AddsSteps own n r.0 c.args.records.now.items l) (sym e.records_kept) r.2,
      subst (λ (s : Simulation _ _). IsRunStepRefusal s m c.in_err-step_reusing.field-0.0) same (e.refused m at),
    )

pub returns-in_err-step_reusing-clause-steps : goal.returns-in_err-step_reusing-clause-steps
returns-in_err-step_reusing-clause-steps g c n is =
    let r = c.loop.invariant.steps n is in
    let e = c.in_err-step_reusing.ensures in
    let own = simulation_of (g.M.Model.handlers c.args.self.now.model) c.args.self.now.config in (
      r.0,
      subst (λ (v : Standing _ _ _). IsAt own (r.0 + n) v) (sym e.kept) r.1,
      subst (λ (l : List Record). AddsSteps own n r.0 c.args.records.now.items l) (sym e.records_kept) r.2,
    )

pub returns-clause-reached : goal.returns-clause-reached
returns-clause-reached g c = let e = c.self.inside.engine in seen-on_way g.M.Model.handlers e.model.now e.config e.pending e.processes e.all_there e.stands _ c.self.view_is

pub returns-in_err-step_reusing-clause-reached : goal.returns-in_err-step_reusing-clause-reached
returns-in_err-step_reusing-clause-reached g c = let e = c.self.inside.engine in seen-on_way g.M.Model.handlers e.model.now e.config e.pending e.processes e.all_there e.stands _ c.self.view_is

pub returns-clause-nothing_left : goal.returns-clause-nothing_left
returns-clause-nothing_left g c = ap (λ (v : Standing _ _ _). v.pending) (c.in_ok-step_reusing.ensures.idle c.if-branch.false) ∙ told_none c.loop.self.pending _ c.if-branch.false c.in_ok-step_reusing.ensures.more

pub returns-clause-model : goal.returns-clause-model
returns-clause-model g c = c.step_reusing.ensures.model ∙ c.loop.invariant.model

pub returns-clause-config : goal.returns-clause-config
returns-clause-config g c = c.step_reusing.ensures.config ∙ c.loop.invariant.config

pub loop-smaller : goal.loop-smaller
loop-smaller g c =
    let before = c.loop.self in
    let later = c.step_reusing.new.self in
    let own = simulation_of (g.M.Model.handlers c.args.self.now.model) c.args.self.now.config in
    let same : simulation_of (g.M.Model.handlers before.model) before.config ≡ own = λ j. simulation_of (g.M.Model.handlers (c.loop.invariant.model j)) (c.loop.invariant.config j) in
    subst (λ (s : Simulation _ _). weight s later.pending < weight s before.pending) same (c.in_ok-step_reusing.ensures.falls c.if-branch.true)
