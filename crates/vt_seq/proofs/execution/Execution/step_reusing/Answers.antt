use Rattle.std.proofs.Common.{◌≡◌, ℕ, suc, ◌≤◌, ◌<◌, ◌↔◌, ◌∙◌, IsTrue, [], length, IfOk, IfErr, ap, subst}
use Rattle.std.proofs.lemmas.Result.{IfOk-weaker}
use Rattle.vt_model.specs.promise.Simulation.{simulation_of}
use Rattle.vt_model.specs.declared.settings.Config.{Config}
use Rattle.vt_model.proofs.LawLemmas.{lawful_of}
use Rattle.vt_model.specs.promise.Sequential.{after_steps, seq_records, weight}
use Rattle.vt_model.specs.promise.Settings.{end_of}
use Rattle.vt_seq.specs.inside.Given.{records_to, AddsStep}
use Rattle.vt_seq.specs.inside.Limits.{IsCounted, IsRunStepRefusal}
use Rattle.vt_seq.specs.inside.Standing.{Standing, IsAt}
use Rattle.vt_seq.proofs.ProgressLemmas.{seen-on_way, seen, stands-after, after-stands, if_ok-both, if_err-both, seen_same}
use Rattle.vt_seq.proofs.StepLemmas.{AreCounted, counted_at, none_pending}
use Rattle.vt_seq.proofs.GivenLemmas.{whole_records}
use Rattle.vt_seq.proofs.PlainLemmas.{at_least, items_count}
use Rattle.vt_seq.proofs.execution.Execution.step_reusing.Goals as goal

pub step-requires-send-M-Payload : goal.step-requires-send-M-Payload
step-requires-send-M-Payload g c = λ _ _. c.type_bounds.send-M-Payload

pub returns : goal.returns
returns g c = record {
  model = c.step.ensures.model ∙ ap (λ (v : Standing _ _ _). v.model) c.self.view_is;
  config = c.step.ensures.config ∙ ap (λ (v : Standing _ _ _). v.config) c.self.view_is;
  reached = let e = c.self.inside.engine in seen-on_way g.M.Model.handlers e.model.now e.config e.pending e.processes e.all_there e.stands _ c.self.view_is;
  more = subst (λ (v : Standing _ _ _). IfOk c.step.result (λ more. IsTrue more ↔ (0 < length v.pending))) c.self.view_is c.step.ensures.more;
  idle =
      let e = c.self.inside.engine in
      let sim = simulation_of (g.M.Model.handlers e.model.now) e.config in
      if_ok-both _ _ _ c.step.result c.step.ensures.idle_pending c.step.ensures.idle_processes
      (λ more pending processes is. seen_same sim c.step.ensures.model c.step.ensures.config (pending is) (processes is) ∙ c.self.view_is);
  none_added = c.step.ensures.none_added;
  steps =
      let e = c.self.inside.engine in
      let sim = simulation_of (g.M.Model.handlers e.model.now) e.config in
      let f = c.step.new.self in
      let later = seen sim f.model.now f.config f.pending f.processes.items in
      let there : sim.lps ≤ length f.processes.items = at_least (items_count f.processes f.all_there ∙ ap (λ (d : Config). d.lps) c.step.ensures.config) in
      subst (λ (v : Standing _ _ _). (n : ℕ) → IsAt (simulation_of (g.M.Model.handlers v.model) v.config) n v → IfOk c.step.result (λ more. IsAt (simulation_of (g.M.Model.handlers v.model) v.config) (suc n) later))
      c.self.view_is
      (λ n is. IfOk-weaker c.step.result _ _ (λ more st. stands-after sim f.model.now f.config (suc n) f.pending f.processes.items there st)
      (c.step.ensures.steps n (after-stands sim e.model.now e.config n e.pending e.processes.items e.stands is)));
  adds =
      let e = c.self.inside.engine in
      let sim = simulation_of (g.M.Model.handlers e.model.now) e.config in
      subst (λ (v : Standing _ _ _). (n : ℕ) → IsAt (simulation_of (g.M.Model.handlers v.model) v.config) n v → IfOk c.step.result (λ more. AddsStep (simulation_of (g.M.Model.handlers v.model) v.config) n c.args.records.now.items c.step.new.records.items))
      c.self.view_is
      (λ n is. c.step.ensures.adds n (after-stands sim e.model.now e.config n e.pending e.processes.items e.stands is));
  whole =
      let e = c.self.inside.engine in
      let sim = simulation_of (g.M.Model.handlers e.model.now) e.config in
      let lawful = lawful_of (g.M.Model.handlers e.model.now) e.config (g.met.M.Model.start_within e.model.now) (g.met.M.Model.forward_within e.model.now) in
      subst (λ (v : Standing _ _ _). (n : ℕ) → IsAt (simulation_of (g.M.Model.handlers v.model) v.config) n v → v.pending ≡ [] → records_to (simulation_of (g.M.Model.handlers v.model) v.config) n ≡ seq_records (simulation_of (g.M.Model.handlers v.model) v.config) (end_of v.config))
      c.self.view_is (λ n is none. whole_records sim lawful n (none_pending (after_steps sim n).pending e.pending is.had none));
  falls =
      let f = c.step.new.self in
      subst (λ (v : Standing _ _ _). IfOk c.step.result (λ more. IsTrue more → weight (simulation_of (g.M.Model.handlers v.model) v.config) f.pending < weight (simulation_of (g.M.Model.handlers v.model) v.config) v.pending))
      c.self.view_is c.step.ensures.falls;
  counted =
      let e = c.self.inside.engine in
      let sim = simulation_of (g.M.Model.handlers e.model.now) e.config in
      let f = c.step.new.self in
      let there : length f.processes.items ≡ sim.lps = items_count f.processes f.all_there ∙ ap (λ (d : Config). d.lps) c.step.ensures.config in
      let numbered : AreCounted sim.lps f.processes.items = subst (λ (lps : ℕ). AreCounted lps f.processes.items) (ap (λ (d : Config). d.lps) c.step.ensures.config) f.numbered in
      let lawful = lawful_of (g.M.Model.handlers e.model.now) e.config (g.met.M.Model.start_within e.model.now) (g.met.M.Model.forward_within e.model.now) in
      subst (λ (v : Standing _ _ _). (n : ℕ) → IsAt (simulation_of (g.M.Model.handlers v.model) v.config) n v → IfOk c.step.result (λ more. IsCounted (simulation_of (g.M.Model.handlers v.model) v.config) (suc n)))
      c.self.view_is
      (λ n is. IfOk-weaker c.step.result _ _ (λ more st. counted_at sim lawful (suc n) f.pending f.processes.items st there numbered)
      (c.step.ensures.steps n (after-stands sim e.model.now e.config n e.pending e.processes.items e.stands is)));
  kept =
      let e = c.self.inside.engine in
      let sim = simulation_of (g.M.Model.handlers e.model.now) e.config in
      if_err-both _ _ _ c.step.result c.step.ensures.pending c.step.ensures.processes
      (λ fault pending processes. seen_same sim c.step.ensures.model c.step.ensures.config pending processes ∙ c.self.view_is);
  records_kept = c.step.ensures.records;
  faults = c.step.ensures.faults;
  refused =
      let e = c.self.inside.engine in
      let sim = simulation_of (g.M.Model.handlers e.model.now) e.config in
      subst (λ (v : Standing _ _ _). (n : ℕ) → IsAt (simulation_of (g.M.Model.handlers v.model) v.config) n v → IfErr c.step.result (IsRunStepRefusal (simulation_of (g.M.Model.handlers v.model) v.config) n))
      c.self.view_is
      (λ n is. c.step.ensures.refused n (after-stands sim e.model.now e.config n e.pending e.processes.items e.stands is));
}
