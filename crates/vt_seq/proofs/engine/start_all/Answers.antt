use Rattle.std.proofs.Common.{◌≡◌, ℕ, ◌+◌, ◌<◌, ◌≤◌, ◌∙◌, List, [], ◌∷◌, ◌++◌, slice_index_or, refl, sym, subst}
use Rattle.vt_key.specs.declared.limits.TheConstants.{MAX_COUNT}
use Rattle.vt_model.specs.promise.Simulation.{simulation_of}
use Rattle.vt_model.specs.promise.Histories.{IsLawful}
use Rattle.vt_model.specs.declared.settings.Config.{Config}
use Rattle.vt_model.proofs.LawLemmas.{lawful_of}
use Rattle.vt_model.specs.inside.Process.{IsProcessStream}
use Rattle.vt_model.specs.declared.process.Process.{Process}
use Rattle.vt_seq.proofs.StartLemmas.{AllStarted, none_started, started_next, stands_start, all_more, sources_below}
use Rattle.vt_seq.proofs.PlainLemmas.{below_none, both_ways}
use Rattle.vt_seq.proofs.engine.start_all.Given.{Over}
use Rattle.vt_seq.proofs.engine.start_all.Goals as goal

-- the model's laws make its simulation lawful
lawful : (g : Over) (m : _) (config : Config) → IsLawful (simulation_of (g.M.Model.handlers m) config)
lawful g m config = lawful_of (g.M.Model.handlers m) config (g.met.M.Model.start_within m) (g.met.M.Model.forward_within m)

pub loop-p-init : goal.loop-p-init
loop-p-init g c = record {
  started = none_started _ (lawful g c.args.model.now c.args.config) c.args.pending.now c.args.processes.now.items c.requires.no_pending c.requires.no_processes;
  numbered = λ r d l. below_none l;
  streams = λ r d l. below_none l;
}

pub start_process-requires-clause-others : goal.start_process-requires-clause-others
start_process-requires-clause-others g c κs within =
    sources_below _ (lawful g c.args.model.now c.args.config) c.loop-p.p c.loop-p.pending c.loop-p.processes.items c.loop-p.invariant.started c.loop-p-test.true

pub loop-p-preserved : goal.loop-p-preserved
loop-p-preserved g c =
    let config = c.args.config in
    let sim = simulation_of (g.M.Model.handlers c.args.model.now) config in
    let p = c.loop-p.p in
    let q = c.in-Ok.process in
    let processes = c.loop-p.processes.items in
    let pushed : c.push.new.self.items ≡ processes ++ q ∷ [] = c.in-Ok-push.ensures.items in
    let h = c.loop-p.invariant.started in
    record {
      started = subst (λ (l : List (Process _ _ _ _)). AllStarted sim (p + 1) c.start_process.new.pending l) (sym pushed)
          (started_next sim (lawful g c.args.model.now config) p c.loop-p.pending c.start_process.new.pending processes q h c.loop-p-test.true c.in-Ok.ensures.done);
      numbered = subst (λ (l : List (Process _ _ _ _)). (r : ℕ) (d : Process _ _ _ _) → r < p + 1 → (slice_index_or l r d).number ≤ MAX_COUNT) (sym pushed)
          (all_more (λ (r : ℕ) (o : Process _ _ _ _). o.number ≤ MAX_COUNT) processes q p h.there c.in-Ok.ensures.numbered c.loop-p.invariant.numbered);
      streams = subst (λ (l : List (Process _ _ _ _)). (r : ℕ) (d : Process _ _ _ _) → r < p + 1 → IsProcessStream config.seed r (slice_index_or l r d).stream) (sym pushed)
          (all_more (λ (r : ℕ) (o : Process _ _ _ _). IsProcessStream config.seed r o.stream) processes q p h.there c.in-Ok.ensures.stream c.loop-p.invariant.streams);
    }

pub returns : goal.returns
returns g c =
    let h = c.loop-p.invariant in
    let at : c.loop-p.p ≡ c.args.config.lps = both_ways c.loop-p-test.false c.loop-p.auto.p-end in
    record {
      stands = stands_start _ (lawful g c.args.model.now c.args.config) c.loop-p.p at h.started;
      all_there = c.loop-p.processes.ok.0 ∙ h.started.there ∙ at;
      numbered = λ r d l. h.numbered r d (subst (λ (k : ℕ). r < k) (sym at) l);
      streams = λ r d l. h.streams r d (subst (λ (k : ℕ). r < k) (sym at) l);
      refused = tt;
    }

pub returns-in_default : goal.returns-in_default
returns-in_default g c = record { stands = tt; all_there = tt; numbered = tt; streams = tt; refused = refl }

pub returns-in_default-push : goal.returns-in_default-push
returns-in_default-push g c = record { stands = tt; all_there = tt; numbered = tt; streams = tt; refused = refl }
