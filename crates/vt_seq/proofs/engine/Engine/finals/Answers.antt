use Rattle.std.proofs.Common.{rules, ◌≡◌, ℕ, ◌∙◌, List, [], ◌∷◌, ◌++◌, map, sym, ap, subst, refl, ◌<◌, arith}
use Rattle.std.proofs.Math.Logic.{∥∥₁_elim}
use Rattle.std.proofs.Props.{props}
use Rattle.std.specs.List.{range_with_len}
use Rattle.vt_model.specs.inside.Process.{triple_at}
use Rattle.vt_model.specs.promise.Simulation.{Triple, simulation_of, after}
use Rattle.vt_model.specs.declared.process.Process.{Process}
use Rattle.vt_model.specs.promise.Sequential.{after_steps, events_of, whole_run}
use Rattle.vt_model.proofs.LawLemmas.{lawful_of}
use Rattle.vt_seq.proofs.StepLemmas.{none_pending, none_there, none_first, not_both}
use Rattle.vt_model.proofs.EndLemmas.{executed_all}
use Rattle.vt_model.proofs.RunLemmas.{map-next}
use Rattle.vt_seq.proofs.engine.Engine.finals.Goals as goal

pub returns-clause-values : goal.returns-clause-values
returns-clause-values g c =
    let m = c.args.self.now.model.now in
    let config = c.args.self.now.config in
    let sim = simulation_of (g.M.Model.handlers m) config in
    let lawful = lawful_of (g.M.Model.handlers m) config (g.met.M.Model.start_within m) (g.met.M.Model.forward_within m) in
    let items = c.args.self.now.pending in
    let processes = c.args.self.now.processes.items in
    let none : items ≡ [] = none_there items c.in-None.ensures in
    let high = c.loop-p-test.false in
    let low = c.loop-p.auto.p-end in
    let at : c.loop-p.p ≡ config.lps = omega (arith, high, low) in
    ∥∥₁_elim c.args.self.now.stands (Prim.hlevel props) (λ x.
    let all : (after_steps sim x.0).executed ≡ whole_run sim = executed_all sim lawful x.0 (none_pending (after_steps sim x.0).pending items x.1.had none) in
    c.loop-p.invariant x.0 x.1 ∙ (λ j. map (λ (p : ℕ). (g.M.Model.handlers m).finish p (after sim p (events_of p (all j))).state) (range_with_len 0 (at j))))

pub returns-clause-nothing_left : goal.returns-clause-nothing_left
returns-clause-nothing_left g c = none_there c.args.self.now.pending c.in-None.ensures

pub loop-p-preserved : goal.loop-p-preserved
loop-p-preserved g c n st =
    let m = c.args.self.now.model.now in
    let config = c.args.self.now.config in
    let sim = simulation_of (g.M.Model.handlers m) config in
    let p = c.loop-p.p in
    let q = c.index.result.now in
    let final : ℕ → ℕ = λ r. (g.M.Model.handlers m).finish r (after sim r (events_of r (after_steps sim n).executed)).state in
    let at : triple_at q.state q.number q.stream ≡ after sim p (events_of p (after_steps sim n).executed) = ap (λ (o : Process _ _ _ _). triple_at o.state o.number o.stream) c.index.ensures ∙ st.triples p q c.loop-p-test.true in
    let value : c.finish-value.result ≡ final p = c.finish-value.ensures ∙ ap (λ (t : Triple _). (g.M.Model.handlers m).finish p t.state) at in
    let pushed : c.push.new.self.items ≡ c.loop-p.values.items ++ c.finish-value.result ∷ [] = search rules in
    pushed ∙ ap (λ (l : List ℕ). l ++ c.finish-value.result ∷ []) (c.loop-p.invariant n st) ∙ ap (λ v. map final (range_with_len 0 p) ++ v ∷ []) value
    ∙ sym (map-next final p)

pub returns-clause-not_lawful : goal.returns-clause-not_lawful
returns-clause-not_lawful g c some = absurd (not_both c.args.self.now.pending (none_there c.args.self.now.pending c.in-None.ensures) some)

pub returns-clause-refused : goal.returns-clause-refused
returns-clause-refused g c none = tt

pub returns-in_default-clause-not_lawful : goal.returns-in_default-clause-not_lawful
returns-in_default-clause-not_lawful g c some = refl

pub returns-in_default-clause-refused : goal.returns-in_default-clause-refused
returns-in_default-clause-refused g c none = absurd (c.in_default.not-None (c.first.ensures ∙ sym (none_first c.args.self.now.pending none)))

pub returns-in_default-push-clause-not_lawful : goal.returns-in_default-push-clause-not_lawful
returns-in_default-push-clause-not_lawful g c some = absurd (not_both c.args.self.now.pending (none_there c.args.self.now.pending c.in-None.ensures) some)

pub returns-in_default-push-clause-refused : goal.returns-in_default-push-clause-refused
returns-in_default-push-clause-refused g c none = refl

pub index-requires : goal.index-requires
index-requires g c = subst (λ (k : ℕ). c.loop-p.p < k) (sym c.args.self.now.all_there) c.loop-p-test.true
