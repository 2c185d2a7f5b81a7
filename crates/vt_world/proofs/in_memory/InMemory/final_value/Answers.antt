use Rattle.std.proofs.Common.{◌≡◌, ◌<◌, ◌∙◌, ap, sym, subst, IfNone, Some}
use Rattle.std.specs.Prelude.{IsTrue}
use Rattle.std.specs.Option.{option_copied}
use Rattle.vt_model.specs.promise.Sequential.{events_of, whole_run}
use Rattle.vt_model.specs.promise.Simulation.{simulation_of, after}
use Rattle.vt_model.proofs.LawLemmas.{lawful_of}
use Rattle.vt_lp.specs.inside.Held.{HeldProcess}
use Rattle.vt_kernel.specs.inside.Held.{HeldWorker, process_of, IsProcessOf}
use Rattle.vt_world.specs.inside.Held.{HeldWorld}
use Rattle.vt_world.proofs.Indices.{owner-there, is-own}
use Rattle.vt_world.proofs.FinalLemmas.{of-some, final-value}
use Rattle.vt_world.proofs.in_memory.InMemory.final_value.Goals as goal

pub unreachable-requires : goal.unreachable-requires
unreachable-requires g c =
    let k = c.kernel.result.now in
    let at = owner-there c.self.invariant _ c.owner-owner.ensures.value c.owner-owner.ensures.known c.index.ensures ∙ ap (λ (k : HeldWorker _ _ _). Some k) (sym c.kernel.ensures) in
    let less = subst (λ (v : HeldWorld _ _ _ _). c.args.lp < v.config.lps) (sym c.self.view_is) c.requires.known in
    subst (λ o. IfNone o (IsProcessOf k.config k.worker c.args.lp → ⊥)) c.in_default.is c.state.ensures.unknown (is-own c.self.invariant _ at less)

pub returns : goal.returns
returns g c =
    let i = c.self.inside in
    let m = i.model.now in
    let H = g.M.Model.handlers m in
    let lawful = lawful_of H i.config (g.met.M.Model.start_within m) (g.met.M.Model.forward_within m) in
    let at = owner-there c.self.invariant _ c.owner-owner.ensures.value c.owner-owner.ensures.known c.index.ensures ∙ ap (λ (k : HeldWorker _ _ _). Some k) (sym c.kernel.ensures) in
    let less = subst (λ (v : HeldWorld _ _ _ _). c.args.lp < v.config.lps) (sym c.self.view_is) c.requires.known in
    let shut = subst (λ (v : HeldWorld _ _ _ _). IsTrue v.book.is_closed) (sym c.self.view_is) c.requires.closed in
    let q = of-some (λ (q : HeldProcess _ _ _). q.triple.state) (process_of c.kernel.result.now c.args.lp) c.in-Some.state.now (sym (ap option_copied c.in-Some.is) ∙ c.state.ensures.value) in
    subst (λ (v : HeldWorld _ _ _ _). c.finish.result ≡ (g.M.Model.handlers v.model).finish c.args.lp
    (after (simulation_of (g.M.Model.handlers v.model) v.config) c.args.lp (events_of c.args.lp (whole_run (simulation_of (g.M.Model.handlers v.model) v.config)))).state) c.self.view_is
    (c.finish.ensures ∙ ap (H.finish c.args.lp) q.2 ∙ final-value c.self.invariant shut lawful _ less at q.1)
