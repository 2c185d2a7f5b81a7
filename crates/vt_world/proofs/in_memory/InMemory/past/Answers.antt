use Rattle.std.proofs.Common.{◌≡◌, ◌∙◌, ◌<◌, ◌≤◌, ◌⊎◌, inl, inr, subst, IfOk, IfErr, OnOk, Some, ap, sym}
use Rattle.std.proofs.lemmas.Result.{IfOk-weaker, IfErr-weaker, on_ok_weaker}
use Rattle.vt_key.specs.declared.fault.Fault.TheVariants.{Memory, NotLawful}
use Rattle.vt_model.specs.promise.Simulation.{simulation_of}
use Rattle.vt_steps.specs.promise.World.{World}
use Rattle.vt_kernel.specs.inside.Held.{HeldWorker}
use Rattle.vt_world.specs.inside.Held.{HeldWorld, StandsForWorld}
use Rattle.vt_world.specs.promise.Answers.{IsPastIn}
use Rattle.vt_world.proofs.Indices.{owner-there}
use Rattle.vt_world.proofs.PastLemmas.{own-process, no-process, past-in}
use Rattle.vt_world.proofs.in_memory.InMemory.past.Goals as goal

pub returns-clause-past : goal.returns-clause-past
returns-clause-past g c =
    let at = owner-there c.self.invariant _ c.owner-owner.ensures.value c.owner-owner.ensures.known c.index.ensures ∙ ap (λ (k : HeldWorker _ _ _). Some k) (sym c.kernel.ensures) in
    subst (λ (v : HeldWorld _ _ _ _). (world : World _) → StandsForWorld (g.M.Model.handlers v.model) v world → IfOk c.past_events.result (λ es. IsPastIn (simulation_of (g.M.Model.handlers v.model) v.config) world c.args.lp es.items)) c.self.view_is
    (λ world h. IfOk-weaker c.past_events.result _ _ (λ es is. past-in c.self.invariant _ at es.items is world h) c.past_events.ensures.events)

pub returns-clause-known : goal.returns-clause-known
returns-clause-known g c =
    let at = owner-there c.self.invariant _ c.owner-owner.ensures.value c.owner-owner.ensures.known c.index.ensures ∙ ap (λ (k : HeldWorker _ _ _). Some k) (sym c.kernel.ensures) in
    subst (λ (v : HeldWorld _ _ _ _). OnOk c.past_events.result (c.args.lp < v.config.lps)) c.self.view_is
    (on_ok_weaker c.past_events.result (own-process c.self.invariant _ at) c.past_events.ensures.known)

pub returns-clause-refused : goal.returns-clause-refused
returns-clause-refused g c =
    let lp = c.args.lp in
    let at = owner-there c.self.invariant _ c.owner-owner.ensures.value c.owner-owner.ensures.known c.index.ensures ∙ ap (λ (k : HeldWorker _ _ _). Some k) (sym c.kernel.ensures) in
    subst (λ (v : HeldWorld _ _ _ _). IfErr c.past_events.result (λ fault. ((fault ≡ NotLawful) × (v.config.lps ≤ lp)) ⊎ ((fault ≡ Memory) × (lp < v.config.lps)))) c.self.view_is
    (IfErr-weaker c.past_events.result _ _ (λ fault why. elim why [
      | inl none ↦ inl (none.0, no-process c.self.invariant _ at none.1)
      | inr own ↦ inr (own.0, own-process c.self.invariant _ at own.1)
    ]) c.past_events.ensures.refused)
