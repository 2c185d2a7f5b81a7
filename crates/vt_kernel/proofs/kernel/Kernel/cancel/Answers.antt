use Rattle.std.proofs.Common.{rules, ◌≡◌, ◌∙◌, Bool, true, false, IfOk, IfErr, Option, None, Some, slice_get, slice_set, ap, sym, subst}
use Rattle.std.specs.Option.{option_map_or}
use Rattle.std.proofs.lemmas.Result.{IfErr-weaker, IfOk-weaker}
use Rattle.vt_key.specs.declared.order.Stamp.{Stamp}
use Rattle.vt_model.specs.promise.Simulation.{simulation_of}
use Rattle.vt_steps.specs.promise.ProcessSteps.{can_annihilate, cancel_process}
use Rattle.vt_steps.specs.inside.Cells.{local_step}
use Rattle.vt_steps.specs.declared.step.Step.TheVariants as step
use Rattle.vt_lp.specs.inside.Held.{HeldProcess}
use Rattle.vt_kernel.specs.inside.Held.{HeldWorker, process_of}
use Rattle.vt_kernel.specs.inside.Guards.{IsDone, may_annihilate}
use Rattle.vt_kernel.proofs.PartLemmas.{stands_along}
use Rattle.vt_kernel.proofs.OwnSteps.{refused-at}
use Rattle.vt_kernel.proofs.LocalLemmas.{view_of, index-within, inside-changed, unknown-refused, unknown-none, found-at, at-found-done, plain-done, written-same, own-process, other-process}
use Rattle.vt_kernel.proofs.ReentryLemmas.{process-there}
use Rattle.vt_kernel.proofs.kernel.Kernel.cancel.Given.{Over}
use Rattle.vt_kernel.proofs.kernel.Kernel.cancel.Goals.{After-index_mut}
use Rattle.vt_kernel.proofs.kernel.Kernel.cancel.Goals as goal

pub returns-in_default-clause-refused : goal.returns-in_default-clause-refused
returns-in_default-clause-refused g c handlers part s =
    let i = c.self.inside in
    subst (λ (v : HeldWorker _ _ _). local_step (simulation_of handlers v.config) v.worker (step.Cancel c.args.lp c.args.stamp) part ≡ None) c.self.view_is
    (unknown-refused handlers (view_of i) c.self.invariant.own_processes part (stands_along c.self.view_is handlers part s)
    c.args.lp (cancel_process c.args.stamp) i.config.some_worker c.self.invariant.all_there c.in_default.ensures.other)

-- whether the letters of a stamp annihilate each other at a process that may be there
abbrev opposed : {S P K : Type 0} → Stamp → Option (HeldProcess S P K) → Bool
opposed stamp o = option_map_or (λ (process : HeldProcess _ _ _). can_annihilate stamp process.pending process.waiting) o false

pub index_mut-requires : goal.index_mut-requires
index_mut-requires g c = search (rules, index-within c.self.invariant c.in-Some.ensures.own)

-- the process is there
there : (g : Over) (c : After-index_mut g) → slice_get c.self.inside.processes.items c.in-Some.index ≡ Some c.index_mut.result.now
there g c = process-there c.self.invariant c.in-Some.ensures.own (sym c.index_mut.ensures.value)

pub invariant_of-self : goal.invariant_of-self
invariant_of-self g c =
    let same = c.cancel.ensures.same in
    inside-changed c.self.invariant _ c.cancel.new.self (there g (goal.at.invariant_of-self g c).After-index_mut) (same.0, same.1)
    c.self.invariant.sendable c.self.invariant.by_worker c.self.invariant.few_made

pub returns-clause-done : goal.returns-clause-done
returns-clause-done g c handlers part s =
    let i = c.self.inside in
    let own = c.in-Some.ensures.own in
    let new = c.cancel.new.self in
    let same = c.cancel.ensures.same in
    let h = stands_along c.self.view_is handlers part s in
    let f = found-at handlers (view_of i) c.self.invariant.own_processes part h own (there g (goal.at.returns-clause-done g c).After-index_mut) in
    subst (λ (v : HeldWorker _ _ _). IfOk c.cancel.result (λ _. IsDone handlers (record (view_of i) { processes = slice_set i.processes.items c.in-Some.index new }) (local_step (simulation_of handlers v.config) v.worker (step.Cancel c.args.lp c.args.stamp) part))) c.self.view_is
    (IfOk-weaker c.cancel.result _ _ (λ _ both. at-found-done handlers (view_of i) c.self.invariant.own_processes part h new i.outbox.letters i.serial (cancel_process c.args.stamp) own f (same.0, same.1)
    (plain-done handlers new (cancel_process c.args.stamp f.process) i.outbox.letters i.serial both)) (c.cancel.ensures.done handlers f.process f.stands))

pub returns-clause-refused : goal.returns-clause-refused
returns-clause-refused g c handlers part s =
    let held = view_of c.self.inside in
    let own = c.in-Some.ensures.own in
    let f = found-at handlers held c.self.invariant.own_processes part (stands_along c.self.view_is handlers part s) own (there g (goal.at.returns-clause-refused g c).After-index_mut) in
    subst (λ (v : HeldWorker _ _ _). IfErr c.cancel.result (λ _. local_step (simulation_of handlers v.config) v.worker (step.Cancel c.args.lp c.args.stamp) part ≡ None)) c.self.view_is
    (IfErr-weaker c.cancel.result _ _ (λ _ none. refused-at handlers held part c.args.lp c.index_mut.result.now (cancel_process c.args.stamp) own.1 f none) (c.cancel.ensures.refused handlers f.process f.stands))

pub returns-clause-kept : goal.returns-clause-kept
returns-clause-kept g c =
    let i = c.self.inside in
    let at = there g (goal.at.returns-clause-kept g c).After-index_mut in
    IfErr-weaker c.cancel.result _ _ (λ _ kept. (
      kept.0,
      (λ j. record (view_of i) { processes = written-same i.processes.items c.in-Some.index c.index_mut.result.now c.cancel.new.self at kept.1 j }) ∙ c.self.view_is,
    )) c.cancel.ensures.kept

pub returns-in_default-clause-unlawful : goal.returns-in_default-clause-unlawful
returns-in_default-clause-unlawful g c =
    let i = c.self.inside in
    subst (λ (v : HeldWorker _ _ _). may_annihilate v c.args.lp c.args.stamp ≡ false) c.self.view_is
    (ap (opposed c.args.stamp) (unknown-none (view_of i) c.args.lp i.config.some_worker c.self.invariant.all_there c.in_default.ensures.other))

pub returns-clause-lawful : goal.returns-clause-lawful
returns-clause-lawful g c =
    let at = there g (goal.at.returns-clause-lawful g c).After-index_mut in
    subst (λ (v : HeldWorker _ _ _). IfOk c.cancel.result (λ _. may_annihilate v c.args.lp c.args.stamp ≡ true)) c.self.view_is
    (IfOk-weaker c.cancel.result _ _ (λ _ is. ap (opposed c.args.stamp) (own-process (view_of c.self.inside) c.in-Some.ensures.own at) ∙ is) c.cancel.ensures.lawful)

pub returns-clause-unlawful : goal.returns-clause-unlawful
returns-clause-unlawful g c =
    let at = there g (goal.at.returns-clause-unlawful g c).After-index_mut in
    subst (λ (v : HeldWorker _ _ _). IfErr c.cancel.result (λ _. may_annihilate v c.args.lp c.args.stamp ≡ false)) c.self.view_is
    (IfErr-weaker c.cancel.result _ _ (λ _ is. ap (opposed c.args.stamp) (own-process (view_of c.self.inside) c.in-Some.ensures.own at) ∙ is) c.cancel.ensures.unlawful)

pub returns-clause-others : goal.returns-clause-others
returns-clause-others g c p apart =
    other-process (view_of c.self.inside) c.cancel.new.self c.self.inside.outbox.letters c.self.inside.serial p c.in-Some.ensures.own apart
    ∙ ap (λ (v : HeldWorker _ _ _). process_of v p) c.self.view_is
