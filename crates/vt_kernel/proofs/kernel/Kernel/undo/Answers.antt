use Rattle.std.proofs.Common.{rules, ◌≡◌, ◌∙◌, Bool, true, false, IfOk, IfErr, Option, None, Some, slice_get, slice_set, ap, sym, subst, refl}
use Rattle.std.specs.List.{last_or}
use Rattle.std.specs.Option.{option_map_or}
use Rattle.std.proofs.lemmas.Result.{IfErr-weaker, IfOk-weaker}
use Rattle.vt_model.specs.promise.Simulation.{simulation_of}
use Rattle.vt_steps.specs.promise.ProcessSteps.{undo_process}
use Rattle.vt_steps.specs.inside.Cells.{local_step}
use Rattle.vt_steps.specs.declared.step.Step.TheVariants as step
use Rattle.vt_kernel.specs.inside.Held.{HeldWorker, process_of}
use Rattle.vt_kernel.specs.inside.Guards.{IsDone, has_to_undo}
use Rattle.vt_lp.specs.inside.Held.{HeldProcess}
use Rattle.vt_lp.specs.inside.Past.{must_undo_last}
use Rattle.vt_kernel.proofs.PartLemmas.{stands_along}
use Rattle.vt_kernel.proofs.OwnSteps.{refused-at}
use Rattle.vt_kernel.proofs.LocalLemmas.{view_of, index-within, unknown-refused, unknown-none, found-at, at-found-done, no-serial, own-process, other-process}
use Rattle.vt_kernel.proofs.PutLemmas.{put-done, put-seen, inside-put}
use Rattle.vt_kernel.proofs.ReentryLemmas.{process-there}
use Rattle.vt_kernel.proofs.kernel.Kernel.undo.Given.{Over}
use Rattle.vt_kernel.proofs.kernel.Kernel.undo.Goals.{After-index_mut}
use Rattle.vt_kernel.proofs.kernel.Kernel.undo.Goals as goal

-- the process is there
there : (g : Over) (c : After-index_mut g) → slice_get c.self.inside.processes.items c.in-Some.index ≡ Some c.index_mut.result.now
there g c = process-there c.self.invariant c.in-Some.ensures.own (sym c.index_mut.ensures.value)

-- whether a process that may be there has to undo its last past event
abbrev forced : {S P K : Type 0} → Option (HeldProcess S P K) → Bool
forced o = option_map_or (λ (process : HeldProcess _ _ _). must_undo_last process.pending process.waiting (last_or None process.past)) o false

pub index_mut-requires : goal.index_mut-requires
index_mut-requires g c = search (rules, index-within c.self.invariant c.in-Some.ensures.own)

pub returns-in_default-clause-refused : goal.returns-in_default-clause-refused
returns-in_default-clause-refused g c part s =
    let i = c.self.inside in
    let handlers = g.M.Model.handlers c.args.model.now in
    subst (λ (v : HeldWorker _ _ _). local_step (simulation_of handlers v.config) v.worker (step.Undo c.args.lp) part ≡ None) c.self.view_is
    (unknown-refused handlers (view_of i) c.self.invariant.own_processes part (stands_along c.self.view_is handlers part s)
    c.args.lp undo_process i.config.some_worker c.self.invariant.all_there c.in_default.ensures.other)

pub invariant_of-self : goal.invariant_of-self
invariant_of-self g c =
    let done = c.undo-result in
    inside-put c.self.inside.outbox done.new.outbox c.new-sent.ensures c.put.ensures c.self.invariant _ done.new.self (there g (goal.at.invariant_of-self g c).After-index_mut) done.ensures.same
    done.ensures.within c.self.invariant.few_made

pub returns-clause-done : goal.returns-clause-done
returns-clause-done g c part s =
    let i = c.self.inside in
    let handlers = g.M.Model.handlers c.args.model.now in
    let own = c.in-Some.ensures.own in
    let done = c.undo-result in
    let h = stands_along c.self.view_is handlers part s in
    let f = found-at handlers (view_of i) c.self.invariant.own_processes part h own (there g (goal.at.returns-clause-done g c).After-index_mut) in
    let after = record (view_of i) { processes = slice_set i.processes.items c.in-Some.index done.new.self; outbox = c.put.new.self.letters } in
    subst (λ (v : HeldWorker _ _ _). IfOk done.result (λ _. IsDone handlers after (local_step (simulation_of handlers v.config) v.worker (step.Undo c.args.lp) part))) c.self.view_is
    (IfOk-weaker done.result _ _ (λ _ sent. at-found-done handlers (view_of i) c.self.invariant.own_processes part h done.new.self c.put.new.self.letters i.serial undo_process own f done.ensures.same
    (no-serial handlers done.new.self (undo_process f.process) i.outbox.letters c.put.new.self.letters i.serial (put-done i.outbox done.new.outbox c.new-sent.ensures c.put.ensures sent))) (done.ensures.done f.process f.stands))

pub returns-clause-refused : goal.returns-clause-refused
returns-clause-refused g c part s =
    let handlers = g.M.Model.handlers c.args.model.now in
    let held = view_of c.self.inside in
    let own = c.in-Some.ensures.own in
    let f = found-at handlers held c.self.invariant.own_processes part (stands_along c.self.view_is handlers part s) own (there g (goal.at.returns-clause-refused g c).After-index_mut) in
    subst (λ (v : HeldWorker _ _ _). IfErr c.undo-result.result (λ _. local_step (simulation_of handlers v.config) v.worker (step.Undo c.args.lp) part ≡ None)) c.self.view_is
    (IfErr-weaker c.undo-result.result _ _ (λ _ none. refused-at handlers held part c.args.lp c.index_mut.result.now undo_process own.1 f none) (c.undo-result.ensures.refused f.process f.stands))

pub returns-clause-kept : goal.returns-clause-kept
returns-clause-kept g c =
    let i = c.self.inside in
    let done = c.undo-result in
    let at = there g (goal.at.returns-clause-kept g c).After-index_mut in
    IfErr-weaker done.result _ _ (λ _ kept. (kept.0, put-seen i.outbox done.new.outbox c.new-sent.ensures c.put.ensures (view_of i) _ at refl kept.1 kept.2 refl ∙ c.self.view_is)) done.ensures.kept

pub returns-in_default-clause-unlawful : goal.returns-in_default-clause-unlawful
returns-in_default-clause-unlawful g c =
    let i = c.self.inside in
    subst (λ (v : HeldWorker _ _ _). has_to_undo v c.args.lp ≡ false) c.self.view_is
    (ap forced (unknown-none (view_of i) c.args.lp i.config.some_worker c.self.invariant.all_there c.in_default.ensures.other))

pub returns-clause-lawful : goal.returns-clause-lawful
returns-clause-lawful g c =
    let at = there g (goal.at.returns-clause-lawful g c).After-index_mut in
    subst (λ (v : HeldWorker _ _ _). IfOk c.undo-result.result (λ _. has_to_undo v c.args.lp ≡ true)) c.self.view_is
    (IfOk-weaker c.undo-result.result _ _ (λ _ is. ap forced (own-process (view_of c.self.inside) c.in-Some.ensures.own at) ∙ is) c.undo-result.ensures.lawful)

pub returns-clause-unlawful : goal.returns-clause-unlawful
returns-clause-unlawful g c =
    let at = there g (goal.at.returns-clause-unlawful g c).After-index_mut in
    subst (λ (v : HeldWorker _ _ _). IfErr c.undo-result.result (λ _. has_to_undo v c.args.lp ≡ false)) c.self.view_is
    (IfErr-weaker c.undo-result.result _ _ (λ _ is. ap forced (own-process (view_of c.self.inside) c.in-Some.ensures.own at) ∙ is) c.undo-result.ensures.unlawful)

pub returns-clause-others : goal.returns-clause-others
returns-clause-others g c p apart =
    other-process (view_of c.self.inside) c.undo-result.new.self c.put.new.self.letters c.self.inside.serial p c.in-Some.ensures.own apart
    ∙ ap (λ (v : HeldWorker _ _ _). process_of v p) c.self.view_is
