use Rattle.std.proofs.Common.{rules, ◌≡◌, ◌∙◌, None, Some, slice_get, slice_set, List, [], sym, ap, subst, refl}
use Rattle.std.specs.List.{find}
use Rattle.vt_key.specs.promise.Times.{TimeBefore}
use Rattle.vt_key.specs.promise.Queues.{without_first}
use Rattle.vt_key.specs.declared.letter.Letter.{Letter}
use Rattle.vt_model.specs.declared.settings.Config.{Config}
use Rattle.vt_model.specs.promise.Simulation.{simulation_of}
use Rattle.vt_model.specs.promise.Settings.{end_of}
use Rattle.vt_steps.specs.declared.step.Step.TheVariants as step
use Rattle.vt_lp.specs.inside.Held.{HeldProcess, AllWithinRun, IsWithinRun}
use Rattle.vt_steps.specs.promise.ProcessSteps.{accept_process}
use Rattle.vt_steps.specs.promise.PartSteps.{is_for}
use Rattle.vt_steps.specs.inside.Cells.{local_step}
use Rattle.vt_lp.specs.inside.Guards.{IsDone as ProcessIsDone}
use Rattle.vt_outbox.specs.inside.Outbox.{HeldOutbox}
use Rattle.vt_kernel.specs.inside.Held.{HeldWorker, IsWorkerInside}
use Rattle.vt_kernel.specs.inside.Guards.{IsDone}
use Rattle.vt_kernel.proofs.PartLemmas.{stands_along}
use Rattle.vt_kernel.proofs.LocalLemmas.{view_of, index-within, inside-changed, written-same}
use Rattle.vt_kernel.proofs.DeliveryLemmas.{without-all, home-done, home-refused, home-nothing}
use Rattle.vt_outbox.proofs.OutboxLemmas.{none-popped}
use Rattle.vt_kernel.proofs.ReentryLemmas.{IsOwnLetter, process-there, may-accept, first-own}
use Rattle.vt_kernel.proofs.kernel.Kernel.home.Given.{Over}
use Rattle.vt_kernel.proofs.kernel.Kernel.home.Goals.{After-index-index, After-index_mut}
use Rattle.vt_kernel.proofs.kernel.Kernel.home.Goals as goal

pub invariant_of-self : goal.invariant_of-self
invariant_of-self g c =
    let i = c.self.inside in
    subst (λ (o : HeldOutbox _). IsWorkerInside i.config i.worker i.processes.items o i.arrived.items i.sent i.got i.serial)
    (sym (none-popped i.worker c.in_default.ensures.letter c.pop_for.ensures.left)) c.self.invariant

pub returns-in_default-clause-kept : goal.returns-in_default-clause-kept
returns-in_default-clause-kept g c =
    let i = c.self.inside in
    let still = none-popped i.worker c.in_default.ensures.letter c.pop_for.ensures.left in
    (refl, (λ j. record (view_of i) { outbox = (still j).letters }) ∙ c.self.view_is)

pub returns-in_default-clause-refused : goal.returns-in_default-clause-refused
returns-in_default-clause-refused g c handlers part s =
    let i = c.self.inside in
    let none = ap (λ (k : Config). find (is_for k.workers i.worker) i.outbox.letters) (sym c.self.invariant.by_worker) ∙ sym c.in_default.ensures.letter in
    subst (λ (v : HeldWorker _ _ _). local_step (simulation_of handlers v.config) v.worker (step.Home v.worker) part ≡ None) c.self.view_is
    (home-nothing handlers (view_of i) c.self.invariant.own_processes part (stands_along c.self.view_is handlers part s) none)

-- the letter is the first for one of the worker's processes, and the index is that process's
first : (g : Over) (c : After-index-index g) → (find (is_for c.self.inside.config.workers c.self.inside.worker) c.self.inside.outbox.letters ≡ Some c.get.result.now) × IsOwnLetter c.self.invariant c.get.result.now c.index-index.result
first g c = first-own c.self.invariant c.in-Some.ensures.letter c.get.ensures c.index-index.ensures

pub index_mut-requires : goal.index_mut-requires
index_mut-requires g c =
    let less = index-within c.self.invariant (first g (goal.at.index_mut-requires g c).After-index-index).1.own in
    search (rules, less)

-- the process is there
there : (g : Over) (c : After-index_mut g) → slice_get c.self.inside.processes.items c.index-index.result ≡ Some c.index_mut.result.now
there g c = process-there c.self.invariant (first-own c.self.invariant c.in-Some.ensures.letter c.get.ensures c.index-index.ensures).1.own (sym c.index_mut.ensures.value)

pub accept-requires-clause-dest : goal.accept-requires-clause-dest
accept-requires-clause-dest g c κs within =
    let at = goal.at.accept-requires-clause-dest g c in
    ap (λ (l : Letter _). l.event.dest) (sym c.get.ensures) ∙ (may-accept c.self.invariant (first g at.After-index-index).1 (there g at.After-index_mut)).0

pub accept-requires-clause-soon : goal.accept-requires-clause-soon
accept-requires-clause-soon g c κs within =
    let at = goal.at.accept-requires-clause-soon g c in
    subst (λ (l : Letter _). TimeBefore l.event.rank.key.time (end_of c.index_mut.result.now.config)) c.get.ensures
    (may-accept c.self.invariant (first g at.After-index-index).1 (there g at.After-index_mut)).1

pub invariant_of-self-in-Err : goal.invariant_of-self-in-Err
invariant_of-self-in-Err g c =
    let i = c.self.inside in
    subst (λ (ps : List (HeldProcess _ _ _)). IsWorkerInside i.config i.worker ps c.put_back.new.self i.arrived.items i.sent i.got i.serial)
    (sym (written-same i.processes.items c.index-index.result c.index_mut.result.now c.accept.new.self (there g (goal.at.invariant_of-self-in-Err g c).After-index_mut) c.in-Err.ensures.kept.2))
    (subst (λ (o : HeldOutbox _). IsWorkerInside i.config i.worker i.processes.items o i.arrived.items i.sent i.got i.serial) (sym (c.put_back.ensures ∙ c.of-before.ensures)) c.self.invariant)

pub returns-in-Err-clause-refused : goal.returns-in-Err-clause-refused
returns-in-Err-clause-refused g c handlers part s =
    let at = goal.at.returns-in-Err-clause-refused g c in
    let letter = first g at.After-index-index in
    subst (λ (v : HeldWorker _ _ _). local_step (simulation_of handlers v.config) v.worker (step.Home v.worker) part ≡ None) c.self.view_is
    (home-refused handlers (view_of c.self.inside) c.self.invariant.own_processes part (stands_along c.self.view_is handlers part s) letter.0 letter.1.own (there g at.After-index_mut)
    (λ process st. subst (λ (l : Letter _). accept_process l process ≡ None) (sym c.get.ensures) (c.in-Err.ensures.refused handlers process st)))

-- the outbox without the letter
left : (g : Over) (c : After-index-index g) → c.pop_for.new.self.letters ≡ without_first (is_for c.self.inside.config.workers c.self.inside.worker) c.self.inside.outbox.letters
left g c =
    let i = c.self.inside in
    ap (λ (o : HeldOutbox _). o.letters) c.pop_for.ensures.left ∙ ap (λ (k : Config). without_first (is_for k.workers i.worker) i.outbox.letters) c.self.invariant.by_worker

pub invariant_of-self-in_default-accept : goal.invariant_of-self-in_default-accept
invariant_of-self-in_default-accept g c =
    let i = c.self.inside in
    let at = goal.at.invariant_of-self-in_default-accept g c in
    let same = c.in_default-accept.ensures.same in
    let within = without-all (IsWithinRun i.config.lps (end_of i.config)) (is_for i.config.workers i.worker) i.outbox.letters c.self.invariant.sendable in
    inside-changed c.self.invariant _ c.accept.new.self (there g at.After-index_mut) (same.0, same.1)
    (subst (λ (ls : List (Letter _)). AllWithinRun i.config ls) (sym (left g at.After-index-index)) within) (ap (λ (o : HeldOutbox _). o.config) c.pop_for.ensures.left ∙ c.self.invariant.by_worker) c.self.invariant.few_made

pub returns-clause-done : goal.returns-clause-done
returns-clause-done g c handlers part s =
    let i = c.self.inside in
    let at = goal.at.returns-clause-done g c in
    let letter = first g at.After-index-index in
    let new = c.accept.new.self in
    let same = c.in_default-accept.ensures.same in
    let view = λ (ls : List (Letter _)). record (view_of i) { processes = slice_set i.processes.items c.index-index.result new; outbox = ls } in
    subst (λ (v : HeldWorker _ _ _). IsDone handlers (view c.pop_for.new.self.letters) (local_step (simulation_of handlers v.config) v.worker (step.Home v.worker) part)) c.self.view_is
    (subst (λ (ls : List (Letter _)). IsDone handlers (view ls) (local_step (simulation_of handlers i.config) i.worker (step.Home i.worker) part)) (sym (left g at.After-index-index))
    (home-done handlers (view_of i) c.self.invariant.own_processes part (stands_along c.self.view_is handlers part s) new letter.0 letter.1.own (there g at.After-index_mut) (same.0, same.1)
    (λ process st. subst (λ (l : Letter _). ProcessIsDone handlers new (accept_process l process) [] [] 0 0) (sym c.get.ensures) (c.in_default-accept.ensures.done handlers process st))))

pub returns-in-Err-clause-kept : goal.returns-in-Err-clause-kept
returns-in-Err-clause-kept g c =
    let i = c.self.inside in
    let same = written-same i.processes.items c.index-index.result c.index_mut.result.now c.accept.new.self (there g (goal.at.returns-in-Err-clause-kept g c).After-index_mut) c.in-Err.ensures.kept.2 in
    let back = c.put_back.ensures ∙ c.of-before.ensures in
    (c.in-Err.ensures.kept.0, (λ j. record (view_of i) { processes = same j; outbox = (back j).letters }) ∙ c.self.view_is)

pub returns-in_default-clause-same : goal.returns-in_default-clause-same
returns-in_default-clause-same g c = (ap (λ (v : HeldWorker _ _ _). v.worker) c.self.view_is, ap (λ (v : HeldWorker _ _ _). v.config) c.self.view_is)

pub returns-in-Err-clause-same : goal.returns-in-Err-clause-same
returns-in-Err-clause-same g c = (ap (λ (v : HeldWorker _ _ _). v.worker) c.self.view_is, ap (λ (v : HeldWorker _ _ _). v.config) c.self.view_is)

pub returns-clause-same : goal.returns-clause-same
returns-clause-same g c = (ap (λ (v : HeldWorker _ _ _). v.worker) c.self.view_is, ap (λ (v : HeldWorker _ _ _). v.config) c.self.view_is)
