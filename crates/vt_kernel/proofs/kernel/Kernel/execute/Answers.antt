use Rattle.std.proofs.Common.{rules, ◌≡◌, ◌%◌, ◌≤◌, ◌∙◌, IfOk, IfErr, IfSome, Some, slice_get, slice_set, ap, sym, subst, refl}
use Rattle.std.proofs.lemmas.Result.{IfErr-weaker, IfOk-weaker}
use Rattle.vt_key.specs.declared.fault.Fault.TheVariants.{NotLawful}
use Rattle.vt_key.specs.declared.limits.TheConstants.{MAX_COUNT}
use Rattle.vt_model.specs.declared.settings.Config.{Config}
use Rattle.vt_model.specs.promise.Simulation.{simulation_of}
use Rattle.vt_steps.specs.promise.World.{Part}
use Rattle.vt_steps.specs.promise.ProcessSteps.{execute_process}
use Rattle.vt_steps.specs.inside.Cells.{local_step}
use Rattle.vt_steps.specs.declared.step.Step.TheVariants as step
use Rattle.vt_steps.proofs.lists.Indices.{get-put_same}
use Rattle.vt_lp.specs.inside.Held.{HeldProcess}
use Rattle.vt_lp.specs.inside.Guards.{IsDone as ProcessIsDone, IsExecuteRefusal as ProcessRefusal}
use Rattle.vt_kernel.specs.inside.Held.{HeldWorker, StandsFor, process_of}
use Rattle.vt_kernel.specs.inside.Guards.{IsDone, IsExecuteRefusal}
use Rattle.vt_kernel.specs.promise.Refusals.{PassesIn}
use Rattle.vt_kernel.proofs.PartLemmas.{stands_along}
use Rattle.vt_kernel.proofs.ProcessLemmas.{process-at, processes-changed}
use Rattle.vt_kernel.proofs.OwnSteps.{own-execute, IsFound, within-limits, same-execute, refusal-at, own-step}
use Rattle.vt_kernel.proofs.LocalLemmas.{view_of, index-within, unknown-refused, either-way, found-at, at-found-done, execute-step, both-errors, own-process, other-process}
use Rattle.vt_kernel.proofs.PutLemmas.{put-done, put-kept, put-seen, inside-put}
use Rattle.vt_kernel.proofs.ReentryLemmas.{process-there}
use Rattle.vt_kernel.proofs.kernel.Kernel.execute.Given.{Over}
use Rattle.vt_kernel.proofs.kernel.Kernel.execute.Goals.{After-index_mut, After-put}
use Rattle.vt_kernel.proofs.kernel.Kernel.execute.Goals as goal

pub index_mut-requires : goal.index_mut-requires
index_mut-requires g c = search (rules, index-within c.self.invariant c.in-Some.ensures.own)

-- the process is there
there : (g : Over) (c : After-index_mut g) → slice_get c.self.inside.processes.items c.in-Some.index ≡ Some c.index_mut.result.now
there g c = process-there c.self.invariant c.in-Some.ensures.own (sym c.index_mut.ensures.value)

pub execute-result-requires-send-M-Payload : goal.execute-result-requires-send-M-Payload
execute-result-requires-send-M-Payload g c = λ _ _. c.type_bounds.send-M-Payload

pub returns-in_default-clause-refused : goal.returns-in_default-clause-refused
returns-in_default-clause-refused g c part s =
    let i = c.self.inside in
    let handlers = g.M.Model.handlers c.args.model.now in
    let held = view_of i in
    let none = unknown-refused handlers held c.self.invariant.own_processes part (stands_along c.self.view_is handlers part s) c.args.lp (execute-step handlers held part c.args.lp) i.config.some_worker c.self.invariant.all_there c.in_default.ensures.other in
    subst (λ (v : HeldWorker _ _ _). IsExecuteRefusal (simulation_of handlers v.config) c.args.lp (local_step (simulation_of handlers v.config) v.worker (step.Execute c.args.lp) part) NotLawful) c.self.view_is
    (subst (λ x. IsExecuteRefusal (simulation_of handlers i.config) c.args.lp x NotLawful) (sym (own-execute (simulation_of handlers i.config) i.worker c.args.lp part ∙ none)) refl)

pub invariant_of-self : goal.invariant_of-self
invariant_of-self g c =
    let done = c.execute-result in
    let few : done.new.serial ≤ MAX_COUNT = either-way done.result (λ _ counted. counted.1) (λ _ kept. subst (λ n. n ≤ MAX_COUNT) (sym kept.1) c.self.invariant.few_made) done.ensures.counted done.ensures.kept in
    inside-put c.self.inside.outbox done.new.outbox c.new-sent.ensures c.put.ensures c.self.invariant _ done.new.self (there g (goal.at.invariant_of-self g c).After-index_mut) done.ensures.same
    done.ensures.within few

-- that process, in memory and in the part
executes : (g : Over) (c : After-index_mut g) (part : Part _) → StandsFor (g.M.Model.handlers c.args.model.now) c.args.self.now part
    → IsFound (g.M.Model.handlers c.args.model.now) (view_of c.self.inside) part c.args.lp c.index_mut.result.now
executes g c part s =
    let handlers = g.M.Model.handlers c.args.model.now in
    found-at handlers (view_of c.self.inside) c.self.invariant.own_processes part (stands_along c.self.view_is handlers part s) c.in-Some.ensures.own
    (there g c)

pub returns-clause-done : goal.returns-clause-done
returns-clause-done g c part s =
    let i = c.self.inside in
    let handlers = g.M.Model.handlers c.args.model.now in
    let held = view_of i in
    let own = c.in-Some.ensures.own in
    let done = c.execute-result in
    let h = stands_along c.self.view_is handlers part s in
    let f = executes g (goal.at.returns-clause-done g c).After-index_mut part s in
    let one = same-execute handlers held part c.args.lp c.index_mut.result.now f.process h own.1 f.lp f.config in
    let after = record held { processes = slice_set i.processes.items c.in-Some.index done.new.self; outbox = c.put.new.self.letters; serial = done.new.serial } in
    subst (λ (v : HeldWorker _ _ _). IfOk done.result (λ _. IsDone handlers after (local_step (simulation_of handlers v.config) v.worker (step.Execute c.args.lp) part))) c.self.view_is
    (IfOk-weaker done.result _ _ (λ _ sent.
    subst (λ x. IsDone handlers after x) (sym (own-execute (simulation_of handlers i.config) i.worker c.args.lp part))
    (at-found-done handlers held c.self.invariant.own_processes part h done.new.self c.put.new.self.letters done.new.serial (execute-step handlers held part c.args.lp) own f done.ensures.same
    (subst (λ x. ProcessIsDone handlers done.new.self x i.outbox.letters c.put.new.self.letters i.serial done.new.serial) one (put-done i.outbox done.new.outbox c.new-sent.ensures c.put.ensures sent)))) (done.ensures.done f.process f.stands))

pub returns-clause-counted : goal.returns-clause-counted
returns-clause-counted g c part s =
    let i = c.self.inside in
    let handlers = g.M.Model.handlers c.args.model.now in
    let own = c.in-Some.ensures.own in
    let old = c.index_mut.result.now in
    let new = c.execute-result.new.self in
    let at = there g (goal.at.returns-clause-counted g c).After-index_mut in
    let same = c.execute-result.ensures.same in
    let who = process-at i.config i.worker 0 c.in-Some.index i.processes.items old c.self.invariant.own_processes at in
    let processes = slice_set i.processes.items c.in-Some.index new in
    let held = record (view_of i) { processes = processes; outbox = c.put.new.self.letters; serial = c.execute-result.new.serial } in
    let are = processes-changed i.config i.worker 0 c.in-Some.index i.processes.items new c.self.invariant.own_processes (same.0 ∙ who.0) (same.1 ∙ who.1) in
    let f = found-at handlers held are part s own (get-put_same i.processes.items c.in-Some.index old new at) in
    subst (λ (v : HeldWorker _ _ _). IfOk c.execute-result.result (λ _. PassesIn (simulation_of handlers v.config) (step.Execute c.args.lp) part 0 → ⊥)) c.self.view_is
    (IfOk-weaker c.execute-result.result _ _ (λ _ counted. within-limits handlers held part c.args.lp new s f counted.0 counted.1) c.execute-result.ensures.counted)

pub returns-clause-refused : goal.returns-clause-refused
returns-clause-refused g c part s =
    let i = c.self.inside in
    let handlers = g.M.Model.handlers c.args.model.now in
    let held = view_of i in
    let sim = simulation_of handlers i.config in
    let own = c.in-Some.ensures.own in
    let old = c.index_mut.result.now in
    let h = stands_along c.self.view_is handlers part s in
    let f = executes g (goal.at.returns-clause-refused g c).After-index_mut part s in
    let one = same-execute handlers held part c.args.lp old f.process h own.1 f.lp f.config in
    let at_worker = own-step sim i.worker c.args.lp (execute-step handlers held part c.args.lp) part f.process own.1 f.there in
    subst (λ (v : HeldWorker _ _ _). IfErr c.execute-result.result (λ fault. IsExecuteRefusal (simulation_of handlers v.config) c.args.lp (local_step (simulation_of handlers v.config) v.worker (step.Execute c.args.lp) part) fault)) c.self.view_is
    (IfErr-weaker c.execute-result.result _ _ (λ fault why.
    subst (λ x. IsExecuteRefusal sim c.args.lp x fault) (sym (own-execute sim i.worker c.args.lp part ∙ at_worker))
    (refusal-at handlers held part c.args.lp (execute-step handlers held part c.args.lp f.process) f.process fault h f.there
    (subst (λ x. ProcessRefusal sim c.args.lp i.serial x fault) one
    (subst (λ k. ProcessRefusal sim k i.serial (execute_process (simulation_of handlers old.config) old.lp (old.lp % old.config.workers) i.serial f.process) fault) f.lp
    (subst (λ (k : Config). ProcessRefusal (simulation_of handlers k) old.lp i.serial (execute_process (simulation_of handlers old.config) old.lp (old.lp % old.config.workers) i.serial f.process) fault) f.config why)))))
    (c.execute-result.ensures.refused f.process f.stands))

-- a worker is seen as before where its process, what that sent and the serial are as before
as-before : (g : Over) (c : After-put g) → c.execute-result.new.self ≡ c.index_mut.result.now → c.execute-result.new.outbox ≡ c.new-sent.result → c.execute-result.new.serial ≡ c.self.inside.serial
    → record (view_of c.self.inside) { processes = slice_set c.self.inside.processes.items c.in-Some.index c.execute-result.new.self; outbox = c.put.new.self.letters; serial = c.execute-result.new.serial } ≡ c.args.self.now
as-before g c same kept still =
    let at = process-there c.self.invariant c.in-Some.ensures.own (sym c.index_mut.ensures.value) in
    put-seen c.self.inside.outbox c.execute-result.new.outbox c.new-sent.ensures c.put.ensures (view_of c.self.inside) _ at refl same kept still ∙ c.self.view_is

pub returns-clause-unchanged : goal.returns-clause-unchanged
returns-clause-unchanged g c part s =
    let at = goal.at.returns-clause-unchanged g c in
    let f = executes g at.After-index_mut part s in
    both-errors c.execute-result.result (λ _ same kept. as-before g at.After-put same kept.0 kept.1)
    (c.execute-result.ensures.unchanged f.process f.stands) c.execute-result.ensures.kept

pub returns-clause-restored : goal.returns-clause-restored
returns-clause-restored g c known =
    let at = goal.at.returns-clause-restored g c in
    let here = subst (λ (v : HeldWorker _ _ _). IfSome (process_of v c.args.lp) (λ (p : HeldProcess _ _ _). g.M.Model.IsState c.args.model.now p.triple.state)) (sym c.self.view_is) known in
    let is_state = subst (λ x. IfSome x (λ (p : HeldProcess _ _ _). g.M.Model.IsState c.args.model.now p.triple.state)) (own-process (view_of c.self.inside) c.in-Some.ensures.own (there g at.After-index_mut)) here in
    both-errors c.execute-result.result (λ _ same kept. as-before g at.After-put same kept.0 kept.1)
    (c.execute-result.ensures.restored is_state) c.execute-result.ensures.kept

pub returns-clause-not_lawful : goal.returns-clause-not_lawful
returns-clause-not_lawful g c =
    both-errors c.execute-result.result (λ _ same kept is. as-before g (goal.at.returns-clause-not_lawful g c).After-put (same is) kept.0 kept.1)
    c.execute-result.ensures.not_lawful c.execute-result.ensures.kept

pub returns-clause-but_processes : goal.returns-clause-but_processes
returns-clause-but_processes g c =
    let i = c.self.inside in
    let done = c.execute-result in
    let processes = slice_set i.processes.items c.in-Some.index done.new.self in
    subst (λ (v : HeldWorker _ _ _). IfErr done.result (λ _. record (view_of i) { processes = processes; outbox = c.put.new.self.letters; serial = done.new.serial } ≡ record v { processes = processes })) c.self.view_is
    (IfErr-weaker done.result _ _ (λ _ kept j. record (view_of i) { processes = processes; outbox = put-kept i.outbox done.new.outbox c.new-sent.ensures c.put.ensures kept.0 j; serial = kept.1 j }) done.ensures.kept)

pub returns-clause-others : goal.returns-clause-others
returns-clause-others g c p apart =
    let done = c.execute-result in
    other-process (view_of c.self.inside) done.new.self c.put.new.self.letters done.new.serial p c.in-Some.ensures.own apart
    ∙ ap (λ (v : HeldWorker _ _ _). process_of v p) c.self.view_is
