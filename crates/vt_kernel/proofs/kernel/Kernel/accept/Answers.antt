use Rattle.std.proofs.Common.{rules, ◌≡◌, ◌≤◌, ◌∙◌, ◌⊎◌, inl, inr, length, slice_get, slice_set, None, Some, List, [], sym, ap, subst, refl, true, false}
use Rattle.std.proofs.lemmas.Option.{slice_get_past}
use Rattle.vt_key.specs.promise.Times.{TimeBefore}
use Rattle.vt_key.specs.declared.fault.Fault.{Fault}
use Rattle.vt_key.specs.declared.fault.Fault.TheVariants.{NotLawful, Memory}
use Rattle.vt_key.specs.declared.letter.Letter.{Letter}
use Rattle.vt_key.specs.declared.letter.Mail.{Mail}
use Rattle.vt_model.specs.promise.Simulation.{simulation_of}
use Rattle.vt_model.specs.promise.Settings.{end_of}
use Rattle.vt_steps.specs.promise.ProcessSteps.{accept_process}
use Rattle.vt_steps.specs.inside.Cells.{local_step}
use Rattle.vt_steps.specs.declared.step.Step.TheVariants as step
use Rattle.vt_lp.specs.inside.Held.{HeldProcess}
use Rattle.vt_lp.specs.inside.Guards.{holds_letter, IsDone as ProcessIsDone}
use Rattle.vt_kernel.specs.inside.Held.{HeldWorker, IsOwnMail, AllOwnMail, IsWorkerInside}
use Rattle.vt_kernel.specs.inside.Guards.{IsDone, IsAcceptRefusal}
use Rattle.vt_kernel.proofs.PartLemmas.{stands_along}
use Rattle.vt_kernel.proofs.LocalLemmas.{view_of, index-within, inside-changed, written-same}
use Rattle.vt_kernel.proofs.InsideLemmas.{inside-arrived}
use Rattle.vt_lp.proofs.AcceptLemmas.{accept-none}
use Rattle.vt_kernel.proofs.DeliveryLemmas.{accept-done, accept-nothing, accept-refused, accept-lawful, removed-all}
use Rattle.vt_kernel.proofs.ReentryLemmas.{IsOwnLetter, process-there, may-accept, addressed}
use Rattle.vt_kernel.proofs.kernel.Kernel.accept.Given.{Over}
use Rattle.vt_kernel.proofs.kernel.Kernel.accept.Goals.{After-index-index, After-index_mut}
use Rattle.vt_kernel.proofs.kernel.Kernel.accept.Goals as goal

pub returns-in_default-clause-refused : goal.returns-in_default-clause-refused
returns-in_default-clause-refused g c handlers part s =
    let i = c.self.inside in
    let past : length i.arrived.items ≤ c.args.i = subst (λ (l : List (Mail _)). length l ≤ c.args.i) c.deref.ensures.value c.in_default.ensures.lookup.3 in
    subst (λ (v : HeldWorker _ _ _). IsAcceptRefusal (local_step (simulation_of handlers v.config) v.worker (step.Accept v.worker c.args.i) part) NotLawful) c.self.view_is
    (subst (λ x. IsAcceptRefusal x NotLawful) (sym (accept-nothing handlers (view_of i) c.self.invariant.own_processes part (stands_along c.self.view_is handlers part s) c.args.i (slice_get_past i.arrived.items c.args.i past))) refl)

-- the mail is there, and the index is that of its process
mail-there : (g : Over) (c : After-index-index g) → (slice_get c.self.inside.arrived.items c.args.i ≡ Some c.in-Some.mail.now) × IsOwnLetter c.self.invariant c.in-Some.mail.now.letter c.index-index.result
mail-there g c = addressed c.self.invariant _ c.deref.ensures.value (sym c.in-Some.ensures.lookup.0) c.in-Some.ensures.lookup.1 c.index-index.ensures

pub index-requires : goal.index-requires
index-requires g c =
    let less = index-within c.self.invariant (mail-there g (goal.at.index-requires g c).After-index-index).1.own in
    search (rules, less)

pub returns-in_default-new-clause-refused : goal.returns-in_default-new-clause-refused
returns-in_default-new-clause-refused g c handlers part s =
    let i = c.self.inside in
    let mail = mail-there g (goal.at.returns-in_default-new-clause-refused g c).After-index-index in
    let letter = c.in-Some.mail.now.letter in
    let q = c.index.result.now in
    let at = process-there c.self.invariant mail.1.own (sym c.index.ensures) in
    let stands = stands_along c.self.view_is handlers part s in
    let after = local_step (simulation_of handlers i.config) i.worker (step.Accept i.worker c.args.i) part in
    let told = c.unmade.ensures in
    subst (λ (v : HeldWorker _ _ _). IsAcceptRefusal (local_step (simulation_of handlers v.config) v.worker (step.Accept v.worker c.args.i) part) c.unmade.result) c.self.view_is
    (elim (holds_letter q.pending q.waiting q.past letter.sign letter.event.rank) as (λ b. holds_letter q.pending q.waiting q.past letter.sign letter.event.rank ≡ b → IsAcceptRefusal after c.unmade.result) [
      | true ↦ λ is.
          subst (λ (fault : Fault). IsAcceptRefusal after fault) (sym (told.held is))
          (subst (λ x. IsAcceptRefusal x NotLawful) (sym (accept-refused handlers (view_of i) c.self.invariant.own_processes part stands c.args.i mail.0 mail.1.own at
          (λ process st. accept-none handlers q process letter is st))) refl)
      | false ↦ λ is.
          subst (λ (fault : Fault). IsAcceptRefusal after fault) (sym (told.new is))
          (subst (λ x. IsAcceptRefusal x Memory) (sym (accept-lawful handlers (view_of i) c.self.invariant.own_processes part stands c.args.i mail.0 mail.1.own at is).1) refl)
    ] refl)

pub index_mut-requires : goal.index_mut-requires
index_mut-requires g c =
    let less = index-within c.self.invariant (mail-there g (goal.at.index_mut-requires g c).After-index-index).1.own in
    search (rules, less)

-- the process is there
there : (g : Over) (c : After-index_mut g) → slice_get c.self.inside.processes.items c.index-index.result ≡ Some c.index_mut.result.now
there g c =
    let mail = addressed c.self.invariant _ c.deref.ensures.value (sym c.in-Some.ensures.lookup.0) c.in-Some.ensures.lookup.1 c.index-index.ensures in
    process-there c.self.invariant mail.1.own (sym c.index_mut.ensures.value)

pub accept-requires-clause-dest : goal.accept-requires-clause-dest
accept-requires-clause-dest g c κs within =
    let at = goal.at.accept-requires-clause-dest g c in
    ap (λ (l : Letter _). l.event.dest) c.in-Ok.ensures.made ∙ (may-accept c.self.invariant (mail-there g at.After-index-index).1 (there g at.After-index_mut)).0

pub accept-requires-clause-soon : goal.accept-requires-clause-soon
accept-requires-clause-soon g c κs within =
    let at = goal.at.accept-requires-clause-soon g c in
    subst (λ (l : Letter _). TimeBefore l.event.rank.key.time (end_of c.index_mut.result.now.config)) (sym c.in-Ok.ensures.made)
    (may-accept c.self.invariant (mail-there g at.After-index-index).1 (there g at.After-index_mut)).1

pub invariant_of-self : goal.invariant_of-self
invariant_of-self g c =
    let i = c.self.inside in
    subst (λ (ps : List (HeldProcess _ _ _)). IsWorkerInside i.config i.worker ps i.outbox i.arrived.items i.sent i.got i.serial)
    (sym (written-same i.processes.items c.index-index.result c.index_mut.result.now c.accept.new.self (there g (goal.at.invariant_of-self g c).After-index_mut) c.in-Err.ensures.kept.2)) c.self.invariant

pub returns-in-Err-clause-refused : goal.returns-in-Err-clause-refused
returns-in-Err-clause-refused g c handlers part s =
    let at = goal.at.returns-in-Err-clause-refused g c in
    let mail = mail-there g at.After-index-index in
    let none = accept-refused handlers (view_of c.self.inside) c.self.invariant.own_processes part (stands_along c.self.view_is handlers part s) c.args.i mail.0 mail.1.own (there g at.After-index_mut)
    (λ process st. subst (λ (l : Letter _). accept_process l process ≡ None) c.in-Ok.ensures.made (c.in-Err.ensures.refused handlers process st)) in
    subst (λ (v : HeldWorker _ _ _). IsAcceptRefusal (local_step (simulation_of handlers v.config) v.worker (step.Accept v.worker c.args.i) part) c.in-Err.fault) c.self.view_is
    (subst (λ x. IsAcceptRefusal x c.in-Err.fault) (sym none) c.in-Err.ensures.kept.0)

pub invariant_of-self-2 : goal.invariant_of-self-2
invariant_of-self-2 g c =
    let i = c.self.inside in
    let same = c.in_default-accept.ensures.same in
    let rest = removed-all (IsOwnMail i.config i.worker) i.arrived.items c.args.i c.self.invariant.own_mail in
    inside-arrived c.remove.new.self.items i.got (subst (λ (ms : List (Mail _)). AllOwnMail i.config i.worker ms) (sym c.remove.ensures.items) rest) c.self.invariant.few_got
    (inside-changed c.self.invariant _ c.accept.new.self (there g (goal.at.invariant_of-self-2 g c).After-index_mut) (same.0, same.1)
    c.self.invariant.sendable c.self.invariant.by_worker c.self.invariant.few_made)

pub returns-clause-done : goal.returns-clause-done
returns-clause-done g c handlers part s =
    let i = c.self.inside in
    let at = goal.at.returns-clause-done g c in
    let mail = mail-there g at.After-index-index in
    let new = c.accept.new.self in
    let same = c.in_default-accept.ensures.same in
    let view = λ (ms : List (Mail _)). record (view_of i) { processes = slice_set i.processes.items c.index-index.result new; arrived = ms } in
    subst (λ (v : HeldWorker _ _ _). IsDone handlers (view c.remove.new.self.items) (local_step (simulation_of handlers v.config) v.worker (step.Accept v.worker c.args.i) part)) c.self.view_is
    (subst (λ (ms : List (Mail _)). IsDone handlers (view ms) (local_step (simulation_of handlers i.config) i.worker (step.Accept i.worker c.args.i) part)) (sym c.remove.ensures.items)
    (accept-done handlers (view_of i) c.self.invariant.own_processes part (stands_along c.self.view_is handlers part s) c.args.i new mail.0 mail.1.own (there g at.After-index_mut) (same.0, same.1)
    (λ process st. subst (λ (l : Letter _). ProcessIsDone handlers new (accept_process l process) [] [] 0 0) c.in-Ok.ensures.made (c.in_default-accept.ensures.done handlers process st))))

-- what stays, and which faults there are
pub returns-in_default-clause-kept : goal.returns-in_default-clause-kept
returns-in_default-clause-kept g c = refl

pub returns-in_default-new-clause-kept : goal.returns-in_default-new-clause-kept
returns-in_default-new-clause-kept g c = refl

pub returns-in-Err-clause-kept : goal.returns-in-Err-clause-kept
returns-in-Err-clause-kept g c =
    let i = c.self.inside in
    let same = written-same i.processes.items c.index-index.result c.index_mut.result.now c.accept.new.self (there g (goal.at.returns-in-Err-clause-kept g c).After-index_mut) c.in-Err.ensures.kept.2 in
    (λ j. record (view_of i) { processes = same j }) ∙ c.self.view_is

pub returns-in_default-new-clause-faults : goal.returns-in_default-new-clause-faults
returns-in_default-new-clause-faults g c =
    let q = c.index.result.now in
    let letter = c.in-Some.mail.now.letter in
    let told = c.unmade.ensures in
    elim (holds_letter q.pending q.waiting q.past letter.sign letter.event.rank) as (λ b. holds_letter q.pending q.waiting q.past letter.sign letter.event.rank ≡ b → (c.unmade.result ≡ NotLawful) ⊎ (c.unmade.result ≡ Memory)) [
      | true ↦ λ is. inl (told.held is)
      | false ↦ λ is. inr (told.new is)
    ] refl

pub returns-in-Err-clause-faults : goal.returns-in-Err-clause-faults
returns-in-Err-clause-faults g c = inl c.in-Err.ensures.kept.0

pub returns-in_default-clause-same : goal.returns-in_default-clause-same
returns-in_default-clause-same g c = (refl, refl)

pub returns-in_default-new-clause-same : goal.returns-in_default-new-clause-same
returns-in_default-new-clause-same g c = (refl, refl)

pub returns-in-Err-clause-same : goal.returns-in-Err-clause-same
returns-in-Err-clause-same g c = (ap (λ (v : HeldWorker _ _ _). v.worker) c.self.view_is, ap (λ (v : HeldWorker _ _ _). v.config) c.self.view_is)

pub returns-clause-same : goal.returns-clause-same
returns-clause-same g c = (ap (λ (v : HeldWorker _ _ _). v.worker) c.self.view_is, ap (λ (v : HeldWorker _ _ _). v.config) c.self.view_is)
