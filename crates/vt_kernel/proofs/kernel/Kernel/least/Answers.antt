use Rattle.std.proofs.Common.{◌≡◌, ◌∙◌, ◌++◌, List, map, sym, ap, subst}
use Rattle.std.specs.List.{All, flat_map}
use Rattle.vt_key.specs.promise.Times.{Time, earlier}
use Rattle.vt_key.specs.declared.letter.Letter.{Letter}
use Rattle.vt_key.specs.declared.letter.Mail.{Mail}
use Rattle.vt_model.specs.promise.Settings.{end_of}
use Rattle.vt_steps.specs.promise.Letters.{least_time}
use Rattle.vt_lp.specs.inside.Held.{HeldProcess}
use Rattle.vt_kernel.specs.inside.Held.{HeldWorker}
use Rattle.vt_kernel.proofs.ProcessLemmas.{same-ends}
use Rattle.vt_kernel.specs.inside.Guards.{held_letters}
use Rattle.vt_kernel.proofs.ReportLemmas.{kept_letters}
use Rattle.vt_kernel.proofs.TimeLemmas.{least_time-append}
use Rattle.vt_kernel.proofs.kernel.Kernel.least.Goals as goal

pub least_of_processes-kept-requires-clause-ends : goal.least_of_processes-kept-requires-clause-ends
least_of_processes-kept-requires-clause-ends g c κs within =
    let k = c.self.inside in
    subst (λ (ps : List (HeldProcess _ _ _)). All (λ (q : HeldProcess _ _ _). end_of q.config ≡ c.end-end.result) ps) (sym c.deref-2.ensures.value)
    (subst (λ (t : Time). All (λ (q : HeldProcess _ _ _). end_of q.config ≡ t) k.processes.items) (sym c.end-end.ensures)
    (same-ends k.config k.worker 0 k.processes.items c.self.invariant.own_processes))

pub returns : goal.returns
returns g c =
    let k = c.self.inside in
    let end = end_of k.config in
    let letters : List (Mail _) → List (Letter _) = map (λ (m : Mail _). m.letter) in
    let arrived : c.least_of_mail-arrived.result ≡ least_time c.end-end.result (letters k.arrived.items) = c.least_of_mail-arrived.ensures ∙ ap (λ (ms : List (Mail _)). least_time c.end-end.result (letters ms)) c.deref.ensures.value in
    let kept : c.least_of_processes-kept.result ≡ least_time end (flat_map kept_letters k.processes.items) = c.least_of_processes-kept.ensures ∙ (λ j. least_time (c.end-end.ensures j) (flat_map kept_letters (c.deref-2.ensures.value j))) in
    let first : c.earlier.result ≡ earlier (least_time end k.outbox.letters) (least_time end (letters k.arrived.items)) = c.earlier.ensures ∙ (λ j. earlier (c.least-unsent.ensures j) (arrived j)) ∙ ap (λ (t : Time). earlier (least_time t k.outbox.letters) (least_time t (letters k.arrived.items))) c.end-end.ensures in
    c.earlier-2.ensures
    ∙ (λ j. earlier (first j) (kept j))
    ∙ ap (λ (t : Time). earlier t (least_time end (flat_map kept_letters k.processes.items))) (sym (least_time-append end k.outbox.letters (letters k.arrived.items)))
    ∙ sym (least_time-append end (k.outbox.letters ++ letters k.arrived.items) (flat_map kept_letters k.processes.items))
    ∙ ap (λ (v : HeldWorker _ _ _). least_time (end_of v.config) (held_letters v)) c.self.view_is
