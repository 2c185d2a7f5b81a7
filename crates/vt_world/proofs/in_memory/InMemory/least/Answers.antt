use Rattle.std.proofs.Common.{◌≡◌, ℕ, ◌∙◌, map, sym, ap, subst}
use Rattle.std.specs.List.{All, flat_map}
use Rattle.vt_key.specs.promise.Times.{earlier}
use Rattle.vt_key.specs.declared.letter.Mail.{Mail}
use Rattle.vt_model.specs.promise.Settings.{end_of}
use Rattle.vt_steps.specs.promise.Letters.{least_time}
use Rattle.vt_kernel.specs.inside.Guards.{held_letters}
use Rattle.vt_kernel.specs.inside.Held.{HeldWorker}
use Rattle.vt_kernel.proofs.TimeLemmas.{least_time-append}
use Rattle.vt_world.specs.inside.Held.{HeldWorld, least_held}
use Rattle.vt_world.proofs.LeastLemmas.{workers-end}
use Rattle.vt_world.proofs.in_memory.InMemory.least.Goals as goal

pub least_of_workers-held-requires-clause-same_end : goal.least_of_workers-held-requires-clause-same_end
least_of_workers-held-requires-clause-same_end g c κs within =
    let i = c.self.inside in
    subst (λ (t : ℕ). All (λ (k : HeldWorker _ _ _). end_of k.config ≡ t) c.deref.result.now) (sym c.end-end.ensures)
    (subst (All (λ (k : HeldWorker _ _ _). end_of k.config ≡ end_of i.config)) (sym c.deref.ensures.value) (workers-end i.config 0 i.kernels.items c.self.invariant.own_workers))

pub returns : goal.returns
returns g c =
    let i = c.self.inside in
    let end = end_of i.config in
    let at_workers : c.least_of_workers-held.result ≡ least_time end (flat_map held_letters i.kernels.items) =
    c.least_of_workers-held.ensures ∙ (λ j. least_time (c.end-end.ensures j) (flat_map held_letters (c.deref.ensures.value j))) in
    let travelling : c.least_of_inboxes-travelling.result ≡ least_time end (map (λ (mail : Mail _). mail.letter) (flat_map (λ inbox. inbox) i.inboxes.items)) =
    c.least_of_inboxes-travelling.ensures ∙ (λ j. least_time (c.end-end.ensures j) (map (λ (mail : Mail _). mail.letter) (flat_map (λ inbox. inbox) (c.deref-2.ensures.value j)))) in
    c.earlier.ensures
    ∙ (λ j. earlier (at_workers j) (travelling j))
    ∙ sym (least_time-append end (flat_map held_letters i.kernels.items) (map (λ (mail : Mail _). mail.letter) (flat_map (λ inbox. inbox) i.inboxes.items)))
    ∙ ap (λ (v : HeldWorld _ _ _ _). least_held v) c.self.view_is
