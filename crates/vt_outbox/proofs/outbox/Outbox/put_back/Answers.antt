use Rattle.std.proofs.Common.{◌≡◌, ◌∙◌, slice_set, Some, ap, subst, sym, refl}
use Rattle.std.specs.List.{find}
use Rattle.vt_steps.specs.promise.PartSteps.{is_for}
use Rattle.vt_key.specs.promise.Queues.{without_first}
use Rattle.vt_outbox.specs.inside.Outbox.{HeldOutbox, IsSorted}
use Rattle.vt_outbox.proofs.OutboxLemmas.{list-read, sorted-back}
use Rattle.vt_outbox.proofs.outbox.Outbox.put_back.Goals as goal

pub invariant_of-self : goal.invariant_of-self
invariant_of-self g c =
    let i = c.self.inside in
    let v = c.args.v in
    let before = c.args.before.now.value.letters in
    let same : i.config ≡ c.args.self.now.config = ap (λ (o : HeldOutbox _). o.config) c.self.view_is in
    let there = list-read c.self.invariant c.args.self.now c.self.view_is v c.requires.1.0 c.index_mut.result.now c.index_mut.ensures.value in
    let found = subst (λ (o : HeldOutbox _). find (is_for o.config.workers v) before ≡ Some c.args.letter) (sym c.self.view_is) c.requires.1.1.1.0 in
    let left : i.all.items ≡ without_first (is_for i.config.workers v) before =
    ap (λ (o : HeldOutbox _). o.letters) (c.self.view_is ∙ c.requires.1.1.1.1) ∙ ap (λ (o : HeldOutbox _). without_first (is_for o.config.workers v) before) (sym c.self.view_is) in
    subst (IsSorted i.config (slice_set i.lists.items v c.push_front.new.self) _) (sym (c.picked.ensures ∙ c.requires.1.1.0))
    (sorted-back c.self.invariant c.args.letter v _ before there c.push_front.ensures found left refl)
