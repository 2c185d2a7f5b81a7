use Rattle.std.proofs.Common.{◌≡◌, ◌∙◌, slice_set, ap, subst, sym, refl}
use Rattle.std.specs.List.{find}
use Rattle.vt_steps.specs.promise.PartSteps.{is_for}
use Rattle.vt_key.specs.promise.Queues.{without_first}
use Rattle.vt_outbox.specs.inside.Outbox.{HeldOutbox, IsSorted}
use Rattle.vt_outbox.proofs.OutboxLemmas.{list-read, none-for, first-for, sorted-pop, without-none}
use Rattle.vt_outbox.proofs.outbox.Outbox.pop_for.Goals as goal

pub returns-in_err-letter-clause-letter : goal.returns-in_err-letter-clause-letter
returns-in_err-letter-clause-letter g c =
    let v = c.args.v in
    let there = list-read c.self.invariant c.args.self.now c.self.view_is v c.requires.1.0 c.index_mut.result.now c.index_mut.ensures.value in
    c.from_residual.ensures ∙ sym (none-for c.self.invariant v there c.in_err-letter.ensures.0) ∙ ap (λ (o : HeldOutbox _). find (is_for o.config.workers v) o.letters) c.self.view_is

pub returns-in_err-letter-clause-left : goal.returns-in_err-letter-clause-left
returns-in_err-letter-clause-left g c =
    let v = c.args.v in
    let now = c.args.self.now in
    let there = list-read c.self.invariant c.args.self.now c.self.view_is v c.requires.1.0 c.index_mut.result.now c.index_mut.ensures.value in
    let none = ap (λ (o : HeldOutbox _). find (is_for o.config.workers v) o.letters) (sym c.self.view_is) ∙ none-for c.self.invariant v there c.in_err-letter.ensures.0 in
    let kept : now.letters ≡ g.letters = sym (without-none (is_for now.config.workers v) now.letters none) ∙ sym c.requires.1.1 in
    c.self.view_is ∙ (λ j. record { config = now.config; letters = kept j })

pub invariant_of-self-2 : goal.invariant_of-self-2
invariant_of-self-2 g c =
    let i = c.self.inside in
    let v = c.args.v in
    let there = list-read c.self.invariant c.args.self.now c.self.view_is v c.requires.1.0 c.index_mut.result.now c.index_mut.ensures.value in
    let letters : c.picked.result.items ≡ without_first (is_for i.config.workers v) i.all.items =
    c.picked.ensures ∙ c.requires.1.1 ∙ ap (λ (o : HeldOutbox _). without_first (is_for o.config.workers v) o.letters) (sym c.self.view_is) in
    subst (IsSorted i.config (slice_set i.lists.items v c.pop_front.new.self) _) (sym letters)
    (sorted-pop c.self.invariant c.in_ok-letter.letter v _ there c.in_ok-letter.ensures refl)

pub returns-clause-letter : goal.returns-clause-letter
returns-clause-letter g c =
    let v = c.args.v in
    let there = list-read c.self.invariant c.args.self.now c.self.view_is v c.requires.1.0 c.index_mut.result.now c.index_mut.ensures.value in
    sym (first-for c.self.invariant v c.in_ok-letter.letter there c.in_ok-letter.ensures) ∙ ap (λ (o : HeldOutbox _). find (is_for o.config.workers v) o.letters) c.self.view_is
