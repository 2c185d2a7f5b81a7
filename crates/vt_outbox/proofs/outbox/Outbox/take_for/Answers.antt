use Rattle.std.proofs.Common.{◌≡◌, ◌∙◌, ◌%◌, ◌^◌, not, length, List, slice_set, ap, subst, sym, refl}
use Rattle.std.specs.List.{filter}
use Rattle.vt_steps.specs.promise.PartSteps.{is_for}
use Rattle.vt_key.specs.declared.letter.Letter.{Letter}
use Rattle.vt_outbox.specs.inside.Outbox.{HeldOutbox, IsSorted}
use Rattle.vt_outbox.proofs.OutboxLemmas.{list-read, sorted-taken}
use Rattle.vt_outbox.proofs.outbox.Outbox.take_for.Goals as goal

pub invariant_of-self : goal.invariant_of-self
invariant_of-self g c =
    let i = c.self.inside in
    let v = c.args.v in
    let there = list-read c.self.invariant c.args.self.now c.self.view_is v c.requires.1.0 c.index_mut.result.now c.index_mut.ensures.value in
    let letters : c.picked.result.items ≡ filter (λ (l : Letter _). not (is_for i.config.workers v l)) i.all.items =
    c.picked.ensures ∙ c.requires.1.1 ∙ ap (λ (o : HeldOutbox _). filter (λ (l : Letter _). not (is_for o.config.workers v l)) o.letters) (sym c.self.view_is) in
    let size = c.len.ensures ∙ ap (λ (ls : List (Letter _)). length ls % 2 ^ 64) c.replace-taken.ensures.value in
    subst (IsSorted i.config (slice_set i.lists.items v c.replace-taken.new.dest) _) (sym letters)
    (sorted-taken c.self.invariant v _ c.len.result there (c.replace-taken.ensures.after ∙ c.new.ensures) size refl)

pub returns-clause-taken : goal.returns-clause-taken
returns-clause-taken g c =
    let v = c.args.v in
    let there = list-read c.self.invariant c.args.self.now c.self.view_is v c.requires.1.0 c.index_mut.result.now c.index_mut.ensures.value in
    c.replace-taken.ensures.value ∙ c.self.invariant.sorted v c.index_mut.result.now there ∙ ap (λ (o : HeldOutbox _). filter (is_for o.config.workers v) o.letters) c.self.view_is
