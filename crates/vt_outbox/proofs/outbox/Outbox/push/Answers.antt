use Rattle.std.proofs.Common.{◌≡◌, ◌∙◌, ◌%◌, [], ◌∷◌, ◌++◌, slice_set, ap, subst, sym, refl}
use Rattle.std.proofs.lemmas.Option.{slice_get_read}
use Rattle.vt_key.specs.declared.letter.Letter.{Letter}
use Rattle.vt_outbox.specs.inside.Outbox.{HeldOutbox, IsSorted}
use Rattle.vt_outbox.proofs.OutboxLemmas.{sorted-put}
use Rattle.vt_outbox.proofs.outbox.Outbox.push.Goals as goal

pub invariant_of-self : goal.invariant_of-self
invariant_of-self g c =
    let i = c.self.inside in
    let v = c.owner-v.result in
    let letter = c.args.letter in
    let all = c.self.invariant.all_there in
    let known = c.owner-v.ensures.known in
    let there = slice_get_read i.lists.items i.config.workers v c.index_mut.result.now (sym all) known c.index_mut.ensures.value in
    let own : letter.event.dest % i.config.workers ≡ v = ap (λ (l : Letter _). l.event.dest % i.config.workers) (sym c.get.ensures) ∙ sym c.owner-v.ensures.value in
    let letters : c.picked.result.items ≡ i.all.items ++ letter ∷ [] = c.picked.ensures ∙ c.requires.1 ∙ ap (λ (o : HeldOutbox _). o.letters ++ letter ∷ []) (sym c.self.view_is) in
    subst (IsSorted i.config (slice_set i.lists.items v c.push_back.new.self) _) (sym letters)
    (sorted-put c.self.invariant letter v _ own there c.push_back.ensures refl)
