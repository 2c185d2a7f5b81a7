use Rattle.std.proofs.Common.{◌≡◌, [], List, false, Some, slice_get, slice_set, sym, subst, ap, ◌∙◌, arith}
use Rattle.vt_key.specs.declared.letter.Letter.{Letter}
use Rattle.vt_calendar.specs.inside.Slots.{is_used, IsChanged}
use Rattle.vt_calendar.proofs.SlotLemmas.{list-there, marks-set}
use Rattle.vt_calendar.proofs.slots.Slots.take_all.Goals as goal

pub invariant_of-self : goal.invariant_of-self
invariant_of-self g c = (
  marks-set c.self.inside.lists.items c.args.slot c.replace-taken.new.dest c.self.inside.marks c.set.new.self false c.set.ensures c.self.invariant.0
      (sym (ap is_used (c.replace-taken.ensures.after ∙ c.new.ensures))),
  c.self.invariant.1,
)

pub returns : goal.returns
returns g c =
    let lists : List (List (Letter _)) = c.self.inside.lists.items in
    let list : List (Letter _) = c.index_mut.result.now in
    let there : slice_get lists c.args.slot ≡ Some list = list-there lists c.args.slot c.self.inside.lists.len list c.self.inside.lists.ok.0 (omega (arith, c.requires.within, c.self.invariant.1)) c.index_mut.ensures.value in
    subst (λ (old : List (List (Letter _))). IsChanged c.args.slot c.replace-taken.result [] old (slice_set lists c.args.slot c.replace-taken.new.dest)) c.self.view_is
    (record { there = there ∙ ap Some (sym c.replace-taken.ensures.value); is = ap (slice_set lists c.args.slot) (c.replace-taken.ensures.after ∙ c.new.ensures) })
