use Rattle.std.proofs.Common.{◌≡◌, ◌∷◌, List, true, false, Some, slice_get, slice_set, sym, subst, ap, ◌∙◌, arith}
use Rattle.vt_key.specs.declared.letter.Letter.{Letter}
use Rattle.vt_calendar.specs.inside.Slots.{is_used, IsChanged}
use Rattle.vt_calendar.proofs.SlotLemmas.{list-there, marks-set, same-marks, some-used}
use Rattle.vt_calendar.proofs.slots.Slots.put.Goals.{After-push_front}
use Rattle.vt_calendar.proofs.slots.Slots.put.Given.{Over}
use Rattle.vt_calendar.proofs.slots.Slots.put.Goals as goal

there : (g : Over) (c : After-push_front g) → slice_get c.self.inside.lists.items c.args.slot ≡ Some c.index_mut-list.result.now
there g c =
    list-there c.self.inside.lists.items c.args.slot c.self.inside.lists.len c.index_mut-list.result.now c.self.inside.lists.ok.0
    (omega (arith, c.requires.within, c.self.invariant.1)) c.index_mut-list.ensures.value

changed : (g : Over) (c : After-push_front g) → (x : List (Letter _)) × IsChanged c.args.slot x (c.args.letter ∷ x) c.args.self.now (slice_set c.self.inside.lists.items c.args.slot c.push_front.new.self)
changed g c =
    let lists : List (List (Letter _)) = c.self.inside.lists.items in
    subst (λ (old : List (List (Letter _))). (x : List (Letter _)) × IsChanged c.args.slot x (c.args.letter ∷ x) old (slice_set lists c.args.slot c.push_front.new.self)) c.self.view_is
    (c.index_mut-list.result.now, record { there = there g c; is = ap (slice_set lists c.args.slot) c.push_front.ensures })

pub invariant_of-self : goal.invariant_of-self
invariant_of-self g c = (
  marks-set c.self.inside.lists.items c.args.slot c.push_front.new.self c.self.inside.marks c.set.new.self true c.set.ensures c.self.invariant.0 (sym (ap is_used c.push_front.ensures)),
  c.self.invariant.1,
)

pub invariant_of-self-else-was_empty : goal.invariant_of-self-else-was_empty
invariant_of-self-else-was_empty g c =
    let list : List (Letter _) = c.index_mut-list.result.now in
    let some : is_used list ≡ true = some-used list (λ none. let both : false ≡ true = sym c.if-was_empty.false ∙ c.is_empty-was_empty.ensures.1 none in cc) in (
      c.self.invariant.0
          ∙ sym (same-marks c.self.inside.lists.items c.args.slot list c.push_front.new.self (there g (goal.at.invariant_of-self-else-was_empty g c).After-push_front) (ap is_used c.push_front.ensures ∙ sym some)),
      c.self.invariant.1,
    )

pub returns-then-was_empty : goal.returns-then-was_empty
returns-then-was_empty g c = changed g (goal.at.returns-then-was_empty g c).After-push_front

pub returns-else-was_empty : goal.returns-else-was_empty
returns-else-was_empty g c = changed g (goal.at.returns-else-was_empty g c).After-push_front
