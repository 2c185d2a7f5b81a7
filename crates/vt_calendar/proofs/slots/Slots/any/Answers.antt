use Rattle.std.proofs.Common.{◌≡◌, ◌∙◌, List, Some, slice_get, sym, ap, add-one}
use Rattle.std.specs.List.{list_any}
use Rattle.std.proofs.lemmas.Option.{slice_get-get_or}
use Rattle.vt_key.specs.declared.letter.Letter.{Letter}
use Rattle.vt_calendar.specs.inside.Slots.{items_in}
use Rattle.vt_calendar.proofs.SlotLemmas.{any-found, any-more}
use Rattle.vt_calendar.proofs.slots.Slots.any.Given.{Over}
use Rattle.vt_calendar.proofs.slots.Slots.any.Goals.{After-any_of}
use Rattle.vt_calendar.proofs.slots.Slots.any.Goals as goal

there : (g : Over) (c : After-any_of g) → slice_get c.deref-list-items.result.now c.loop-list.list-index ≡ Some c.list-item.result
there g c = slice_get-get_or c.deref-list-items.result.now c.loop-list.list-index c.list-item.result c.loop-list-test.true ∙ ap Some (sym c.list-item.is)

pub returns-then-any_of : goal.returns-then-any_of
returns-then-any_of g c =
    let test = g.T.Predicate.passes c.args.test.now in
    sym (ap (λ (lists : List (List (Letter _))). list_any test (items_in lists)) (sym (c.deref-list-items.ensures.value ∙ c.self.view_is))
    ∙ any-found test c.deref-list-items.result.now c.loop-list.list-index c.list-item.result (there g (goal.at.returns-then-any_of g c).After-any_of) (sym c.any_of.ensures ∙ c.if-any_of.true))

pub loop-list-preserved : goal.loop-list-preserved
loop-list-preserved g c =
    let test = g.T.Predicate.passes c.args.test.now in
    rw add-one (any-more test c.deref-list-items.result.now c.loop-list.list-index c.list-item.result (there g (goal.at.loop-list-preserved g c).After-any_of) c.loop-list.invariant (sym c.any_of.ensures ∙ c.if-any_of.false))
