use Rattle.std.proofs.Common.{◌≡◌, Bool, ◌||◌, sym, ap, ◌∙◌}
use Rattle.std.specs.List.{list_any}
use Rattle.vt_calendar.specs.inside.Slots.{items_in}
use Rattle.vt_calendar.proofs.TakenLemmas.{any-kept, one-of-first, only-last}
use Rattle.vt_calendar.proofs.calendar.Calendar.any.Goals.{then-any_of, else-any_of}
use Rattle.vt_calendar.proofs.calendar.Calendar.any.Goals as goal

pub returns-then-any_of-2 : goal.returns-then-any_of-2
returns-then-any_of-2 g c =
    let test = g.T.Predicate.passes c.args.test.now in
    let present : Bool = list_any test c.self.inside.present in let late : Bool = list_any test c.self.inside.late in let slots : Bool = list_any test (items_in c.self.inside.slots) in
    let either : c.if-any_of.value ≡ (present || late) = elim c.if-any_of.branch [
      | then-any_of w ↦ w.value-is ∙ w.if-any_of.true ∙ sym (ap (λ b. b || late) (sym c.any_of.ensures ∙ w.if-any_of.true))
      | else-any_of w ↦ w.value-is ∙ w.any_of-else-any_of.ensures ∙ sym (ap (λ b. b || late) (sym c.any_of.ensures ∙ w.if-any_of.false))
    ] in
    c.if-any_of-2.true ∙ sym (one-of-first present late slots (sym either ∙ c.if-any_of-2.true)) ∙ any-kept test c.self.inside.present c.self.inside.late c.self.inside.slots ∙ ap (list_any test) c.self.view_is

pub returns-else-any_of-2 : goal.returns-else-any_of-2
returns-else-any_of-2 g c =
    let test = g.T.Predicate.passes c.args.test.now in
    let present : Bool = list_any test c.self.inside.present in let late : Bool = list_any test c.self.inside.late in let slots : Bool = list_any test (items_in c.self.inside.slots) in
    let either : c.if-any_of.value ≡ (present || late) = elim c.if-any_of.branch [
      | then-any_of w ↦ w.value-is ∙ w.if-any_of.true ∙ sym (ap (λ b. b || late) (sym c.any_of.ensures ∙ w.if-any_of.true))
      | else-any_of w ↦ w.value-is ∙ w.any_of-else-any_of.ensures ∙ sym (ap (λ b. b || late) (sym c.any_of.ensures ∙ w.if-any_of.false))
    ] in
    c.any.ensures ∙ only-last present late slots (sym either ∙ c.if-any_of-2.false) ∙ any-kept test c.self.inside.present c.self.inside.late c.self.inside.slots ∙ ap (list_any test) c.self.view_is
