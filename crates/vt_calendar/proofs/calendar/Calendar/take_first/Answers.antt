use Rattle.std.proofs.Common.{◌≡◌, ◌∷◌, [], List, MatchOption, sym, subst, ◌∙◌}
use Rattle.vt_key.specs.declared.letter.Letter.{Letter}
use Rattle.vt_calendar.specs.inside.Kept.{in_order, letters_kept, IsKept}
use Rattle.vt_calendar.proofs.TakenLemmas.{ready-taken, late-taken}
use Rattle.vt_calendar.proofs.calendar.Calendar.take_first.Given.{Over}
use Rattle.vt_calendar.proofs.calendar.Calendar.take_first.Goals.{After-pop_front, After-pop_front-2}
use Rattle.vt_calendar.proofs.calendar.Calendar.take_first.Goals as goal

of_late : (g : Over) (c : After-pop_front g) → let s = c.self.inside in let all = in_order (letters_kept s.present s.late s.slots) in let left = in_order (letters_kept s.present c.pop_front.new.self s.slots) in
    IsKept s.time s.present c.pop_front.new.self s.slots × MatchOption c.pop_front.result ((all ≡ []) × (left ≡ [])) (λ x. all ≡ x ∷ left)
of_late g c =
    let s = c.self.inside in
    late-taken s.time s.present s.late c.pop_front.new.self s.slots c.pop_front.result c.pop_front.ensures c.self.invariant.0 (sym c.leads.ensures ∙ c.if-leads.true)

pub invariant_of-self : goal.invariant_of-self
invariant_of-self g c = ((of_late g c).0, c.self.invariant.1)

pub returns-then-leads : goal.returns-then-leads
returns-then-leads g c =
    let s = c.self.inside in let left : List (Letter _) = in_order (letters_kept s.present c.pop_front.new.self s.slots) in
    subst (λ (old : List (Letter _)). MatchOption c.pop_front.result ((old ≡ []) × (left ≡ [])) (λ x. old ≡ x ∷ left)) c.self.view_is (of_late g c).1

of_present : (g : Over) (c : After-pop_front-2 g) → let s = c.self.inside in let all = in_order (letters_kept s.present s.late s.slots) in let left = in_order (letters_kept c.pop_front-2.new.self s.late c.settle.new.slots) in
    IsKept c.settle.new.now c.pop_front-2.new.self s.late c.settle.new.slots × MatchOption c.pop_front-2.result ((all ≡ []) × (left ≡ [])) (λ x. all ≡ x ∷ left)
of_present g c =
    let s = c.self.inside in
    ready-taken c.settle.new.now c.settle.new.present s.late c.pop_front-2.new.self c.settle.new.slots (in_order (letters_kept s.present s.late s.slots)) c.pop_front-2.result c.pop_front-2.ensures
    (c.settle.ensures.ready s.late c.self.invariant.0 (sym c.leads.ensures ∙ c.if-leads.false))

pub invariant_of-self-2 : goal.invariant_of-self-2
invariant_of-self-2 g c = ((of_present g c).0, c.settle.ensures.clear)

pub returns : goal.returns
returns g c =
    let left : List (Letter _) = in_order (letters_kept c.pop_front-2.new.self c.self.inside.late c.settle.new.slots) in
    subst (λ (old : List (Letter _)). MatchOption c.pop_front-2.result ((old ≡ []) × (left ≡ [])) (λ x. old ≡ x ∷ left)) c.self.view_is (of_present g c).1
