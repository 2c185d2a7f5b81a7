use Rattle.std.proofs.Common.{List, slice_get, sym, ap, ◌∙◌}
use Rattle.std.specs.Option.{option_map}
use Rattle.vt_key.specs.declared.letter.Letter.{Letter}
use Rattle.vt_calendar.specs.inside.Kept.{time_of, in_order, letters_kept, IsReady}
use Rattle.vt_calendar.proofs.TakenLemmas.{ready-first, late-first}
use Rattle.vt_calendar.proofs.calendar.Calendar.first_time.Given.{Over}
use Rattle.vt_calendar.proofs.calendar.Calendar.first_time.Goals.{After-settle}
use Rattle.vt_calendar.proofs.calendar.Calendar.first_time.Goals as goal

pub returns-then-leads-clause-time : goal.returns-then-leads-clause-time
returns-then-leads-clause-time g c =
    let s = c.self.inside in
    c.front_time.ensures ∙ ap (option_map time_of) (late-first s.time s.present s.late s.slots c.self.invariant.0 (sym c.leads.ensures ∙ c.if-leads.true) ∙ ap (λ (l : List (Letter _)). slice_get l 0) c.self.view_is)

ready : (g : Over) (c : After-settle g) → let s = c.self.inside in IsReady c.settle.new.now c.settle.new.present s.late c.settle.new.slots (in_order (letters_kept s.present s.late s.slots))
ready g c = c.settle.ensures.ready c.self.inside.late c.self.invariant.0 (sym c.leads.ensures ∙ c.if-leads.false)

pub invariant_of-self : goal.invariant_of-self
invariant_of-self g c = ((ready g (goal.at.invariant_of-self g c).After-settle).kept, c.settle.ensures.clear)

pub returns-clause-time : goal.returns-clause-time
returns-clause-time g c =
    let s = c.self.inside in
    c.front_time-2.ensures
    ∙ ap (option_map time_of)
    (ready-first c.settle.new.now c.settle.new.present s.late c.settle.new.slots (in_order (letters_kept s.present s.late s.slots)) (ready g (goal.at.returns-clause-time g c).After-settle) ∙ ap (λ (l : List (Letter _)). slice_get l 0) c.self.view_is)

pub returns-clause-unchanged : goal.returns-clause-unchanged
returns-clause-unchanged g c = (ready g (goal.at.returns-clause-unchanged g c).After-settle).same ∙ c.self.view_is
