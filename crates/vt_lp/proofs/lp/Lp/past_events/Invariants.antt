use Rattle.std.proofs.Common.{◌≡◌, ◌++◌, map}
use Rattle.vt_past.specs.declared.event.PastEvent.{PastEvent}
use Rattle.vt_lp.proofs.lp.Lp.past_events.Given as goal

abbrev pub invariant-loop-past_event : goal.invariant-loop-past_event
invariant-loop-past_event g l =
    (goal.iterator-loop-past_event g).can_next l.past_event-iterator ×
    (goal.iterator-loop-past_event g).is_finite l.past_event-iterator ×
    (l.events.items ++ map (λ (e : PastEvent _ _). e.letter.event) l.past_event-iterator ≡ map (λ (e : PastEvent _ _). e.letter.event) l.self.past)
