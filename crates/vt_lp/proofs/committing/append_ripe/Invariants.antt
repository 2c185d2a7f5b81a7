use Rattle.std.proofs.Common.{◌≡◌, ◌++◌, List}
use Rattle.vt_model.specs.declared.rows.Row.{Row}
use Rattle.vt_lp.specs.inside.Ripe.{rows_of_ripe}
use Rattle.vt_lp.proofs.committing.append_ripe.Given as goal

abbrev pub invariant-loop-event : goal.invariant-loop-event
invariant-loop-event g l =
    (goal.iterator-loop-event g).can_next l.event-iterator ×
    (goal.iterator-loop-event g).is_finite l.event-iterator ×
    (l.rows.items ++ rows_of_ripe l.floor l.event-iterator ≡ l.fn.rows.items ++ rows_of_ripe l.floor l.fn.past) ×
    ((some : List Row) × (l.rows.items ≡ l.fn.rows.items ++ some))
