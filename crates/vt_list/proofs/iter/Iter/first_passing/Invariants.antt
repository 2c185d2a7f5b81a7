use Rattle.std.proofs.Common.{◌≡◌, find}
use Rattle.vt_list.proofs.iter.Iter.first_passing.Given as goal

abbrev pub invariant-loop-item : goal.invariant-loop-item
invariant-loop-item g l =
    (goal.iterator-loop-item g).can_next l.item-iterator ×
    (goal.iterator-loop-item g).is_finite l.item-iterator ×
    (find (g.P.Predicate.passes l.fn.test) l.fn.self ≡ find (g.P.Predicate.passes l.fn.test) l.item-iterator)
