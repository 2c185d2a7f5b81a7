use Rattle.std.proofs.Common.{◌≡◌, find, reverse}
use Rattle.vt_list.proofs.list.List.find_back.Given as goal

abbrev pub invariant-loop-candidate : goal.invariant-loop-candidate
invariant-loop-candidate g l =
    (goal.iterator-loop-candidate g).can_next l.candidate-iterator ×
    (goal.iterator-loop-candidate g).is_finite l.candidate-iterator ×
    (find (g.P.Predicate.passes l.fn.test) (reverse l.fn.self) ≡ find (g.P.Predicate.passes l.fn.test) l.candidate-iterator)
