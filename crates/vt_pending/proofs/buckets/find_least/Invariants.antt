use Rattle.std.proofs.Common.{◌≡◌}
use Rattle.std.specs.Prelude.{None}
use Rattle.std.specs.Option.{option_copied}
use Rattle.vt_pending.specs.inside.Buckets.{least_from}
use Rattle.vt_pending.proofs.buckets.find_least.Given as goal

abbrev pub invariant-loop-list : goal.invariant-loop-list
invariant-loop-list g l =
    (goal.iterator-loop-list g).can_next l.list-iterator ×
    (goal.iterator-loop-list g).is_finite l.list-iterator ×
    (least_from (g.T.Predicate.passes l.fn.test) (option_copied l.found) l.list-iterator ≡ least_from (g.T.Predicate.passes l.fn.test) None l.fn.lists)
