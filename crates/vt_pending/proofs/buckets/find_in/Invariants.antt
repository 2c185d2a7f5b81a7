use Rattle.std.proofs.Common.{◌≡◌}
use Rattle.vt_pending.specs.inside.Buckets.{list_at}
use Rattle.vt_pending.proofs.buckets.find_in.Given as goal

abbrev pub invariant-loop-list : goal.invariant-loop-list
invariant-loop-list g l =
    (goal.iterator-loop-list g).can_next l.list-iterator ×
    (goal.iterator-loop-list g).is_finite l.list-iterator ×
    (list_at l.fn.number l.fn.lists ≡ list_at l.fn.number l.list-iterator)
