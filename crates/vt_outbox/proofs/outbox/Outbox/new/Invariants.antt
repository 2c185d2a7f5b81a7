use Rattle.std.proofs.Common.{◌≡◌, [], replicate}
use Rattle.vt_outbox.proofs.outbox.Outbox.new.Given as goal

abbrev pub ghost-picked : goal.ghost-picked
ghost-picked g a = []

abbrev pub invariant-loop : goal.invariant-loop
invariant-loop g l = l.lists.items ≡ replicate l.counter []
