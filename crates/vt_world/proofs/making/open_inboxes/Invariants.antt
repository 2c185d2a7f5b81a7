use Rattle.std.proofs.Common.{◌≡◌, [], replicate}
use Rattle.vt_world.proofs.making.open_inboxes.Given as goal

abbrev pub invariant-loop : goal.invariant-loop
invariant-loop g l = l.inboxes.items ≡ replicate l.counter []
