use Rattle.std.proofs.Common.{◌≤◌, length}
use Rattle.vt_pool.proofs.kept.Kept.grow.Given as goal

abbrev pub invariant-loop : goal.invariant-loop
invariant-loop g l = record { more : l.fn.self ≤ length l.self-inside.nodes; counted : l.counter ≤ length l.self-inside.nodes }
