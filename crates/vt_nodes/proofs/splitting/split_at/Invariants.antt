use Rattle.std.proofs.Common.{◌≡◌, take, drop}
use Rattle.vt_nodes.proofs.splitting.split_at.Given as goal

abbrev pub invariant-loop : goal.invariant-loop
invariant-loop g l = (l.position.0 ≡ take l.counter l.fn.chain) × (l.position.1 ≡ drop l.counter l.fn.chain) × (l.position.2 ≡ l.initial.position.2)
