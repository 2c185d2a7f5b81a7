use Rattle.std.proofs.Common.{map, take}
use Rattle.vt_kernel.specs.inside.Choosing.{ready_of}
use Rattle.vt_kernel.proofs.ChoosingLemmas.{IsLeastSoFar}
use Rattle.vt_kernel.proofs.choosing.first_ready.Given as goal

-- of the processes so far none is ready, or the one at the index is the least
abbrev pub invariant-loop-i : goal.invariant-loop-i
invariant-loop-i g l = IsLeastSoFar (map ready_of (take l.i l.processes)) l.least l.index
