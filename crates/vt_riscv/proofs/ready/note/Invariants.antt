use Rattle.std.proofs.Common.{◌-◌, length}
use Rattle.vt_riscv.proofs.ready.note.Given as goal

abbrev pub decreases-indices : goal.decreases-indices
decreases-indices l = l.end - length l.starts.items
