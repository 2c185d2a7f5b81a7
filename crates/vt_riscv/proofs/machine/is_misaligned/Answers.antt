use Rattle.std.proofs.Common.{rules}
use Rattle.vt_riscv.proofs.AlignmentLemmas.{never_misaligned}
use Rattle.vt_riscv.proofs.machine.is_misaligned.Goals as goal

pub returns-then-address-eq0 : goal.returns-then-address-eq0
returns-then-address-eq0 c = never_misaligned c.args.address c.args.code.now.compressed (search rules)
