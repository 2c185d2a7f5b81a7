use Rattle.std.proofs.Common.{arith}
use Rattle.vt_book.proofs.FloorLemmas.{not-after-end}
use Rattle.vt_book.proofs.floors.least.Goals as goal

pub loop-time-init : goal.loop-time-init
loop-time-init c = let least = not-after-end c.args.end c.args.times.now in record { least = omega arith; ended = omega arith }
