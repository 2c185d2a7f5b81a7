use Rattle.std.specs.Prelude.{length}
use Rattle.vt_list.proofs.lines.Lines.drop.Given as goal

abbrev pub decreases-loop-line : goal.decreases-loop-line
decreases-loop-line g l = length l.self
