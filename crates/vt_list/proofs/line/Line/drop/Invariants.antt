use Rattle.std.specs.Prelude.{length}
use Rattle.vt_list.proofs.line.Line.drop.Given as goal

abbrev pub decreases-loop-parcel : goal.decreases-loop-parcel
decreases-loop-parcel g l = length l.self
