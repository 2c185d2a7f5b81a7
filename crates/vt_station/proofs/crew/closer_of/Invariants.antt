use Rattle.vt_station.specs.inside.Crew.{NoneClosedBefore}
use Rattle.vt_station.proofs.crew.closer_of.Given as goal

abbrev pub invariant-loop-i : goal.invariant-loop-i
invariant-loop-i g l = NoneClosedBefore l.jobs l.i
