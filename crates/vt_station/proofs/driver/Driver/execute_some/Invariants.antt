use Rattle.vt_places.specs.inside.AtWork.{IsAtSameStation}
use Rattle.vt_station.proofs.driver.Driver.execute_some.Given as goal

abbrev pub invariant-loop-done : goal.invariant-loop-done
invariant-loop-done g l = IsAtSameStation l.initial.self l.self
