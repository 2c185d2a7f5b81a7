use Rattle.vt_places.specs.inside.AtWork.{IsAtSameStation}
use Rattle.vt_station.proofs.driver.Driver.run.Given as goal

abbrev pub invariant-loop-turn : goal.invariant-loop-turn
invariant-loop-turn g l = IsAtSameStation l.initial.self l.self
