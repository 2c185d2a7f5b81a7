-- How the work of a worker ends.
use Rattle.std.specs.Prelude.{◌≡◌, ◌⊎◌, Bool, true, false, map, Result, Ok, Err, IfErr, MatchResult}
use Rattle.vt_key.specs.declared.fault.Fault.{Fault}
use Rattle.vt_steps.specs.inside.Marked.{answered, has_closed}
use Rattle.vt_places.specs.declared.view.View.{View}
use Rattle.vt_places.specs.inside.AtWork.{AtWork, IsAtSameStation}
use Rattle.vt_station.specs.declared.driver.Outcome.{Outcome}
use Rattle.vt_station.specs.declared.driver.Outcome.TheVariants.{Closed, Refused}
use Rattle.vt_station.specs.promise.Turns.{IsLasting}

-- what a driver makes of an answer: it was done, or refused with a fault that ends the work, or with one that is passed over
abbrev pub IsPassedOver : {X : Type 0} → Result X Fault → Result Bool Fault → Type 0
IsPassedOver answer result = MatchResult answer (λ _. result ≡ Ok true) (λ fault. (IsLasting fault × (result ≡ Err fault)) ⊎ ((IsLasting fault → ⊥) × (result ≡ Ok false)))

-- what a part of a turn leaves: the worker is at the same station as before, and a fault that is answered ends the work
abbrev pub IsPartOfTurn : {M S P K X : Type 0} → AtWork M S P K → AtWork M S P K → Result X Fault → Type 0
IsPartOfTurn old new result = IsAtSameStation old new × IfErr result IsLasting

-- what a place knows of how its worker's work ended: where it closed the book, that is one of its own steps
abbrev pub HasEnded : {P : Type 0} → View P → Outcome → Type 0
HasEnded view Closed = has_closed (map answered view.mine) ≡ true
HasEnded view (Refused fault) = IsLasting fault
HasEnded view _ = Unit {0}
