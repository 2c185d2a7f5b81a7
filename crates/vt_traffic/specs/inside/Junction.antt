-- What happens to a junction.
use Rattle.std.specs.Prelude.{ℕ, ◌+◌, ◌-◌, ◌%◌, ◌^◌, ◌<◌, List, [], ◌∷◌, Bool, true, false, not, ◌&&◌, nat_eq, Option, Some, None, is_none, if◌then◌else◌}
use Rattle.vt_traffic.specs.declared.junction.Road.{Road}
use Rattle.vt_traffic.specs.declared.junction.Road.TheVariants.{Eastward, Southward}
use Rattle.vt_traffic.specs.declared.junction.Junction.{Junction}
use Rattle.vt_traffic.specs.declared.junction.JunctionEvent.{JunctionEvent}
use Rattle.vt_traffic.specs.declared.junction.JunctionEvent.TheVariants.{Leave}
use Rattle.vt_traffic.specs.declared.junction.TheConstants.{CROSSING}
use Rattle.vt_model.specs.promise.Sends.{SendRequest}
use Rattle.vt_model.specs.promise.Counts.{one_more, one_fewer}

-- the road that crosses another
abbrev pub other_road : Road → Road
other_road Eastward = Southward
other_road Southward = Eastward

-- one road is the other
abbrev pub is_same_road : Road → Road → Bool
is_same_road Eastward Eastward = true
is_same_road Eastward Southward = false
is_same_road Southward Eastward = false
is_same_road Southward Southward = true

-- how many cars wait at the lights
abbrev pub waiting : Junction → ℕ
waiting j = (j.at_green + j.at_red) % 2 ^ 64

-- a car joins the queue on its road
abbrev pub joined : Road → Junction → Junction
joined r j =
    if is_same_road r j.green then record j { at_green = one_more j.at_green }
    else record j { at_red = one_more j.at_red }

-- the junction before that
abbrev pub unjoined : Road → Junction → Junction
unjoined r j =
    if is_same_road r j.green then record j { at_green = one_fewer j.at_green }
    else record j { at_red = one_fewer j.at_red }

-- the lights change
abbrev pub changed : Junction → Junction
changed j = record j { green = other_road j.green; at_green = j.at_red; at_red = j.at_green }

-- a car waits at green, and none is crossing
abbrev pub can_enter : Junction → Bool
can_enter j = not (nat_eq j.at_green 0) && is_none j.crossing

-- the first car at green enters
abbrev pub with_car : Junction → Junction
with_car j = record j { at_green = j.at_green - 1; crossing = Some j.green }

-- it enters if it can
abbrev pub entered : Junction → Junction
entered j = if can_enter j then with_car j else j

-- the end of a crossing that begins now
abbrev pub leave : ℕ → SendRequest JunctionEvent
leave lp = record { dest = lp; delay = CROSSING; priority = 0; payload = Leave }

-- what is sent where the first car at green enters
abbrev pub entry : ℕ → Junction → List (SendRequest JunctionEvent)
entry lp j = if can_enter j then (leave lp ∷ []) else []

-- the car that is crossing, if one is, leaves
abbrev pub gone : Option Road → Junction → Junction
gone None j = j
gone (Some r) j = record j { crossing = None; passed = one_more j.passed }

-- the numbers of a junction are below 2 ^ 64
abbrev pub AreCounts : Junction → Type 0
AreCounts j = (j.at_green < 2 ^ 64) × (j.at_red < 2 ^ 64) × (j.passed < 2 ^ 64)
