-- What the handlers of `Traffic` give.
use Rattle.std.specs.Prelude.{ℕ, ◌+◌, ◌%◌, ◌^◌, List, [], ◌∷◌, ◌++◌, Option, Some, None, if◌then◌else◌}
use Rattle.vt_model.specs.promise.Handler.{Handlers, StartResult, ForwardResult}
use Rattle.vt_model.specs.promise.Counts.{one_more, one_fewer}
use Rattle.vt_model.specs.promise.Flags.{has_flag}
use Rattle.vt_model.specs.promise.Sends.{SendRequest, RecordRequest}
use Rattle.vt_model.specs.declared.flags.Bits.{Bits}
use Rattle.vt_traffic.specs.declared.grid.Traffic.{Traffic}
use Rattle.vt_traffic.specs.declared.grid.TheConstants.{PERCENT, ENTERED}
use Rattle.vt_traffic.specs.declared.junction.TheConstants.{WAITING, PASSED}
use Rattle.vt_traffic.specs.declared.junction.Junction.{Junction}
use Rattle.vt_traffic.specs.declared.junction.Road.{Road}
use Rattle.vt_traffic.specs.declared.junction.Road.TheVariants.{Eastward, Southward}
use Rattle.vt_traffic.specs.declared.junction.JunctionEvent.{JunctionEvent}
use Rattle.vt_traffic.specs.declared.junction.JunctionEvent.TheVariants.{Arrive, Leave, Change}
use Rattle.vt_stream.specs.promise.Drawn.{scaled}
use Rattle.vt_parts.specs.inside.Drawing.{happens}
use Rattle.vt_traffic.specs.inside.Junction.{other_road, waiting, joined, unjoined, changed, can_enter, entered, entry, gone}

-- the road by which a car goes on: it turns where its word, in percent, is below the share of those that turn
abbrev pub onward : Traffic → Road → ℕ → Road
onward m r w = if happens w m.turning PERCENT then other_road r else r

-- the junction to which a road leads
abbrev pub next_junction : Traffic → ℕ → ℕ → Road → ℕ
next_junction m lps lp Eastward = (lp + 1) % lps
next_junction m lps lp Southward = (lp + m.columns) % lps

-- a car's passage by a road to the lights of the next junction, which takes as long as a word says
abbrev pub passage : Traffic → ℕ → ℕ → Road → ℕ → SendRequest JunctionEvent
passage m lps lp r w = record { dest = next_junction m lps lp r; delay = m.travel + scaled w m.travel; priority = 0; payload = Arrive r }

-- a car that came by this road goes on: its first word says by which road, the second how fast
abbrev pub departure : Traffic → ℕ → ℕ → Road → (ℕ → ℕ) → SendRequest JunctionEvent
departure m lps lp r words = passage m lps lp (onward m r (words 0)) (words 1)

-- the next change of the lights
abbrev pub change_after : ℕ → ℕ → SendRequest JunctionEvent
change_after lp delay = record { dest = lp; delay = delay; priority = 0; payload = Change }

-- a junction at the start
abbrev pub filled : Traffic → Junction
filled m = record { green = Eastward; at_green = m.cars; at_red = m.cars; crossing = None; passed = 0 }

-- at the start the first car at green enters, and the first change of the lights is drawn
abbrev pub traffic_start : Traffic → ℕ → (ℕ → ℕ) → StartResult Junction JunctionEvent
traffic_start m lp words = record {
  state = entered (filled m);
  drawn = 1;
  send_requests = change_after lp (1 + scaled (words 0) m.green) ∷ entry lp (filled m);
}

-- a junction after an event, before the next car enters
abbrev pub after_event : JunctionEvent → Junction → Junction
after_event (Arrive r) j = joined r j
after_event Leave j = gone j.crossing j
after_event Change j = changed j

-- how many words are drawn where a car leaves, if one does
abbrev pub words_drawn : JunctionEvent → Option Road → ℕ
words_drawn Leave (Some r) = 2
words_drawn _ _ = 0

-- what an event sends of itself: the car that leaves, and the next change
abbrev pub own_sends : Traffic → ℕ → ℕ → JunctionEvent → Option Road → (ℕ → ℕ) → List (SendRequest JunctionEvent)
own_sends m lps lp Leave (Some r) words = departure m lps lp r words ∷ []
own_sends m lps lp Leave None words = []
own_sends m lps lp (Arrive r) c words = []
own_sends m lps lp Change c words = change_after lp m.green ∷ []

-- the record of a car that has left
abbrev pub departed : Junction → RecordRequest
departed j = record { kind = PASSED; value = j.passed }

-- what an event records of itself
abbrev pub own_records : JunctionEvent → Option Road → Junction → List RecordRequest
own_records Leave (Some r) j = departed j ∷ []
own_records _ _ j = []

-- the flag says whether a car entered
abbrev pub entry_bits : Junction → Bits
entry_bits j = if can_enter j then record { flags = 2 ^ ENTERED } else record { flags = 0 }

-- an event, and then the first car at green enters, if it can
abbrev pub traffic_forward : Traffic → ℕ → ℕ → JunctionEvent → Junction → (ℕ → ℕ) → ForwardResult Junction JunctionEvent (Option Road)
traffic_forward m lps lp p j words = record {
  state = entered (after_event p j);
  kept = j.crossing;
  bits = entry_bits (after_event p j);
  drawn = words_drawn p j.crossing;
  send_requests = own_sends m lps lp p j.crossing words ++ entry lp (after_event p j);
  record_requests = own_records p j.crossing (after_event p j) ++ record { kind = WAITING; value = waiting (entered (after_event p j)) } ∷ [];
}

-- a junction before a car entered, if one did, with the car that was crossing then
abbrev pub before_entry : Bits → Option Road → Junction → Junction
before_entry bits kept j = record j {
  at_green = if has_flag bits ENTERED then one_more j.at_green else j.at_green;
  crossing = kept;
}

-- a junction before the car that was crossing left, if one was
abbrev pub before_leave : Option Road → Junction → Junction
before_leave None j = j
before_leave (Some r) j = record j { passed = one_fewer j.passed }

-- a junction before an event
abbrev pub before_event : JunctionEvent → Option Road → Junction → Junction
before_event (Arrive r) kept j = unjoined r j
before_event Leave kept j = before_leave kept j
before_event Change kept j = changed j

-- what was done last is undone first
abbrev pub traffic_reverse : JunctionEvent → Junction → Bits → Option Road → Junction
traffic_reverse p j bits kept = before_event p kept (before_entry bits kept j)

-- the four handlers
abbrev pub traffic_handlers : Traffic → Handlers Junction JunctionEvent (Option Road)
traffic_handlers m = record {
  start = λ lps lp words. traffic_start m lp words;
  forward = λ lps lp now p j words. traffic_forward m lps lp p j words;
  reverse = λ lp now p j bits kept. traffic_reverse p j bits kept;
  finish = λ lp j. j.passed;
}
