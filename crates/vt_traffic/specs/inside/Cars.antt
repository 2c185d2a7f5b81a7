-- How many cars there are.
use Rattle.std.specs.Prelude.{ℕ, ◌+◌, List, [], ◌∷◌, Option, Some, None, sum_by, if◌then◌else◌}
use Rattle.std.specs.List.{range_with_len}
use Rattle.vt_key.specs.promise.Times.{Time, time_before}
use Rattle.vt_model.specs.declared.sending.Sent.{Sent}
use Rattle.vt_model.specs.declared.settings.Config.{Config}
use Rattle.vt_model.specs.promise.Sends.{SendRequest, receive_time}
use Rattle.vt_model.specs.promise.Simulation.{Simulation, Triple, words_at, simulation_of, after}
use Rattle.vt_model.specs.promise.Sequential.{RunState, events_of}
use Rattle.vt_model.specs.promise.Settings.{end_of}
use Rattle.vt_traffic.specs.declared.grid.Traffic.{Traffic}
use Rattle.vt_traffic.specs.declared.junction.Road.{Road}
use Rattle.vt_traffic.specs.declared.junction.Junction.{Junction}
use Rattle.vt_traffic.specs.declared.junction.JunctionEvent.{JunctionEvent}
use Rattle.vt_traffic.specs.declared.junction.JunctionEvent.TheVariants.{Arrive, Leave, Change}
use Rattle.vt_traffic.specs.inside.Traffic.{traffic_forward, traffic_handlers}

-- the car that is crossing, if one is
abbrev pub cars_crossing : Option Road → ℕ
cars_crossing None = 0
cars_crossing (Some r) = 1

-- the cars that are at a junction: those that wait, and the one that is crossing
abbrev pub cars_at : Junction → ℕ
cars_at j = j.at_green + j.at_red + cars_crossing j.crossing

-- the car that an event brings, if it brings one
abbrev pub cars_brought : JunctionEvent → ℕ
cars_brought (Arrive r) = 1
cars_brought Leave = 0
cars_brought Change = 0

-- the cars that are sent on by these requests
abbrev pub cars_sent : List (SendRequest JunctionEvent) → ℕ
cars_sent requests = sum_by (λ r. cars_brought r.payload) requests

-- those of them that would arrive at or past the end of the run
abbrev pub cars_sent_past : Time → Time → List (SendRequest JunctionEvent) → ℕ
cars_sent_past end now requests = sum_by (λ r. if time_before (receive_time now r) end then 0 else cars_brought r.payload) requests

-- the cars that these events bring
abbrev pub cars_coming : List (Sent JunctionEvent) → ℕ
cars_coming es = sum_by (λ e. cars_brought e.payload) es

-- the cars that are on their way between junctions
abbrev pub cars_on_roads : RunState JunctionEvent → ℕ
cars_on_roads x = cars_coming x.pending

module _ (m : Traffic) (c : Config) where
  -- what the model and the config mean
  abbrev pub grid : Simulation Junction JunctionEvent
  grid = simulation_of (traffic_handlers m) c

  -- the cars that are at the junctions
  abbrev pub cars_on_grid : RunState JunctionEvent → ℕ
  cars_on_grid x = sum_by (λ p. cars_at (after grid p (events_of p x.executed)).state) (range_with_len 0 c.lps)

  -- the cars that a junction sends past the end by these events, from where it stood
  abbrev pub sent_past_from : ℕ → Triple Junction → List (Sent JunctionEvent) → ℕ
  sent_past_from p t [] = 0
  sent_past_from p t (e ∷ es) =
      cars_sent_past (end_of c) e.key.time (traffic_forward m c.lps p e.payload t.state (words_at c.seed p t.place)).send_requests
      + sent_past_from p (grid.fire p t e).triple es

  -- the cars that would arrive at or past the end
  abbrev pub cars_past_end : RunState JunctionEvent → ℕ
  cars_past_end x = sum_by (λ p. sent_past_from p (grid.start p).triple (events_of p x.executed)) (range_with_len 0 c.lps)
