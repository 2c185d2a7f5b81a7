-- Where the packets of a run are, after some of its steps.
use Rattle.std.specs.Prelude.{ℕ, ◌+◌, List, [], ◌∷◌, ◌++◌, nat_eq, sum_by, if◌then◌else◌}
use Rattle.std.specs.List.{range_with_len}
use Rattle.vt_key.specs.promise.Times.{Time, time_before}
use Rattle.vt_model.specs.declared.rows.Record.{Record}
use Rattle.vt_model.specs.declared.sending.Sent.{Sent}
use Rattle.vt_model.specs.declared.settings.Config.{Config}
use Rattle.vt_model.specs.promise.Sends.{SendRequest, receive_time}
use Rattle.vt_model.specs.promise.Simulation.{Simulation, Triple, words_at, simulation_of, after}
use Rattle.vt_model.specs.promise.Sequential.{RunState, events_of, rows_after, records_of}
use Rattle.vt_model.specs.promise.Settings.{end_of}
use Rattle.vt_parts.specs.inside.Ring.{item_count}
use Rattle.vt_network.specs.declared.network.Network.{Network}
use Rattle.vt_network.specs.declared.network.Router.{Router}
use Rattle.vt_network.specs.declared.network.NetworkEvent.{NetworkEvent}
use Rattle.vt_network.specs.declared.network.NetworkEvent.TheVariants.{Generate, Arrive, Served}
use Rattle.vt_network.specs.declared.network.TheConstants.{DELIVERED, DROPPED}
use Rattle.vt_network.specs.inside.Network.{network_forward, network_handlers}

-- the packet that a host makes at an event, if it makes one
abbrev pub packets_made_at : NetworkEvent → ℕ
packets_made_at Generate = 1
packets_made_at (Arrive p) = 0
packets_made_at Served = 0

-- the packet that an event brings to its router, if it brings one
abbrev pub packets_brought : NetworkEvent → ℕ
packets_brought Generate = 0
packets_brought (Arrive p) = 1
packets_brought Served = 0

-- the packets that hosts have made
abbrev pub packets_made : RunState NetworkEvent → ℕ
packets_made x = sum_by (λ e. packets_made_at e.payload) x.executed

-- the packets that are under way: from a router to the next, or from a host to its own router
abbrev pub packets_under_way : RunState NetworkEvent → ℕ
packets_under_way x = sum_by (λ e. packets_brought e.payload) x.pending

-- how many of these records are of a kind
abbrev pub records_of_kind : ℕ → List Record → ℕ
records_of_kind kind records = sum_by (λ r. if nat_eq r.kind kind then 1 else 0) records

-- the packets of these requests that would come in at or past the end of the run
abbrev pub packets_sent_past : Time → Time → List (SendRequest NetworkEvent) → ℕ
packets_sent_past end now requests = sum_by (λ r. if time_before (receive_time now r) end then 0 else packets_brought r.payload) requests

module _ (m : Network) (c : Config) where
  -- what the model and the config mean
  abbrev pub network : Simulation Router NetworkEvent
  network = simulation_of (network_handlers m) c

  -- the records of the run so far
  abbrev pub records_so_far : RunState NetworkEvent → List Record
  records_so_far x = records_of (rows_after network [] x.executed)

  -- the packets that have reached their destinations: each has its record
  abbrev pub packets_delivered : RunState NetworkEvent → ℕ
  packets_delivered x = records_of_kind DELIVERED (records_so_far x)

  -- the packets that found a full buffer: each has its record
  abbrev pub packets_dropped : RunState NetworkEvent → ℕ
  packets_dropped x = records_of_kind DROPPED (records_so_far x)

  -- the packets in the buffers of the routers, also those that are being served
  abbrev pub packets_in_buffers : RunState NetworkEvent → ℕ
  packets_in_buffers x = sum_by (λ p. item_count (after network p (events_of p x.executed)).state.queue) (range_with_len 0 c.lps)

  -- where the receiver of an event stands, after those of these events that it receives
  abbrev pub receiver_after : List (Sent NetworkEvent) → Sent NetworkEvent → Triple Router
  receiver_after done e = after network e.dest (events_of e.dest done)

  -- the packets that an event sends past the end, after these events
  abbrev pub sent_past_by : List (Sent NetworkEvent) → Sent NetworkEvent → ℕ
  sent_past_by done e =
      let t = receiver_after done e in
      packets_sent_past (end_of c) e.key.time (network_forward m c.lps e.dest e.key.time e.payload t.state (words_at c.seed e.dest t.place)).send_requests

  -- the packets that these events send past the end, each after those before it
  abbrev pub sent_past_after : List (Sent NetworkEvent) → List (Sent NetworkEvent) → ℕ
  sent_past_after done [] = 0
  sent_past_after done (e ∷ es) = sent_past_by done e + sent_past_after (done ++ e ∷ []) es

  -- the packets that would come in at or past the end
  abbrev pub packets_past_end : RunState NetworkEvent → ℕ
  packets_past_end x = sent_past_after [] x.executed
