-- What the handlers of `Network` give.
use Rattle.std.specs.Prelude.{ℕ, ◌+◌, ◌-◌, ◌%◌, ◌/◌, ◌^◌, ◌<◌, List, [], ◌∷◌, nat_eq, nat_lt, Option, Some, None, is_none, if◌then◌else◌}
use Rattle.vt_key.specs.promise.Times.{Time, ticks_of}
use Rattle.vt_model.specs.promise.Handler.{Handlers, StartResult, ForwardResult}
use Rattle.vt_model.specs.promise.Counts.{one_more, one_fewer}
use Rattle.vt_model.specs.promise.Sends.{SendRequest, RecordRequest}
use Rattle.vt_stream.specs.promise.Drawn.{scaled}
use Rattle.vt_parts.specs.declared.ring.Ring.{Ring}
use Rattle.vt_parts.specs.inside.Ring.{IsRing, empty_ring, is_empty, is_full, pushed, push_answer, unpushed, first, popped, unpopped}
use Rattle.vt_network.specs.declared.packet.Packet.{Packet}
use Rattle.vt_network.specs.declared.packet.TheConstants.{ROOM, BLANK}
use Rattle.vt_network.specs.declared.network.Network.{Network}
use Rattle.vt_network.specs.declared.network.Router.{Router}
use Rattle.vt_network.specs.declared.network.NetworkEvent.{NetworkEvent}
use Rattle.vt_network.specs.declared.network.NetworkEvent.TheVariants.{Generate, Arrive, Served}
use Rattle.vt_network.specs.declared.network.TheConstants.{DELIVERED, DROPPED}

-- how far ahead a router is
abbrev pub ahead : ℕ → ℕ → ℕ → ℕ
ahead lps lp dest = (dest % lps + lps - lp) % lps

-- the longest link that doesn't lead too far
abbrev pub longest_link : Network → ℕ → ℕ
longest_link m left = if nat_lt left m.columns then 1 else m.columns

-- the next router from this one, by how far ahead the destination is
abbrev pub hop : Network → ℕ → ℕ → ℕ → ℕ
hop m lps lp left = if nat_lt (lps / 2) left then (lp + lps - longest_link m (lps - left)) % lps else (lp + longest_link m left) % lps

-- the next router on the way to a destination
abbrev pub next_hop : Network → ℕ → ℕ → ℕ → ℕ
next_hop m lps lp dest = hop m lps lp (ahead lps lp dest)

-- the host makes its next packet after so many ticks
abbrev pub next_made : ℕ → ℕ → SendRequest NetworkEvent
next_made lp gap = record { dest = lp; delay = gap; priority = 0; payload = Generate }

-- a new packet comes in a tick later
abbrev pub new_packet : ℕ → Time → ℕ → SendRequest NetworkEvent
new_packet lp now dest = record { dest = lp; delay = 1; priority = 0; payload = Arrive (record { source = lp; dest = dest; born = ticks_of now }) }

-- the router has served its first packet
abbrev pub served : Network → ℕ → SendRequest NetworkEvent
served m lp = record { dest = lp; delay = m.service; priority = 0; payload = Served }

-- a packet goes on
abbrev pub forwarded : Network → ℕ → ℕ → Packet → SendRequest NetworkEvent
forwarded m lps lp p = record { dest = next_hop m lps lp p.dest; delay = m.link; priority = 0; payload = Arrive p }

-- the packet is at its destination
abbrev pub with_delivery : Router → Router
with_delivery s = record s { delivered = one_more s.delivered }

-- one packet more is lost where the buffer is full
abbrev pub lost_with : Router → ℕ
lost_with s = if is_full s.queue then one_more s.dropped else s.dropped

-- the packet waits, or it is lost
abbrev pub taken : Router → Packet → Router
taken s p = record s { queue = pushed s.queue p; dropped = lost_with s }

-- what a packet that comes in does to a router
abbrev pub arrived : ℕ → Packet → Router → Router
arrived lp p s = if nat_eq p.dest lp then with_delivery s else taken s p

-- what is kept then
abbrev pub arrived_kept : ℕ → Packet → Router → Option Packet
arrived_kept lp p s = if nat_eq p.dest lp then None else push_answer s.queue

-- what is sent then
abbrev pub arrived_sends : Network → ℕ → Packet → Router → List (SendRequest NetworkEvent)
arrived_sends m lp p s =
    if nat_eq p.dest lp then [] else (if is_full s.queue then [] else (if is_empty s.queue then (served m lp ∷ []) else []))

-- the record of a packet that has reached its destination: how long it was on its way
abbrev pub delivery : Time → Packet → RecordRequest
delivery now p = record { kind = DELIVERED; value = (ticks_of now + (2 ^ 64 - p.born)) % 2 ^ 64 }

-- the record of a packet that is lost: who had made it
abbrev pub loss : Packet → RecordRequest
loss p = record { kind = DROPPED; value = p.source }

-- what is recorded then
abbrev pub arrived_records : ℕ → Time → Packet → Router → List RecordRequest
arrived_records lp now p s =
    if nat_eq p.dest lp then (delivery now p ∷ []) else (if is_full s.queue then (loss p ∷ []) else [])

-- the first packet has gone on, if there was one
abbrev pub gone_on : Router → Router
gone_on s = record s { queue = popped s.queue }

-- the router goes on with the next packet, if there is one
abbrev pub goes_on : Network → ℕ → Ring Packet ROOM → List (SendRequest NetworkEvent)
goes_on m lp q = if is_empty q then [] else served m lp ∷ []

-- what is sent with the first packet, if there is one, where this buffer is left
abbrev pub sent_on : Network → ℕ → ℕ → Ring Packet ROOM → Option Packet → List (SendRequest NetworkEvent)
sent_on m lps lp q None = []
sent_on m lps lp q (Some p) = forwarded m lps lp p ∷ goes_on m lp q

-- what is sent when the first packet goes on
abbrev pub gone_sends : Network → ℕ → ℕ → Router → List (SendRequest NetworkEvent)
gone_sends m lps lp s = sent_on m lps lp (popped s.queue) (first s.queue)

-- a router after an event
abbrev pub router_after : ℕ → NetworkEvent → Router → Router
router_after lp Generate s = record s { made = one_more s.made }
router_after lp (Arrive p) s = arrived lp p s
router_after lp Served s = gone_on s

-- what is kept
abbrev pub kept_by : ℕ → NetworkEvent → Router → Option Packet
kept_by lp Generate s = None
kept_by lp (Arrive p) s = arrived_kept lp p s
kept_by lp Served s = first s.queue

-- how many words are drawn
abbrev pub drawn_by : NetworkEvent → ℕ
drawn_by Generate = 2
drawn_by (Arrive p) = 0
drawn_by Served = 0

-- the sends of a host that makes a packet
abbrev pub made_sends : ℕ → Time → ℕ → ℕ → List (SendRequest NetworkEvent)
made_sends lp now gap dest = next_made lp gap ∷ new_packet lp now dest ∷ []

-- what is sent
abbrev pub sends_by : Network → ℕ → ℕ → Time → NetworkEvent → Router → (ℕ → ℕ) → List (SendRequest NetworkEvent)
sends_by m lps lp now Generate s words = made_sends lp now (1 + scaled (words 0) m.gap) (scaled (words 1) lps)
sends_by m lps lp now (Arrive p) s words = arrived_sends m lp p s
sends_by m lps lp now Served s words = gone_sends m lps lp s

-- what is recorded
abbrev pub records_by : ℕ → Time → NetworkEvent → Router → List RecordRequest
records_by lp now Generate s = []
records_by lp now (Arrive p) s = arrived_records lp now p s
records_by lp now Served s = []

-- an empty router
abbrev pub empty : Router
empty = record { queue = empty_ring BLANK; made = 0; delivered = 0; dropped = 0 }

-- at the start a host draws when it makes its first packet
abbrev pub network_start : Network → ℕ → (ℕ → ℕ) → StartResult Router NetworkEvent
network_start m lp words = record { state = empty; drawn = 1; send_requests = next_made lp (1 + scaled (words 0) m.gap) ∷ [] }

-- an event
abbrev pub network_forward : Network → ℕ → ℕ → Time → NetworkEvent → Router → (ℕ → ℕ) → ForwardResult Router NetworkEvent (Option Packet)
network_forward m lps lp now e s words = record {
  state = router_after lp e s;
  kept = kept_by lp e s;
  bits = record { flags = 0 };
  drawn = drawn_by e;
  send_requests = sends_by m lps lp now e s words;
  record_requests = records_by lp now e s;
}

-- a router before a packet was taken or lost
abbrev pub untaken : Option Packet → Router → Router
untaken kept s = record s { queue = unpushed s.queue kept; dropped = if is_none kept then one_fewer s.dropped else s.dropped }

-- a router before an event
abbrev pub network_reverse : ℕ → NetworkEvent → Router → Option Packet → Router
network_reverse lp Generate s kept = record s { made = one_fewer s.made }
network_reverse lp (Arrive p) s kept = if nat_eq p.dest lp then record s { delivered = one_fewer s.delivered } else untaken kept s
network_reverse lp Served s kept = record s { queue = unpopped s.queue kept }

-- the four handlers
abbrev pub network_handlers : Network → Handlers Router NetworkEvent (Option Packet)
network_handlers m = record {
  start = λ lps lp words. network_start m lp words;
  forward = λ lps lp now e s words. network_forward m lps lp now e s words;
  reverse = λ lp now e s bits kept. network_reverse lp e s kept;
  finish = λ lp s. s.dropped;
}

-- a router's buffer is a ring, and its counts are 64-bit numbers
pub record IsRouter (s : Router) : Type 0 where
  pub queue : IsRing s.queue
  pub made : s.made < 2 ^ 64
  pub delivered : s.delivered < 2 ^ 64
  pub dropped : s.dropped < 2 ^ 64
