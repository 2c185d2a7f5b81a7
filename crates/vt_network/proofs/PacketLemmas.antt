-- No packet is made or lost by a handler, but where a host makes one or a record says so.
use Rattle.std.proofs.Common.{◌≡◌, ℕ, ◌+◌, ◌-◌, List, map, slice_get, slice_set, [], ◌∷◌, true, false, nat_eq, sum_by, if◌then◌else◌, Option, Some, None, refl, ap, ◌∙◌, arith}
use Rattle.std.specs.List.{enumerate_from}
use Rattle.std.proofs.lemmas.Bool.{eqb-false}
use Rattle.std.proofs.lemmas.List.Sums.{sum_by-cons}
use Rattle.vt_key.specs.promise.Times.{Time, ticks_of, priority_of}
use Rattle.vt_key.specs.promise.Keys.{Key}
use Rattle.vt_model.specs.declared.rows.Record.{Record}
use Rattle.vt_model.specs.promise.Sends.{SendRequest, RecordRequest, requested_records}
use Rattle.vt_model.specs.promise.Simulation.{rows_of}
use Rattle.vt_model.specs.promise.Sequential.{records_of}
use Rattle.vt_parts.specs.declared.ring.Ring.{Ring}
use Rattle.vt_parts.specs.inside.Ring.{index, is_empty, is_full, item_count, popped}
use Rattle.vt_parts.specs.inside.RingLaws.{some_within}
use Rattle.vt_network.specs.declared.packet.Packet.{Packet}
use Rattle.vt_network.specs.declared.packet.TheConstants.{ROOM}
use Rattle.vt_network.specs.declared.network.Network.{Network}
use Rattle.vt_network.specs.declared.network.Router.{Router}
use Rattle.vt_network.specs.declared.network.NetworkEvent.{NetworkEvent}
use Rattle.vt_network.specs.declared.network.NetworkEvent.TheVariants.{Generate, Arrive, Served}
use Rattle.vt_network.specs.declared.network.TheConstants.{DELIVERED, DROPPED}
use Rattle.vt_network.specs.inside.Network.{served, forwarded, with_delivery, taken, arrived, arrived_sends, arrived_records, delivery, loss, router_after, sent_on, gone_sends, sends_by, records_by, IsRouter}
use Rattle.vt_network.specs.inside.Packets.{packets_made_at, packets_brought, records_of_kind}

-- the packets that these requests send
abbrev pub packets_sent : List (SendRequest NetworkEvent) → ℕ
packets_sent requests = sum_by (λ r. packets_brought r.payload) requests

-- how many of these requests are for records of a kind
abbrev pub requests_of_kind : ℕ → List RecordRequest → ℕ
requests_of_kind kind requests = sum_by (λ r. if nat_eq r.kind kind then 1 else 0) requests

-- the packets of which an event says that they were delivered or dropped
abbrev pub packets_recorded : List RecordRequest → ℕ
packets_recorded requests = requests_of_kind DELIVERED requests + requests_of_kind DROPPED requests

-- a packet that comes in is recorded, or it waits
arrived-packets : (m : Network) (lp : ℕ) (now : Time) (p : Packet) (s : Router)
    → item_count (arrived lp p s).queue + packets_sent (arrived_sends m lp p s) + packets_recorded (arrived_records lp now p s) ≡ item_count s.queue + 1
arrived-packets m lp now p s =
    elim (nat_eq p.dest lp) as (λ b.
    item_count (if b then with_delivery s else taken s p).queue
    + packets_sent (if b then [] else (if is_full s.queue then [] else (if is_empty s.queue then (served m lp ∷ []) else [])))
    + packets_recorded (if b then (delivery now p ∷ []) else (if is_full s.queue then (loss p ∷ []) else []))
    ≡ item_count s.queue + 1) [
      | true ↦ omega arith
      | false ↦ elim (is_full s.queue) as (λ b.
          item_count (if b then s.queue else record s.queue { items = slice_set s.queue.items (index s.queue s.queue.len) p; len = s.queue.len + 1 })
          + packets_sent (if b then [] else (if is_empty s.queue then (served m lp ∷ []) else []))
          + packets_recorded (if b then (loss p ∷ []) else [])
          ≡ item_count s.queue + 1) [
            | true ↦ omega arith
            | false ↦ elim (is_empty s.queue) as (λ b. s.queue.len + 1 + packets_sent (if b then (served m lp ∷ []) else []) + 0 ≡ s.queue.len + 1) [ true ↦ omega arith | false ↦ omega arith ]
          ]
    ]

-- with the first packet one is sent
forwarded-packets : (m : Network) (lps lp : ℕ) (q : Ring Packet ROOM) (p : Packet) → packets_sent (sent_on m lps lp q (Some p)) ≡ 1
forwarded-packets m lps lp q p = elim (is_empty q) as (λ b. packets_sent (forwarded m lps lp p ∷ (if b then [] else (served m lp ∷ []))) ≡ 1) [ true ↦ refl | false ↦ refl ]

-- the first packet goes on, if there is one
gone-packets : (m : Network) (lps lp : ℕ) (s : Router) → IsRouter s
    → item_count (popped s.queue) + packets_sent (gone_sends m lps lp s) ≡ item_count s.queue
gone-packets m lps lp s fits =
    let q = s.queue in
    elim (is_empty q) as (λ b. is_empty q ≡ b → item_count (if b then q else record q { head = index q 1; len = q.len - 1 })
    + packets_sent (sent_on m lps lp (if b then q else record q { head = index q 1; len = q.len - 1 }) (if b then None else slice_get q.items q.head)) ≡ item_count q) [
      | true ↦ λ e. omega arith
      | false ↦ λ e.
          let after : Ring Packet ROOM = record q { head = index q 1; len = q.len - 1 } in
          let some = some_within q.items q.head (omega (arith, fits.queue.head, fits.queue.slots)) in
          ap (λ (o : Option Packet). q.len - 1 + packets_sent (sent_on m lps lp after o)) some.1
          ∙ omega (arith, forwarded-packets m lps lp after some.0, eqb-false q.len 0 e)
    ]
    refl

-- the records of an event are those that its handler asked for
counted-from : (kind lp n : ℕ) (now : Time) (key : Key) (rs : List RecordRequest)
    → records_of_kind kind (records_of (map (λ (q : ℕ × Record). record { key = key; index = q.0; rec = q.1 }) (enumerate_from n (requested_records lp now rs)))) ≡ requests_of_kind kind rs
unfolding requested_records
counted-from kind lp n now key [] = refl
counted-from kind lp n now key (r ∷ rs) =
    let of_kind : Record → ℕ = λ r. if nat_eq r.kind kind then 1 else 0 in
    let rest = records_of (map (λ (q : ℕ × Record). record { key = key; index = q.0; rec = q.1 }) (enumerate_from (n + 1) (requested_records lp now rs))) in
    let made : Record = record { time = ticks_of now; priority = priority_of now; lp = lp; kind = r.kind; value = r.value } in
    omega (arith, sum_by-cons of_kind made rest, sum_by-cons (λ (r : RecordRequest). if nat_eq r.kind kind then 1 else 0) r rs, counted-from kind lp (n + 1) now key rs)

pub counted-rows : (kind lp : ℕ) (now : Time) (key : Key) (rs : List RecordRequest) → records_of_kind kind (records_of (rows_of key (requested_records lp now rs))) ≡ requests_of_kind kind rs
unfolding rows_of
counted-rows kind lp now key rs = counted-from kind lp 0 now key rs

-- the packets that an event leaves, sends on and records are those that were there, the one that it brought and the one that a host made
pub forward-packets : (m : Network) (lps lp : ℕ) (now : Time) (e : NetworkEvent) (s : Router) (words : ℕ → ℕ) → IsRouter s
    → item_count (router_after lp e s).queue + packets_sent (sends_by m lps lp now e s words) + packets_recorded (records_by lp now e s)
    ≡ item_count s.queue + packets_brought e + packets_made_at e
forward-packets m lps lp now Generate s words fits = omega arith
forward-packets m lps lp now (Arrive p) s words fits = omega (arith, arrived-packets m lp now p s)
forward-packets m lps lp now Served s words fits = omega (arith, gone-packets m lps lp s fits)
