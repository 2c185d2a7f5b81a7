-- The laws of `Network`.
use Rattle.std.proofs.Common.{◌≡◌, ℕ, ◌+◌, ◌-◌, ◌%◌, ◌/◌, ◌^◌, ◌<◌, ◌≤◌, [], ◌∷◌, length, true, false, nat_eq, nat_lt, if◌then◌else◌, Option, Some, None, is_none, refl, ◌∙◌, arith}
use Rattle.std.proofs.Math.Nat.{mod-lt}
use Rattle.vt_model.specs.inside.Handler.{IsSendable, AreWords}
use Rattle.vt_model.specs.inside.Within.{AreFew, IsStartWithin, IsEventWithin, none_few, one_few, two_few, either_few, few_within}
use Rattle.vt_model.specs.declared.limits.TheConstants.{MAX_SENDS}
use Rattle.vt_stream.specs.promise.Drawn.{scaled}
use Rattle.vt_parts.specs.declared.ring.Ring.{Ring}
use Rattle.vt_parts.specs.inside.Ring.{is_empty, is_full, push_answer, first, popped}
use Rattle.vt_parts.specs.inside.RingLaws.{empty_is, pushed_is, popped_is, push_refused, unpushed_pushed, unpopped_popped}
use Rattle.vt_network.specs.declared.packet.Packet.{Packet}
use Rattle.vt_network.specs.declared.packet.TheConstants.{ROOM, BLANK}
use Rattle.vt_network.specs.declared.network.Network.{Network}
use Rattle.vt_network.specs.declared.network.Router.{Router}
use Rattle.vt_network.specs.declared.network.NetworkEvent.{NetworkEvent}
use Rattle.vt_network.specs.declared.network.NetworkEvent.TheVariants.{Generate, Arrive, Served}
use Rattle.vt_model.specs.promise.Counts.{one_more, one_fewer}
use Rattle.vt_model.specs.inside.Counts.{fewer-more}
use Rattle.vt_network.specs.inside.Network.{ahead, longest_link, hop, next_made, new_packet, served, forwarded, with_delivery, lost_with, taken, arrived, arrived_kept, arrived_sends, delivery, loss, arrived_records, sent_on, drawn_by, sends_by, records_by, network_start, network_forward, untaken, network_reverse, IsRouter}

served_ok : (m : Network) (lps lp now : ℕ) → lp < lps → IsSendable lps now (served m lp)
served_ok m lps lp now known = record { known = known; some_priority = omega arith; later = omega (arith, m.some_service) }

hop_known : (m : Network) (lps lp left : ℕ) → 0 < lps → hop m lps lp left < lps
hop_known m lps lp left some =
    elim (nat_lt (lps / 2) left) as (λ b. (if b then (lp + lps - longest_link m (lps - left)) % lps else (lp + longest_link m left) % lps) < lps)
    [ true ↦ mod-lt (lp + lps - longest_link m (lps - left)) some | false ↦ mod-lt (lp + longest_link m left) some ]

forwarded_ok : (m : Network) (lps lp now : ℕ) (p : Packet) → lp < lps → IsSendable lps now (forwarded m lps lp p)
forwarded_ok m lps lp now p known = record { known = hop_known m lps lp (ahead lps lp p.dest) (omega (arith, known)); some_priority = omega arith; later = omega (arith, m.some_link) }

pub start_within : (m : Network) (lps lp : ℕ) (words : ℕ → ℕ) → lp < lps → AreWords words → IsStartWithin lps (network_start m lp words)
start_within m lps lp words known w =
    let ok : IsSendable lps 0 (next_made lp (1 + scaled (words 0) m.gap)) = record { known = known; some_priority = omega arith; later = omega arith } in
    few_within (one_few ok (omega arith)) (omega arith) (omega arith)

arrived_few : (m : Network) (lps lp now : ℕ) (p : Packet) (s : Router) → lp < lps → AreFew lps now MAX_SENDS (arrived_sends m lp p s)
arrived_few m lps lp now p s known =
    let serves = one_few (served_ok m lps lp now known) (omega arith) in
    either_few (nat_eq p.dest lp) none_few (either_few (is_full s.queue) none_few (either_few (is_empty s.queue) serves none_few))

gone_few : (m : Network) (lps lp now : ℕ) (q : Ring Packet ROOM) (p : Option Packet) → lp < lps → AreFew lps now MAX_SENDS (sent_on m lps lp q p)
gone_few m lps lp now q None known = none_few
gone_few m lps lp now q (Some p) known =
    let goes = forwarded_ok m lps lp now p known in
    elim (is_empty q) as (λ b. AreFew lps now MAX_SENDS (forwarded m lps lp p ∷ (if b then [] else (served m lp ∷ []))))
    [ true ↦ one_few goes (omega arith) | false ↦ two_few goes (served_ok m lps lp now known) (omega arith) ]

sends_few : (m : Network) (lps lp now : ℕ) (e : NetworkEvent) (s : Router) (words : ℕ → ℕ) → lp < lps → AreFew lps now MAX_SENDS (sends_by m lps lp now e s words)
sends_few m lps lp now Generate s words known =
    let next : IsSendable lps now (next_made lp (1 + scaled (words 0) m.gap)) = record { known = known; some_priority = omega arith; later = omega arith } in
    let packet : IsSendable lps now (new_packet lp now (scaled (words 1) lps)) = record { known = known; some_priority = omega arith; later = omega arith } in
    two_few next packet (omega arith)
sends_few m lps lp now (Arrive p) s words known = arrived_few m lps lp now p s known
sends_few m lps lp now Served s words known = gone_few m lps lp now (popped s.queue) (first s.queue) known

few_words : (e : NetworkEvent) → drawn_by e ≤ 2
few_words Generate = omega arith
few_words (Arrive p) = omega arith
few_words Served = omega arith

arrived_records_few : (lp now : ℕ) (p : Packet) (s : Router) → length (arrived_records lp now p s) ≤ 1
arrived_records_few lp now p s =
    elim (nat_eq p.dest lp) as (λ b. length (if b then (delivery now p ∷ []) else (if is_full s.queue then (loss p ∷ []) else [])) ≤ 1) [
      | true ↦ omega arith
      | false ↦ elim (is_full s.queue) as (λ b. length (if b then (loss p ∷ []) else []) ≤ 1) [ true ↦ omega arith | false ↦ omega arith ]
    ]

few_records : (lp now : ℕ) (e : NetworkEvent) (s : Router) → length (records_by lp now e s) ≤ 1
few_records lp now Generate s = omega arith
few_records lp now (Arrive p) s = arrived_records_few lp now p s
few_records lp now Served s = omega arith

pub forward_within : (m : Network) (lps lp now : ℕ) (e : NetworkEvent) (s : Router) (words : ℕ → ℕ) → lp < lps → AreWords words → IsEventWithin lps now (network_forward m lps lp now e s words)
forward_within m lps lp now e s words known w = few_within (sends_few m lps lp now e s words known) (omega (arith, few_words e)) (omega (arith, few_records lp now e s))

pub start_state : (m : Network) (lps lp : ℕ) (words : ℕ → ℕ) → IsRouter (network_start m lp words).state
start_state m lps lp words =
    record { queue = empty_is BLANK (omega arith); made = omega arith; delivered = omega arith; dropped = omega arith }

lost_fits : (s : Router) → IsRouter s → lost_with s < 2 ^ 64
lost_fits s fits = elim (is_full s.queue) as (λ b. (if b then one_more s.dropped else s.dropped) < 2 ^ 64) [ true ↦ omega arith | false ↦ fits.dropped ]

arrived_router : (lp : ℕ) (p : Packet) (s : Router) → IsRouter s → IsRouter (arrived lp p s)
arrived_router lp p s fits =
    elim (nat_eq p.dest lp) as (λ b. IsRouter (if b then with_delivery s else taken s p)) [
      | true ↦ record { queue = fits.queue; made = fits.made; delivered = omega arith; dropped = fits.dropped }
      | false ↦ record { queue = pushed_is s.queue p fits.queue; made = fits.made; delivered = fits.delivered; dropped = lost_fits s fits }
    ]

pub forward_state : (m : Network) (lps lp now : ℕ) (e : NetworkEvent) (s : Router) (words : ℕ → ℕ) → IsRouter s → IsRouter (network_forward m lps lp now e s words).state
forward_state m lps lp now Generate s words fits = record { queue = fits.queue; made = omega arith; delivered = fits.delivered; dropped = fits.dropped }
forward_state m lps lp now (Arrive p) s words fits = arrived_router lp p s fits
forward_state m lps lp now Served s words fits = record { queue = popped_is s.queue fits.queue; made = fits.made; delivered = fits.delivered; dropped = fits.dropped }

-- a packet is no longer lost where the push was refused
lost_undone : (s : Router) → IsRouter s → (if is_none (push_answer s.queue) then one_fewer (lost_with s) else lost_with s) ≡ s.dropped
lost_undone s fits =
    (λ i. if push_refused s.queue fits.queue i then one_fewer (lost_with s) else lost_with s)
    ∙ elim (is_full s.queue) as (λ b. (if b then one_fewer (if b then one_more s.dropped else s.dropped) else (if b then one_more s.dropped else s.dropped)) ≡ s.dropped) [ true ↦ fewer-more s.dropped fits.dropped | false ↦ refl ]

arrived_undone : (lp : ℕ) (p : Packet) (s : Router) → IsRouter s → network_reverse lp (Arrive p) (arrived lp p s) (arrived_kept lp p s) ≡ s
arrived_undone lp p s fits =
    elim (nat_eq p.dest lp) as (λ b.
    (if b then record (if b then with_delivery s else taken s p) { delivered = one_fewer (if b then with_delivery s else taken s p).delivered }
    else untaken (if b then None else push_answer s.queue) (if b then with_delivery s else taken s p)) ≡ s) [
      | true ↦ λ i. record s { delivered = fewer-more s.delivered fits.delivered i }
      | false ↦ λ i. record s { queue = unpushed_pushed s.queue p fits.queue i; dropped = lost_undone s fits i }
    ]

pub undoes : (m : Network) (lps lp now : ℕ) (e : NetworkEvent) (s : Router) (words : ℕ → ℕ) → IsRouter s
    → network_reverse lp e (network_forward m lps lp now e s words).state (network_forward m lps lp now e s words).kept ≡ s
undoes m lps lp now Generate s words fits = λ i. record s { made = fewer-more s.made fits.made i }
undoes m lps lp now (Arrive p) s words fits = arrived_undone lp p s fits
undoes m lps lp now Served s words fits = λ i. record s { queue = unpopped_popped s.queue fits.queue i }
