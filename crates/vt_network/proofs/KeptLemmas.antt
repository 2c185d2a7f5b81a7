-- The packets of a run are kept.
use Rattle.std.proofs.Common.{◌≡◌, ℕ, zero, suc, ◌+◌, inl, List, [], ◌∷◌, ◌++◌, false, not, filter, flat_map, nat_eq, sum_by, if◌then◌else◌, refl, ap, ◌∙◌, arith, append-nil, append_assoc}
use Rattle.std.specs.List.{range_with_len}
use Rattle.std.proofs.lemmas.List.{map-append}
use Rattle.std.proofs.lemmas.List.Sums.{sum_by-append, sum_by_push}
use Rattle.vt_key.specs.promise.Order.{key_same}
use Rattle.vt_key.specs.promise.Lists.{Among}
use Rattle.vt_model.specs.declared.rows.Row.{Row}
use Rattle.vt_model.specs.declared.rows.Record.{Record}
use Rattle.vt_model.specs.declared.sending.Sent.{Sent}
use Rattle.vt_model.specs.declared.settings.Config.{Config}
use Rattle.vt_model.specs.promise.Simulation.{Triple, words_at, start_of, fire_of, after}
use Rattle.vt_model.specs.promise.Sequential.{RunState, events_of, fired_after, opening, with_event, after_steps, rows_after, records_of}
use Rattle.vt_model.specs.promise.Histories.{IsLawful}
use Rattle.vt_model.specs.inside.Histories.{AreDistinct}
use Rattle.vt_model.specs.promise.Settings.{end_of}
use Rattle.vt_model.proofs.LawLemmas.{lawful_of, after_state}
use Rattle.vt_model.proofs.RunLemmas.{each_step, after-snoc, events_of-same, events_of-other, known_sent, lists_of, least-found, IsReached, reached, flat-next}
use Rattle.vt_parts.specs.inside.Ring.{item_count}
use Rattle.vt_model.proofs.DistinctLemmas.{sum_by-without, distinct_pending}
use Rattle.vt_model.proofs.SumLemmas.{sum-next, sum_one}
use Rattle.vt_model.proofs.SentLemmas.{sent_or_past}
use Rattle.vt_network.specs.declared.network.Network.{Network}
use Rattle.vt_network.specs.declared.network.Router.{Router}
use Rattle.vt_network.specs.declared.network.NetworkEvent.{NetworkEvent}
use Rattle.vt_network.specs.declared.network.TheConstants.{DELIVERED, DROPPED}
use Rattle.vt_network.specs.inside.Network.{network_start, network_forward, network_handlers, IsRouter}
use Rattle.vt_network.specs.inside.NetworkLaws.{start_within, forward_within, start_state, forward_state}
use Rattle.vt_network.specs.inside.Packets.{packets_made_at, packets_brought, packets_made, packets_under_way, records_of_kind, packets_sent_past, network, packets_delivered, packets_dropped, packets_in_buffers, sent_past_by, sent_past_after, packets_past_end}
use Rattle.vt_network.proofs.PacketLemmas.{forward-packets, counted-rows}

-- the packet of a sent event
abbrev packet_in : Sent NetworkEvent → ℕ
packet_in e = packets_brought e.payload

-- the packet that is made at an event
abbrev made_at : Sent NetworkEvent → ℕ
made_at e = packets_made_at e.payload

-- the packets of sent events
abbrev packets_coming : List (Sent NetworkEvent) → ℕ
packets_coming es = sum_by packet_in es

-- the records of a kind among those of rows
abbrev rows_of_kind : ℕ → List Row → ℕ
rows_of_kind kind rows = records_of_kind kind (records_of rows)

-- the records of a kind of rows and then of others
kinds-append : (kind : ℕ) (rows more : List Row) → rows_of_kind kind (rows ++ more) ≡ rows_of_kind kind rows + rows_of_kind kind more
kinds-append kind rows more =
    ap (records_of_kind kind) (map-append (λ (r : Row). r.rec) rows more)
    ∙ sum_by-append (λ (r : Record). if nat_eq r.kind kind then 1 else 0) (records_of rows) (records_of more)

module _ (m : Network) (c : Config) where
  -- the model's laws
  lawful : IsLawful (network m c)
  lawful = lawful_of (network_handlers m) c (start_within m) (forward_within m)

  -- a router's buffer is a ring, wherever it stands
  routers : (p : ℕ) (es : List (Sent NetworkEvent)) → IsRouter (after (network m c) p es).state
  routers p es = after_state (network_handlers m) c IsRouter (start_state m) (forward_state m) p es

  -- the records of one event more
  kinds-snoc : (kind : ℕ) (done xs : List (Sent NetworkEvent)) (e : Sent NetworkEvent)
      → rows_of_kind kind (rows_after (network m c) done (xs ++ e ∷ [])) ≡ rows_of_kind kind (rows_after (network m c) done xs) + rows_of_kind kind (fired_after (network m c) (done ++ xs) e).rows
  kinds-snoc kind done [] e =
      let alone = ap (rows_of_kind kind) (append-nil (fired_after (network m c) done e).rows) in
      let joined = ap (λ (es : List (Sent NetworkEvent)). rows_of_kind kind (fired_after (network m c) es e).rows) (append-nil done) in
      omega (arith, alone, joined)
  kinds-snoc kind done (x ∷ xs) e =
      let first = (fired_after (network m c) done x).rows in
      let rest = rows_after (network m c) (done ++ x ∷ []) xs in
      let more = rows_after (network m c) (done ++ x ∷ []) (xs ++ e ∷ []) in
      let joined = ap (λ (es : List (Sent NetworkEvent)). rows_of_kind kind (fired_after (network m c) es e).rows) (append_assoc done (x ∷ []) xs) in
      omega (arith, kinds-append kind first more, kinds-append kind first rest, kinds-snoc kind (done ++ x ∷ []) xs e, joined)

  -- what is sent past the end with one event more
  past-snoc : (done xs : List (Sent NetworkEvent)) (e : Sent NetworkEvent) → sent_past_after m c done (xs ++ e ∷ []) ≡ sent_past_after m c done xs + sent_past_by m c (done ++ xs) e
  past-snoc done [] e = let none = ap (λ (es : List (Sent NetworkEvent)). sent_past_by m c es e) (append-nil done) in omega (arith, none)
  past-snoc done (x ∷ xs) e =
      let joined = ap (λ (es : List (Sent NetworkEvent)). sent_past_by m c es e) (append_assoc done (x ∷ []) xs) in
      omega (arith, past-snoc (done ++ x ∷ []) xs e, joined)

  -- what an event sends past the end, from where its receiver stands
  abbrev past_by : ℕ → Triple Router → Sent NetworkEvent → ℕ
  past_by p t e = packets_sent_past (end_of c) e.key.time (network_forward m c.lps p e.key.time e.payload t.state (words_at c.seed p t.place)).send_requests

  -- the packets of one event at a router
  fire-packets : (p : ℕ) (t : Triple Router) (e : Sent NetworkEvent) → IsRouter t.state
      → item_count ((network m c).fire p t e).triple.state.queue + packets_coming ((network m c).fire p t e).sends + past_by p t e
      + rows_of_kind DELIVERED ((network m c).fire p t e).rows + rows_of_kind DROPPED ((network m c).fire p t e).rows
      ≡ item_count t.state.queue + packet_in e + made_at e
  unfolding fire_of
  fire-packets p t e fits =
      let words = words_at c.seed p t.place in
      let given = network_forward m c.lps p e.key.time e.payload t.state words in
      omega (
        arith,
        forward-packets m c.lps p e.key.time e.payload t.state words fits,
        sent_or_past packets_brought (end_of c) p e.key.time t.number given.send_requests,
        counted-rows DELIVERED p e.key.time e.key given.record_requests,
        counted-rows DROPPED p e.key.time e.key given.record_requests,
      )

  -- the packets in a router's buffer after these events
  abbrev in_buffer : List (Sent NetworkEvent) → ℕ → ℕ
  in_buffer executed p = item_count (after (network m c) p (events_of p executed)).state.queue

  -- what an event sends, sends past the end and records
  abbrev gone_by : List (Sent NetworkEvent) → Sent NetworkEvent → ℕ
  gone_by xs e =
      packets_coming (fired_after (network m c) xs e).sends + sent_past_by m c xs e
      + rows_of_kind DELIVERED (fired_after (network m c) xs e).rows + rows_of_kind DROPPED (fired_after (network m c) xs e).rows

  -- an event leaves other routers alone
  others-packets : (xs : List (Sent NetworkEvent)) (e : Sent NetworkEvent) (p : ℕ) → nat_eq e.dest p ≡ false → in_buffer (xs ++ e ∷ []) p ≡ in_buffer xs p
  others-packets xs e p other = ap (λ (es : List (Sent NetworkEvent)). item_count (after (network m c) p es).state.queue) (events_of-other p xs e other)

  -- at its router what goes and what stays is what was there, what it brings and what is made
  own-packets : (xs : List (Sent NetworkEvent)) (e : Sent NetworkEvent) → in_buffer (xs ++ e ∷ []) e.dest + gone_by xs e ≡ in_buffer xs e.dest + (packet_in e + made_at e)
  unfolding fired_after
  own-packets xs e =
      let p = e.dest in
      let es = events_of p xs in
      let more = ap (λ (l : List (Sent NetworkEvent)). item_count (after (network m c) p l).state.queue) (events_of-same p xs e refl) in
      let state = ap (λ (t : Triple Router). item_count t.state.queue) (after-snoc (network m c) lawful p ((network m c).start p).triple es e) in
      omega (arith, more, state, fire-packets p (after (network m c) p es) e (routers p es))

  -- every packet that was made is somewhere
  abbrev AreKept : RunState NetworkEvent → Type 0
  AreKept x = packets_made x ≡ packets_delivered m c x + packets_dropped m c x + packets_in_buffers m c x + packets_under_way x + packets_past_end m c x

  kept_with : (x : RunState NetworkEvent) (e : Sent NetworkEvent) → IsReached (network m c) lawful x → AreDistinct x.pending → Among e x.pending → AreKept x → AreKept (with_event (network m c) x e)
  kept_with x e r distinct here kept =
      let is = (known_sent (network m c) lawful (lists_of (network m c) lawful x.executed) e (r.made e (inl here))).0 in
      let fresh = (fired_after (network m c) x.executed e).sends in
      let all = sum_one (in_buffer (x.executed ++ e ∷ [])) (in_buffer x.executed) c.lps e.dest (gone_by x.executed e) (packet_in e + made_at e) is (others-packets x.executed e) (own-packets x.executed e) in
      let taken = sum_by-without packet_in x.pending e distinct here in
      let put = sum_by-append packet_in (filter (λ d. not (key_same d.key e.key)) x.pending) fresh in
      let made = sum_by_push made_at x.executed e in
      let delivered = kinds-snoc DELIVERED [] x.executed e in
      let dropped = kinds-snoc DROPPED [] x.executed e in
      omega (arith, all, taken, put, made, delivered, dropped, past-snoc [] x.executed e, kept)

  -- at the start there is none
  begins : (n : ℕ) → sum_by (in_buffer []) (range_with_len 0 n) + packets_coming (flat_map (λ p. ((network m c).start p).sends) (range_with_len 0 n)) ≡ 0
  unfolding start_of
  begins zero = refl
  begins (suc n) =
      let words = words_at c.seed n 0 in
      let none = sent_or_past packets_brought (end_of c) n 0 0 (network_start m n words).send_requests in
      let sends = flat-next (λ (p : ℕ). ((network m c).start p).sends) n in
      let more = sum_by-append packet_in (flat_map (λ p. ((network m c).start p).sends) (range_with_len 0 n)) ((network m c).start n).sends in
      omega (arith, begins n, sum-next (in_buffer []) n, ap packets_coming sends, more, none)

  kept_opening : AreKept (opening (network m c))
  kept_opening = omega (arith, begins c.lps)

  -- wherever the run is
  pub packets_kept : (n : ℕ) → AreKept (after_steps (network m c) n)
  packets_kept = each_step (network m c) AreKept kept_opening (λ n e found kept. kept_with (after_steps (network m c) n) e (reached (network m c) lawful n) (distinct_pending (network m c) lawful n) (least-found (after_steps (network m c) n).pending e found).0 kept)
