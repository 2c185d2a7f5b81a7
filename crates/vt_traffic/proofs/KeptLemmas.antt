-- The number of cars is kept by a run.
use Rattle.std.proofs.Common.{◌≡◌, ℕ, zero, suc, ◌+◌, ◌*◌, ◌^◌, ◌<◌, ◌≤◌, inl, List, [], ◌∷◌, ◌++◌, false, not, filter, flat_map, nat_eq, sum_by, refl, sym, ap, arith}
use Rattle.std.specs.List.{range_with_len}
use Rattle.std.proofs.Math.Nat.{mul-le-mul}
use Rattle.std.proofs.lemmas.List.Sums.{sum_by-append}
use Rattle.vt_key.specs.promise.Order.{key_same}
use Rattle.vt_key.specs.promise.Lists.{Among}
use Rattle.vt_model.specs.declared.sending.Sent.{Sent}
use Rattle.vt_model.specs.declared.settings.Config.{Config}
use Rattle.vt_model.specs.promise.Simulation.{Triple, words_at, start_of, fire_of, after}
use Rattle.vt_model.specs.promise.Sequential.{RunState, events_of, fired_after, opening, with_event, after_steps}
use Rattle.vt_model.specs.promise.Histories.{IsLawful}
use Rattle.vt_model.specs.inside.Histories.{AreDistinct}
use Rattle.vt_model.proofs.LawLemmas.{lawful_of}
use Rattle.vt_model.proofs.RunLemmas.{each_step, after_from, after-snoc, events_of-same, events_of-other, known_sent, lists_of, least-found, IsReached, reached, flat-next}
use Rattle.vt_model.specs.promise.Settings.{end_of}
use Rattle.vt_traffic.specs.declared.grid.Traffic.{Traffic}
use Rattle.vt_traffic.specs.declared.junction.Junction.{Junction}
use Rattle.vt_traffic.specs.declared.junction.JunctionEvent.{JunctionEvent}
use Rattle.vt_traffic.specs.inside.Traffic.{traffic_start, traffic_forward, traffic_handlers}
use Rattle.vt_traffic.specs.inside.TrafficLaws.{start_within, forward_within}
use Rattle.vt_traffic.specs.inside.Cars.{cars_at, cars_brought, cars_sent_past, cars_coming, grid, sent_past_from, cars_on_grid, cars_on_roads, cars_past_end}
use Rattle.vt_traffic.proofs.CarLemmas.{start-cars, start-sent, forward-cars}
use Rattle.vt_model.proofs.DistinctLemmas.{sum_by-without, distinct_pending}
use Rattle.vt_model.proofs.SumLemmas.{sum_by-both, sum-next, sum_one, part-le}
use Rattle.vt_model.proofs.SentLemmas.{sent_or_past}

-- the car of a sent event
abbrev car_in : Sent JunctionEvent → ℕ
car_in e = cars_brought e.payload

module _ (m : Traffic) (c : Config) where
  -- the model's laws
  lawful : IsLawful (grid m c)
  lawful = lawful_of (traffic_handlers m) c (start_within m) (forward_within m)

  -- what an event sends past the end
  abbrev past_by : ℕ → Triple Junction → Sent JunctionEvent → ℕ
  past_by p t e = cars_sent_past (end_of c) e.key.time (traffic_forward m c.lps p e.payload t.state (words_at c.seed p t.place)).send_requests

  -- the cars of one event at a junction
  fire-cars : (p : ℕ) (t : Triple Junction) (e : Sent JunctionEvent) → cars_at t.state + 1 < 2 ^ 64
      → cars_at ((grid m c).fire p t e).triple.state + cars_coming ((grid m c).fire p t e).sends + past_by p t e ≡ cars_at t.state + car_in e
  unfolding fire_of
  fire-cars p t e fits =
      let words = words_at c.seed p t.place in
      let asked = (traffic_forward m c.lps p e.payload t.state words).send_requests in
      omega (arith, forward-cars m c.lps p e.payload t.state words fits, sent_or_past cars_brought (end_of c) p e.key.time t.number asked)

  -- what a junction's events send past the end, with one more
  past-snoc : (p : ℕ) (t : Triple Junction) (es : List (Sent JunctionEvent)) (e : Sent JunctionEvent) → sent_past_from m c p t (es ++ e ∷ []) ≡ sent_past_from m c p t es + past_by p (after_from (grid m c) p t es) e
  past-snoc p t [] e = omega arith
  past-snoc p t (x ∷ xs) e = omega (arith, past-snoc p ((grid m c).fire p t x).triple xs e)

  -- the cars of a junction after its events: those that are there, and those that it sent past the end
  abbrev cars_by : ℕ → List (Sent JunctionEvent) → ℕ
  cars_by p es = cars_at (after (grid m c) p es).state + sent_past_from m c p ((grid m c).start p).triple es

  abbrev cars_of : List (Sent JunctionEvent) → ℕ → ℕ
  cars_of executed p = cars_by p (events_of p executed)

  -- an event leaves other junctions alone
  others-cars : (xs : List (Sent JunctionEvent)) (e : Sent JunctionEvent) (p : ℕ) → nat_eq e.dest p ≡ false → cars_of (xs ++ e ∷ []) p ≡ cars_of xs p
  others-cars xs e p other = ap (cars_by p) (events_of-other p xs e other)

  -- at its junction it takes in the car that it brings, or sends one on
  own-cars : (xs : List (Sent JunctionEvent)) (e : Sent JunctionEvent) → cars_at (after (grid m c) e.dest (events_of e.dest xs)).state + 1 < 2 ^ 64
      → cars_of (xs ++ e ∷ []) e.dest + cars_coming (fired_after (grid m c) xs e).sends ≡ cars_of xs e.dest + car_in e
  unfolding fired_after
  own-cars xs e fits =
      let p = e.dest in
      let es = events_of p xs in
      let start = ((grid m c).start p).triple in
      let there = after (grid m c) p es in
      let more = ap (cars_by p) (events_of-same p xs e refl) in
      let state = ap (λ (t : Triple Junction). cars_at t.state) (after-snoc (grid m c) lawful p start es e) in
      omega (arith, more, state, past-snoc p start es e, fire-cars p there e fits)

  -- in all
  cars_in_all : (x : RunState JunctionEvent) → cars_on_grid m c x + cars_past_end m c x ≡ sum_by (cars_of x.executed) (range_with_len 0 c.lps)
  cars_in_all x =
      sym (sum_by-both (λ (p : ℕ). cars_at (after (grid m c) p (events_of p x.executed)).state) (λ (p : ℕ). sent_past_from m c p ((grid m c).start p).triple (events_of p x.executed)) (range_with_len 0 c.lps))

  -- the number of cars
  abbrev IsKept : RunState JunctionEvent → Type 0
  IsKept x = cars_on_grid m c x + cars_on_roads x + cars_past_end m c x ≡ 2 * m.cars * c.lps

  kept_with : (x : RunState JunctionEvent) (e : Sent JunctionEvent) → IsReached (grid m c) lawful x → AreDistinct x.pending → Among e x.pending → IsKept x → IsKept (with_event (grid m c) x e)
  kept_with x e r distinct here kept =
      let is = (known_sent (grid m c) lawful (lists_of (grid m c) lawful x.executed) e (r.made e (inl here))).0 in
      let fresh = (fired_after (grid m c) x.executed e).sends in
      let there : ℕ → ℕ = λ p. cars_at (after (grid m c) p (events_of p x.executed)).state in
      let few : there e.dest + 1 < 2 ^ 64 =
      let most : 2 * m.cars * c.lps ≤ 2000 * 65536 = mul-le-mul {n₁ = 2 * m.cars} {m₁ = c.lps} {n₂ = 2000} {m₂ = 65536} (omega (arith, m.few_cars)) c.few_processes in
      omega (arith, part-le there c.lps e.dest is, kept, most) in
      let own = own-cars x.executed e few in
      let all : sum_by (cars_of (x.executed ++ e ∷ [])) (range_with_len 0 c.lps) + cars_coming fresh ≡ sum_by (cars_of x.executed) (range_with_len 0 c.lps) + car_in e = sum_one (cars_of (x.executed ++ e ∷ [])) (cars_of x.executed) c.lps e.dest (cars_coming fresh) (car_in e) is (others-cars x.executed e) own in
      let taken = sum_by-without car_in x.pending e distinct here in
      let put = sum_by-append car_in (filter (λ d. not (key_same d.key e.key)) x.pending) fresh in
      omega (arith, all, taken, put, kept, cars_in_all x, cars_in_all (with_event (grid m c) x e))

  -- at the start
  begins : (n : ℕ) → sum_by (cars_of []) (range_with_len 0 n) + cars_coming (flat_map (λ p. ((grid m c).start p).sends) (range_with_len 0 n)) ≡ 2 * m.cars * n
  unfolding start_of
  begins zero = omega arith
  begins (suc n) =
      let words = words_at c.seed n 0 in
      let none = sent_or_past cars_brought (end_of c) n 0 0 (traffic_start m n words).send_requests in
      let sends = flat-next (λ (p : ℕ). ((grid m c).start p).sends) n in
      let more = sum_by-append car_in (flat_map (λ p. ((grid m c).start p).sends) (range_with_len 0 n)) ((grid m c).start n).sends in
      let product : 2 * m.cars * suc n ≡ 2 * m.cars * n + 2 * m.cars = grind arith in
      omega (arith, begins n, sum-next (cars_of []) n, ap cars_coming sends, more, none, start-cars m n words, start-sent m n words, product)

  kept_opening : IsKept (opening (grid m c))
  kept_opening = omega (arith, cars_in_all (opening (grid m c)), begins c.lps)

  -- wherever the run is
  pub cars_kept : (n : ℕ) → IsKept (after_steps (grid m c) n)
  cars_kept = each_step (grid m c) IsKept kept_opening (λ n e found kept. kept_with (after_steps (grid m c) n) e (reached (grid m c) lawful n) (distinct_pending (grid m c) lawful n) (least-found (after_steps (grid m c) n).pending e found).0 kept)
