-- No car is made or lost by a handler.
use Rattle.std.proofs.Common.{◌≡◌, ℕ, ◌+◌, ◌*◌, ◌^◌, ◌<◌, [], ◌∷◌, ◌++◌, Bool, true, false, not, ◌&&◌, nat_eq, if◌then◌else◌, Option, Some, None, is_none, refl, ap, arith}
use Rattle.std.proofs.lemmas.Bool.{eqb-false}
use Rattle.std.proofs.lemmas.List.Sums.{sum_by-cons, sum_by-append}
use Rattle.vt_model.specs.promise.Sends.{SendRequest}
use Rattle.vt_model.specs.promise.Counts.{one_more}
use Rattle.vt_traffic.specs.declared.grid.Traffic.{Traffic}
use Rattle.vt_traffic.specs.declared.junction.Road.{Road}
use Rattle.vt_traffic.specs.declared.junction.Junction.{Junction}
use Rattle.vt_traffic.specs.declared.junction.JunctionEvent.{JunctionEvent}
use Rattle.vt_traffic.specs.declared.junction.JunctionEvent.TheVariants.{Arrive, Leave, Change}
use Rattle.vt_stream.specs.promise.Drawn.{scaled}
use Rattle.vt_traffic.specs.inside.Junction.{is_same_road, can_enter, with_car, entered, leave, entry, gone}
use Rattle.vt_traffic.specs.inside.Traffic.{change_after, after_event, own_sends, filled, traffic_start, traffic_forward}
use Rattle.vt_traffic.specs.inside.Cars.{cars_crossing, cars_at, cars_brought, cars_sent}

none-crossing : (k : Option Road) → is_none k ≡ true → cars_crossing k ≡ 0
none-crossing None e = refl
none-crossing (Some r) e = absurd (cc)

-- a car that enters is one of those at the junction
entered-cars : (j : Junction) → cars_at (entered j) ≡ cars_at j
entered-cars j = go (is_none j.crossing) refl (nat_eq j.at_green 0) refl where
  go : (free : Bool) → is_none j.crossing ≡ free → (empty : Bool) → nat_eq j.at_green 0 ≡ empty → cars_at (if not empty && free then with_car j else j) ≡ cars_at j
  go free f true e = refl
  go false f false e = refl
  go true f false e = omega (arith, none-crossing j.crossing f, eqb-false j.at_green 0 e)

-- a car that enters is not sent on
entry-cars : (lp : ℕ) (j : Junction) → cars_sent (entry lp j) ≡ 0
entry-cars lp j = elim (can_enter j) as (λ b. cars_sent (if b then (leave lp ∷ []) else []) ≡ 0) [ true ↦ refl | false ↦ refl ]

-- of itself an event takes in the car that it brings, or sends on the one that was crossing
own-cars : (m : Traffic) (lps lp : ℕ) (p : JunctionEvent) (j : Junction) (words : ℕ → ℕ) → cars_at j + 1 < 2 ^ 64
    → cars_at (after_event p j) + cars_sent (own_sends m lps lp p j.crossing words) ≡ cars_at j + cars_brought p
own-cars m lps lp (Arrive r) j words fits =
    elim (is_same_road r j.green) as (λ b. cars_at (if b then record j { at_green = one_more j.at_green } else record j { at_red = one_more j.at_red }) + 0 ≡ cars_at j + 1)
    [ true ↦ omega (arith, fits) | false ↦ omega (arith, fits) ]
own-cars m lps lp Leave j words fits = left j.crossing refl where
  left : (k : Option Road) → j.crossing ≡ k → cars_at (gone k j) + cars_sent (own_sends m lps lp Leave k words) ≡ cars_at j + 0
  left None was = refl
  left (Some r) was = omega (arith, ap cars_crossing was)
own-cars m lps lp Change j words fits = omega arith

-- the cars that an event leaves and sends on are those that were there and the one that it brought
pub forward-cars : (m : Traffic) (lps lp : ℕ) (p : JunctionEvent) (j : Junction) (words : ℕ → ℕ) → cars_at j + 1 < 2 ^ 64
    → cars_at (traffic_forward m lps lp p j words).state + cars_sent (traffic_forward m lps lp p j words).send_requests ≡ cars_at j + cars_brought p
forward-cars m lps lp p j words fits =
    let own = own-cars m lps lp p j words fits in
    let both : cars_sent (own_sends m lps lp p j.crossing words ++ entry lp (after_event p j)) ≡ cars_sent (own_sends m lps lp p j.crossing words) + cars_sent (entry lp (after_event p j)) = sum_by-append (λ (r : SendRequest JunctionEvent). cars_brought r.payload) (own_sends m lps lp p j.crossing words) (entry lp (after_event p j)) in
    omega (arith, own, both, entry-cars lp (after_event p j), entered-cars (after_event p j))

-- a junction begins with the cars on its two roads
pub start-cars : (m : Traffic) (lp : ℕ) (words : ℕ → ℕ) → cars_at (traffic_start m lp words).state ≡ 2 * m.cars
start-cars m lp words = omega (arith, entered-cars (filled m))

-- and sends none on
pub start-sent : (m : Traffic) (lp : ℕ) (words : ℕ → ℕ) → cars_sent (traffic_start m lp words).send_requests ≡ 0
start-sent m lp words =
    omega (arith, entry-cars lp (filled m), sum_by-cons (λ (r : SendRequest JunctionEvent). cars_brought r.payload) (change_after lp (1 + scaled (words 0) m.green)) (entry lp (filled m)))
