-- The laws of `Traffic`.
use Rattle.std.proofs.Common.{◌≡◌, ℕ, ◌+◌, ◌-◌, ◌^◌, ◌<◌, ◌≤◌, [], ◌∷◌, length, length-append, Bool, true, false, not, ◌&&◌, nat_eq, if◌then◌else◌, Option, Some, None, is_none, refl, sym, subst, ap, ◌∙◌, arith}
use Rattle.std.proofs.Math.Nat.{mod-lt}
use Rattle.vt_model.specs.inside.Handler.{IsSendable, AreWords}
use Rattle.vt_model.specs.inside.Within.{AreFew, IsStartWithin, IsEventWithin, none_few, one_few, both_few, either_few, few_within}
use Rattle.vt_stream.specs.promise.Drawn.{scaled}
use Rattle.vt_model.specs.promise.Counts.{one_more, one_fewer}
use Rattle.vt_model.specs.inside.Counts.{fewer-more}
use Rattle.vt_traffic.specs.declared.grid.Traffic.{Traffic}
use Rattle.vt_traffic.specs.declared.grid.TheConstants.{ENTERED}
use Rattle.vt_traffic.specs.declared.junction.Junction.{Junction}
use Rattle.vt_traffic.specs.declared.junction.Road.{Road}
use Rattle.vt_traffic.specs.declared.junction.Road.TheVariants.{Eastward, Southward}
use Rattle.vt_traffic.specs.declared.junction.JunctionEvent.{JunctionEvent}
use Rattle.vt_traffic.specs.declared.junction.JunctionEvent.TheVariants.{Arrive, Leave, Change}
use Rattle.vt_traffic.specs.inside.Junction.{is_same_road, joined, unjoined, can_enter, with_car, entered, leave, entry, gone, other_road, AreCounts}
use Rattle.vt_traffic.specs.inside.Traffic.{next_junction, departure, change_after, filled, after_event, own_sends, own_records, words_drawn, entry_bits, before_entry, before_leave, before_event, traffic_start, traffic_forward, traffic_reverse}

-- a car that enters asks for one send at most
entry_few : (lps lp now : ℕ) (j : Junction) → lp < lps → AreFew lps now 1 (entry lp j)
entry_few lps lp now j known =
    let ok : IsSendable lps now (leave lp) = record { known = known; some_priority = omega arith; later = omega arith } in
    either_few (can_enter j) (one_few ok (omega arith)) none_few

-- the lights change again at the same junction, and later
change_ok : (lps lp now delay : ℕ) → lp < lps → 0 < delay → IsSendable lps now (change_after lp delay)
change_ok lps lp now delay known some = record { known = known; some_priority = omega arith; later = omega (arith, some) }

pub start_within : (m : Traffic) (lps lp : ℕ) (words : ℕ → ℕ) → lp < lps → AreWords words → IsStartWithin lps (traffic_start m lp words)
start_within m lps lp words known w =
    let changes : AreFew lps 0 1 (change_after lp (1 + scaled (words 0) m.green) ∷ []) = one_few (change_ok lps lp 0 (1 + scaled (words 0) m.green) known (omega arith)) (omega arith) in
    few_within (both_few changes (entry_few lps lp 0 (filled m) known) (omega arith)) (omega arith) (omega arith)

-- roads lead to known junctions
next_known : (m : Traffic) (lps lp : ℕ) (r : Road) → 0 < lps → next_junction m lps lp r < lps
next_known m lps lp Eastward some = mod-lt (lp + 1) some
next_known m lps lp Southward some = mod-lt (lp + m.columns) some

departure_ok : (m : Traffic) (lps lp now : ℕ) (r : Road) (words : ℕ → ℕ) → 0 < lps → IsSendable lps now (departure m lps lp r words)
departure_ok m lps lp now r words some = record { known = next_known m lps lp _ some; some_priority = omega arith; later = omega (arith, m.some_travel) }

-- an event asks for one send of its own at most
own_few : (m : Traffic) (lps lp now : ℕ) (p : JunctionEvent) (k : Option Road) (words : ℕ → ℕ) → lp < lps → AreFew lps now 1 (own_sends m lps lp p k words)
own_few m lps lp now (Arrive r) k words known = none_few
own_few m lps lp now Leave None words known = none_few
own_few m lps lp now Leave (Some r) words known = one_few (departure_ok m lps lp now r words (omega arith)) (omega arith)
own_few m lps lp now Change k words known = one_few (change_ok lps lp now m.green known m.some_green) (omega arith)

few_words : (p : JunctionEvent) (k : Option Road) → words_drawn p k ≤ 2
few_words (Arrive r) k = omega arith
few_words Leave None = omega arith
few_words Leave (Some r) = omega arith
few_words Change k = omega arith

few_records : (p : JunctionEvent) (k : Option Road) (j : Junction) → length (own_records p k j) ≤ 1
few_records (Arrive r) k j = omega arith
few_records Leave None j = omega arith
few_records Leave (Some r) j = omega arith
few_records Change k j = omega arith

pub forward_within : (m : Traffic) (lps lp now : ℕ) (p : JunctionEvent) (j : Junction) (words : ℕ → ℕ) → lp < lps → AreWords words → IsEventWithin lps now (traffic_forward m lps lp p j words)
forward_within m lps lp now p j words known w =
    let sends = both_few (own_few m lps lp now p j.crossing words known) (entry_few lps lp now (after_event p j) known) (omega arith) in
    few_within sends (omega (arith, few_words p j.crossing)) (simp length-append (omega (arith, few_records p j.crossing (after_event p j))))

-- numbers stay below 2 ^ 64 where a car enters
entered_counts : (j : Junction) → AreCounts j → AreCounts (entered j)
entered_counts j fits =
    elim (can_enter j) as (λ b. AreCounts (if b then with_car j else j)) [ true ↦ (omega (arith, fits.0), fits.1, fits.2) | false ↦ fits ]

pub start_state : (m : Traffic) (lps lp : ℕ) (words : ℕ → ℕ) → AreCounts (traffic_start m lp words).state
start_state m lps lp words = entered_counts (filled m) (omega (arith, m.few_cars), omega (arith, m.few_cars), omega arith)

gone_counts : (k : Option Road) (j : Junction) → AreCounts j → AreCounts (gone k j)
gone_counts None j fits = fits
gone_counts (Some r) j fits = (fits.0, fits.1, omega arith)

event_counts : (p : JunctionEvent) (j : Junction) → AreCounts j → AreCounts (after_event p j)
event_counts (Arrive r) j fits =
    elim (is_same_road r j.green) as (λ b. AreCounts (if b then record j { at_green = one_more j.at_green } else record j { at_red = one_more j.at_red }))
    [ true ↦ (omega arith, fits.1, fits.2) | false ↦ (fits.0, omega arith, fits.2) ]
event_counts Leave j fits = gone_counts j.crossing j fits
event_counts Change j fits = (fits.1, fits.0, fits.2)

pub forward_state : (m : Traffic) (lps lp now : ℕ) (p : JunctionEvent) (j : Junction) (words : ℕ → ℕ) → AreCounts j → AreCounts (traffic_forward m lps lp p j words).state
forward_state m lps lp now p j words fits = entered_counts (after_event p j) (event_counts p j fits)

-- where a car can enter, one waits
some_wait : (n : ℕ) (b : Bool) → (not (nat_eq n 0) && b) ≡ true → n ≡ 0 → ⊥
some_wait n b e none = let never : false ≡ true = subst (λ (k : ℕ). (not (nat_eq k 0) && b) ≡ true) none e in cc

-- a car that entered is put back
entry_undone : (k : Option Road) (j : Junction) → AreCounts j → before_entry (entry_bits j) k (entered j) ≡ record j { crossing = k }
entry_undone k j fits =
    elim (can_enter j) as (λ b. can_enter j ≡ b → before_entry (if b then record { flags = 2 ^ ENTERED } else record { flags = 0 }) k (if b then with_car j else j) ≡ record j { crossing = k }) [
      | true ↦ λ e.
          let some = some_wait j.at_green (is_none j.crossing) e in
          let back : one_more (j.at_green - 1) ≡ j.at_green = omega (arith, fits.0) in
          λ i. record j { at_green = back i; crossing = k }
      | false ↦ λ e. refl
    ]
    refl

-- a car that joined a queue is taken out of it
join_undone : (r : Road) (j : Junction) → AreCounts j → unjoined r (record (joined r j) { crossing = j.crossing }) ≡ j
join_undone r j fits =
    elim (is_same_road r j.green) as (λ b. is_same_road r j.green ≡ b → unjoined r (record (if b then record j { at_green = one_more j.at_green } else record j { at_red = one_more j.at_red }) { crossing = j.crossing }) ≡ j) [
      | true ↦ λ e.
          ap (λ (b : Bool). (if b then record j { at_green = one_fewer (one_more j.at_green) } else record j { at_green = one_more j.at_green; at_red = one_fewer j.at_red })) e
          ∙ (λ i. record j { at_green = fewer-more j.at_green fits.0 i })
      | false ↦ λ e.
          ap (λ (b : Bool). (if b then record j { at_green = one_fewer j.at_green; at_red = one_more j.at_red } else record j { at_red = one_fewer (one_more j.at_red) })) e
          ∙ (λ i. record j { at_red = fewer-more j.at_red fits.1 i })
    ]
    refl

-- a car that left crosses again
leave_undone : (k : Option Road) (j : Junction) → AreCounts j → j.crossing ≡ k → before_leave k (record (gone k j) { crossing = k }) ≡ j
leave_undone None j fits was = λ i. record j { crossing = sym was i }
leave_undone (Some r) j fits was = λ i. record j { crossing = sym was i; passed = fewer-more j.passed fits.2 i }

-- the other road of the other is the same
other-other : (r : Road) → other_road (other_road r) ≡ r
other-other Eastward = refl
other-other Southward = refl

-- an event is undone, where the car that was crossing is put back
event_undone : (p : JunctionEvent) (j : Junction) → AreCounts j → before_event p j.crossing (record (after_event p j) { crossing = j.crossing }) ≡ j
event_undone (Arrive r) j fits = join_undone r j fits
event_undone Leave j fits = leave_undone j.crossing j fits refl
event_undone Change j fits = λ i. record j { green = other-other j.green i }

pub undoes : (m : Traffic) (lps lp now : ℕ) (p : JunctionEvent) (j : Junction) (words : ℕ → ℕ) → AreCounts j
    → traffic_reverse p (traffic_forward m lps lp p j words).state (traffic_forward m lps lp p j words).bits (traffic_forward m lps lp p j words).kept ≡ j
undoes m lps lp now p j words fits =
    ap (before_event p j.crossing) (entry_undone j.crossing (after_event p j) (event_counts p j fits)) ∙ event_undone p j fits
