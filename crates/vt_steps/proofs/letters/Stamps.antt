-- Copies of a stamp in a reached world. Two facts are kept by every step, as sums: the plus copies are as many as the live
-- ones and the minus copies together, and there is at most one plus copy; and only made stamps have copies.
use Rattle.std.proofs.Common.{◌≡◌, inl, inr, ℕ, ◌+◌, ◌≤◌, ◌<◌, true, List, [], ◌∷◌, map, length, sym, ◌∙◌, ap, arith}
use Rattle.std.specs.List.{sum_by, range_with_len}
use Rattle.std.proofs.lemmas.Bool.{cases_lt}
use Rattle.std.proofs.lemmas.Bool.Decides.{eqb_tells}
use Rattle.std.proofs.lemmas.List.Sums.{sum_by-cons}
use Rattle.vt_key.specs.promise.Order.{stamp_same}
use Rattle.vt_key.proofs.OrderLemmas.{stamp_same-true}
use Rattle.vt_key.specs.declared.letter.Event.{Event}
use Rattle.vt_key.specs.declared.letter.Sign.TheVariants.{Plus, Minus}
use Rattle.vt_key.specs.declared.order.Stamp.{Stamp}
use Rattle.vt_model.specs.promise.Simulation.{Simulation}
use Rattle.vt_steps.specs.declared.step.Step.{Step}
use Rattle.vt_steps.specs.inside.Claims.{AreCopiesRight}
use Rattle.vt_steps.specs.inside.Copies.{as_count, of_stamp, is_copy, is_event_of, sent_by, letter_weight, plus, minus, live_count, serial_at, IsMade}
use Rattle.vt_steps.specs.promise.Letters.{signed, stamped}
use Rattle.vt_steps.specs.promise.Next.{reached}
use Rattle.vt_steps.specs.promise.World.{Entry, World, opening_world, start_events, start_sends}
use Rattle.vt_steps.proofs.lists.Sums.{sum_by-map, sum_by-same, sum_by-single, sum_by-zero, only-at}
use Rattle.vt_steps.proofs.letters.Stamped.{counted}
use Rattle.vt_steps.proofs.steps.Changes.{run_keeps}
use Rattle.vt_steps.proofs.steps.Shape.{opening-shape}
use Rattle.vt_steps.proofs.letters.Balance.{CopyChange, moves, made_live, made_dead, annihilates, SerialsRise, change-copies}
use Rattle.vt_steps.proofs.letters.OpeningSums.{opening-letters, opening-entries, opening-serial}

-- what is kept, at one stamp
pub record StampFacts {S P : Type 0} (sim : Simulation S P) (serial : ℕ) (stamp : Stamp) (world : World P) : Type 0 where
  pub balance : plus world stamp ≡ live_count sim serial world stamp + minus world stamp
  pub at_most_one : plus world stamp ≤ 1
  pub made : 0 < plus world stamp → IsMade serial world stamp
  pub serials : (w : ℕ) → w < length world.parts → serial ≤ serial_at world w

-- ---- serials

module _ {P : Type 0} where
  -- they never fall
  pub serials-never_fall : (old new : World P) (w taken : ℕ) → SerialsRise old new w taken → (v : ℕ) → serial_at old v ≤ serial_at new v
  serials-never_fall old new w taken r v =
      elim (eqb_tells v w) [
        | inl e ↦ (let a = r.own in let b = ap (serial_at old) e.1 in let c = ap (serial_at new) e.1 in omega arith)
        | inr e ↦ (let a = r.others v e.1 in omega arith)
      ]

  -- what is made stays made
  still-made : (serial : ℕ) (stamp : Stamp) (old new : World P) (w taken : ℕ) → SerialsRise old new w taken → IsMade serial old stamp → IsMade serial new stamp
  still-made serial stamp old new w taken r made = (made.0, let a = serials-never_fall old new w taken r stamp.worker in let b = made.1 in omega arith)

  -- none is below the opening one
  still-serials : (serial : ℕ) (old new : World P) (w taken : ℕ) → SerialsRise old new w taken →
      ((v : ℕ) → v < length old.parts → serial ≤ serial_at old v) → (v : ℕ) → v < length new.parts → serial ≤ serial_at new v
  still-serials serial old new w taken r were v within =
      let size = r.size in
      let a = serials-never_fall old new w taken r v in
      let b = were v (omega arith) in
      omega arith

-- ---- counts of letters by their sign

module _ {P : Type 0} (stamp : Stamp) where
  -- messages are plus copies
  plus-messages : (xs : List (Event P)) → sum_by (letter_weight (is_copy Plus stamp)) (map (signed Plus) xs) ≡ sum_by (of_stamp stamp) xs
  plus-messages xs = sum_by-map (letter_weight (is_copy Plus stamp)) (signed Plus) xs

  -- and no minus copies
  minus-messages : (xs : List (Event P)) → sum_by (letter_weight (is_copy Minus stamp)) (map (signed Plus) xs) ≡ 0
  minus-messages xs = sum_by-map (letter_weight (is_copy Minus stamp)) (signed Plus) xs ∙ sum_by-zero xs

  -- anti-messages are minus copies
  minus-anti_messages : (xs : List (Event P)) → sum_by (letter_weight (is_copy Minus stamp)) (map (signed Minus) xs) ≡ sum_by (of_stamp stamp) xs
  minus-anti_messages xs = sum_by-map (letter_weight (is_copy Minus stamp)) (signed Minus) xs

  -- and no plus copies
  plus-anti_messages : (xs : List (Event P)) → sum_by (letter_weight (is_copy Plus stamp)) (map (signed Minus) xs) ≡ 0
  plus-anti_messages xs = sum_by-map (letter_weight (is_copy Plus stamp)) (signed Minus) xs ∙ sum_by-zero xs

  -- events of one stamp count alike
  count-alike : (s : Stamp) (event : Event P) → stamp_same event.rank.stamp s ≡ true → of_stamp stamp event ≡ as_count (stamp_same s stamp)
  count-alike s event is = ap (λ (a : Stamp). as_count (stamp_same a stamp)) (stamp_same-true event.rank.stamp s is)

-- ---- each change keeps it

module _ {S P : Type 0} (sim : Simulation S P) (serial : ℕ) (stamp : Stamp) where
  -- where the plus copies, and the live and minus ones together, are as many as before
  facts-moved : (old new : World P) (w taken : ℕ) → SerialsRise old new w taken →
      plus new stamp ≡ plus old stamp → live_count sim serial new stamp + minus new stamp ≡ live_count sim serial old stamp + minus old stamp →
      StampFacts sim serial stamp old → StampFacts sim serial stamp new
  facts-moved old new w taken r same_plus same_rest facts =
      let balance = facts.balance in
      let one = facts.at_most_one in
      record {
        balance = omega arith;
        at_most_one = omega arith;
        made = λ h. still-made serial stamp old new w taken r (facts.made (omega arith));
        serials = still-serials serial old new w taken r facts.serials;
      }

  -- case by case
  facts-kept : (old new : World P) → CopyChange old new → StampFacts sim serial stamp old → StampFacts sim serial stamp new
  -- letters move: no count changes
  facts-kept old new (moves w b r) facts =
      let plus_is = b.letters (is_copy Plus stamp) in
      let minus_is = b.letters (is_copy Minus stamp) in
      let past_is = b.entries (is_event_of stamp) in
      let live_is = b.entries (sent_by stamp) in
      facts-moved old new w 0 r (omega arith) (omega arith) facts
  -- an event is executed: what it sends has new stamps, with one plus copy each, and live
  facts-kept old new (made_live w from event unsent within from_is b r) facts =
      let sent = stamped w from unsent in
      let entry : Entry P = record { event = event; sent = sent } in
      let plus_is = b.letters (is_copy Plus stamp) in
      let minus_is = b.letters (is_copy Minus stamp) in
      let past_is = b.entries (is_event_of stamp) in
      let live_is = b.entries (sent_by stamp) in
      let a = sum_by-single (letter_weight (is_copy Plus stamp)) (signed Plus event) in
      let c = sum_by-single (letter_weight (is_copy Minus stamp)) (signed Plus event) in
      let d = plus-messages stamp sent in
      let e = minus-messages stamp sent in
      let f = sum_by-single (is_event_of stamp) entry in
      let g = sum_by-single (sent_by stamp) entry in
      let balance = facts.balance in
      let one = facts.at_most_one in
      let new_ones = counted stamp w from unsent in
      let at_most = new_ones.at_most in
      let plus_rises : plus new stamp ≡ plus old stamp + sum_by (of_stamp stamp) sent = omega arith in
      elim (cases_lt 0 (sum_by (of_stamp stamp) sent)) [
        | inl some ↦
            (let where_is = new_ones.within some in
            let at : serial_at old stamp.worker ≡ from = ap (serial_at old) (sym where_is.0) ∙ from_is in
            let at_new : serial_at new stamp.worker ≡ serial_at old w + length unsent = ap (serial_at new) (sym where_is.0) ∙ r.own in
            let low = facts.serials w within in
            let unknown : plus old stamp ≡ 0 = elim (cases_lt 0 (plus old stamp)) [ inl h ↦ absurd (let k = (facts.made h).1 in let l = where_is.1 in omega arith) | inr h ↦ omega arith ] in
            record {
              balance = omega arith;
              at_most_one = omega arith;
              made = λ h. (omega arith, omega arith);
              serials = still-serials serial old new w (length unsent) r facts.serials;
            })
        | inr none ↦ facts-moved old new w (length unsent) r (omega arith) (omega arith) facts
      ]
  -- an event is undone: what it sent is live no more, and has minus copies in place of that
  facts-kept old new (made_dead w last b r) facts =
      let plus_is = b.letters (is_copy Plus stamp) in
      let minus_is = b.letters (is_copy Minus stamp) in
      let past_is = b.entries (is_event_of stamp) in
      let live_is = b.entries (sent_by stamp) in
      let a = sum_by-cons (letter_weight (is_copy Plus stamp)) (signed Plus last.event) (map (signed Minus) last.sent) in
      let c = sum_by-cons (letter_weight (is_copy Minus stamp)) (signed Plus last.event) (map (signed Minus) last.sent) in
      let d = plus-anti_messages stamp last.sent in
      let e = minus-anti_messages stamp last.sent in
      let f = sum_by-single (is_event_of stamp) last in
      let g = sum_by-single (sent_by stamp) last in
      facts-moved old new w 0 r (omega arith) (omega arith) facts
  -- a message and its anti-message annihilate each other: one plus and one minus copy of one stamp
  facts-kept old new (annihilates w s m p m_is p_is b r) facts =
      let plus_is = b.letters (is_copy Plus stamp) in
      let minus_is = b.letters (is_copy Minus stamp) in
      let past_is = b.entries (is_event_of stamp) in
      let live_is = b.entries (sent_by stamp) in
      let a = sum_by-cons (letter_weight (is_copy Plus stamp)) (signed Minus m) (signed Plus p ∷ []) in
      let c = sum_by-cons (letter_weight (is_copy Minus stamp)) (signed Minus m) (signed Plus p ∷ []) in
      let d = sum_by-single (letter_weight (is_copy Plus stamp)) (signed Plus p) in
      let e = sum_by-single (letter_weight (is_copy Minus stamp)) (signed Plus p) in
      let f = count-alike stamp s m m_is in
      let g = count-alike stamp s p p_is in
      let balance = facts.balance in
      let one = facts.at_most_one in
      record {
        balance = omega arith;
        at_most_one = omega arith;
        made = λ h. still-made serial stamp old new w 0 r (facts.made (omega arith));
        serials = still-serials serial old new w 0 r facts.serials;
      }

  -- ---- every reached world

  -- the opening world: one plus copy of each stamp of the starts, and live
  opening-facts : StampFacts sim serial stamp (opening_world sim serial)
  opening-facts =
      let events = λ (w : ℕ). sum_by (of_stamp stamp) (start_events sim serial w) in
      let a = opening-letters sim serial (is_copy Plus stamp) in
      let b = opening-letters sim serial (is_copy Minus stamp) in
      let c = opening-entries sim serial (is_event_of stamp) in
      let d = opening-entries sim serial (sent_by stamp) in
      let e = sum_by-same (λ w. sum_by (letter_weight (is_copy Plus stamp)) (map (signed Plus) (start_events sim serial w))) events (λ w. plus-messages stamp (start_events sim serial w)) (range_with_len 0 sim.workers) in
      let f = sum_by-same (λ w. sum_by (letter_weight (is_copy Minus stamp)) (map (signed Plus) (start_events sim serial w))) (λ w. 0) (λ w. minus-messages stamp (start_events sim serial w)) (range_with_len 0 sim.workers) in
      let g = sum_by-zero (range_with_len 0 sim.workers) in
      let only = only-at events stamp.worker 0 sim.workers (λ w. (counted stamp w serial (start_sends sim w)).at_most) (λ w h. ((counted stamp w serial (start_sends sim w)).within h).0) in
      let most = only.at_most in
      record {
        balance = omega arith;
        at_most_one = omega arith;
        made = λ h.
            (let k = only.within (omega arith) in
            let l = (counted stamp stamp.worker serial (start_sends sim stamp.worker)).within k.2 in
            let m = opening-serial sim serial stamp.worker (let below = k.1 in omega arith) in
            (l.1, omega arith));
        serials = λ w h.
            (let size = (opening-shape sim serial).parts in
            let m = opening-serial sim serial w (omega arith) in
            omega arith);
      }

  -- each reached world
  pub stamp-facts : (steps : List Step) → StampFacts sim serial stamp (reached sim serial steps)
  stamp-facts steps = run_keeps sim (StampFacts sim serial stamp) (λ old new change. facts-kept old new (change-copies sim old new change)) steps (opening_world sim serial) opening-facts

  -- what that says of copies
  copies-from_facts : (world : World P) → StampFacts sim serial stamp world → AreCopiesRight sim serial world stamp
  copies-from_facts world facts =
      let balance = facts.balance in
      let one = facts.at_most_one in
      record {
        live = λ is_live. (omega arith, omega arith);
        dead = λ not_live is_made.
            (let none : live_count sim serial world stamp ≡ 0 = elim (cases_lt 0 (live_count sim serial world stamp)) [ inl h ↦ absurd (not_live h) | inr h ↦ omega arith ] in
            elim (cases_lt 0 (plus world stamp)) [ inl h ↦ inl (omega arith, omega arith) | inr h ↦ inr (omega arith, omega arith) ]);
        unknown = λ not_live not_made.
            (let none : live_count sim serial world stamp ≡ 0 = elim (cases_lt 0 (live_count sim serial world stamp)) [ inl h ↦ absurd (not_live h) | inr h ↦ omega arith ] in
            let zero_plus : plus world stamp ≡ 0 = elim (cases_lt 0 (plus world stamp)) [ inl h ↦ absurd (not_made (facts.made h)) | inr h ↦ omega arith ] in
            (zero_plus, omega arith));
      }

  -- the copies of each reached world are right
  pub copies_are_right : (steps : List Step) → AreCopiesRight sim serial (reached sim serial steps) stamp
  copies_are_right steps = copies-from_facts (reached sim serial steps) (stamp-facts steps)
