-- What one send and one record do to an out, and how the parts of a handler add up.
use Rattle.std.proofs.Common.{◌≡◌, ℕ, ◌-◌, ◌+◌, ◌<◌, ◌≤◌, List, [], ◌∷◌, ◌++◌, length, true, false, arith, append_assoc, append-nil, length-append, add-zero, add_assoc, sym}
use Rattle.std.specs.List.{enumerate_from}
use Rattle.std.proofs.lemmas.List.{map-append}
use Rattle.std.proofs.lemmas.List.Elements.{filter-append}
use Rattle.std.proofs.lemmas.Bool.{lt-ltb, le-ltb}
use Rattle.vt_key.specs.promise.Times.{at, ticks_of, priority_of, time_before}
use Rattle.vt_key.specs.promise.Keys.{Key}
use Rattle.vt_model.specs.declared.rows.Record.{Record}
use Rattle.vt_model.specs.declared.sending.Sent.{Sent}
use Rattle.vt_model.specs.inside.Out.{IsOutInside}
use Rattle.vt_model.specs.declared.limits.TheConstants.{MAX_SENDS}
use Rattle.vt_model.specs.promise.Sends.{SendRequest, RecordRequest, sent_events, requested_records}
use Rattle.vt_model.specs.inside.Sends.{Outgoing, with_requests}

pub enumerate_from-append : {A : Type 0} (n : ℕ) (xs ys : List A) → enumerate_from n (xs ++ ys) ≡ enumerate_from n xs ++ enumerate_from (n + length xs) ys
enumerate_from-append n [] ys = simp add-zero
enumerate_from-append n (x ∷ xs) ys =
    let e : n + length (x ∷ xs) ≡ (n + 1) + length xs = omega arith in
    rw (enumerate_from-append (n + 1) xs ys, e)

-- a send is counted, whether it is held or not
pub sent_inside : {end now first number held : ℕ} (holding : ℕ) → IsOutInside end now first number held → number < first + MAX_SENDS → holding ≤ held + 1 → IsOutInside end now first (number + 1) holding
sent_inside holding i room h = record {
  below_end = i.below_end;
  in_time = i.in_time;
  whole_end = i.whole_end;
  numbered = i.numbered;
  rises = omega (arith, i.rises);
  few = omega (arith, room);
  fits = omega (arith, i.fits, h);
}

module _ {P : Type 0} where
  pub told : (o : Outgoing P) (kind value : ℕ)
      → with_requests o [] (record { kind = kind; value = value } ∷ [])
      ≡ record o { records = o.records ++ record { time = ticks_of o.time; priority = priority_of o.time; lp = o.lp; kind = kind; value = value } ∷ [] }
  unfolding sent_events requested_records
  told o kind value = simp (add-zero, append-nil)

  -- a record, by what its calls gave
  pub told_record : (o now : Outgoing P) (kind value tick priority : ℕ) (rows : List Record) → o ≡ now → tick ≡ ticks_of o.time → priority ≡ priority_of o.time
      → rows ≡ o.records ++ record { time = tick; priority = priority; lp = o.lp; kind = kind; value = value } ∷ []
      → record o { records = rows } ≡ with_requests now [] (record { kind = kind; value = value } ∷ [])
  told_record o now kind value tick priority rows is e f h =
      let one = told o kind value in
      rw (h, e, f, ← is) (sym one)

  pub sent_one : (o : Outgoing P) (dest delay priority : ℕ) (payload : P) → priority < 256 → delay < ticks_of o.end - ticks_of o.time
      → with_requests o (record { dest = dest; delay = delay; priority = priority; payload = payload } ∷ []) []
      ≡ record o { number = o.number + 1; sends = o.sends ++ record { key = record { time = at (ticks_of o.time + delay) priority; source = o.lp; number = o.number }; dest = dest; payload = payload } ∷ [] }
  unfolding sent_events requested_records
  sent_one o dest delay priority payload small early =
      let e : time_before (at (ticks_of o.time + delay) priority) o.end ≡ true = lt-ltb _ _ (omega (arith, small, early)) in
      simp (e, append-nil)

  pub sent_none : (o : Outgoing P) (dest delay priority : ℕ) (payload : P) → priority_of o.end ≡ 0 → o.time < o.end → ticks_of o.end - ticks_of o.time ≤ delay
      → with_requests o (record { dest = dest; delay = delay; priority = priority; payload = payload } ∷ []) [] ≡ record o { number = o.number + 1 }
  unfolding sent_events requested_records
  sent_none o dest delay priority payload whole soon late =
      let low : o.end ≤ at (ticks_of o.time + delay) priority = omega (arith, whole, soon, late) in
      let e : time_before (at (ticks_of o.time + delay) priority) o.end ≡ false = le-ltb _ _ low in
      simp (e, append-nil)

  -- a send below the end, by what its calls gave
  pub sent_early : (o now : Outgoing P) (dest delay priority from until time : ℕ) (payload : P) (key : Key) (sends : List (Sent P)) → o ≡ now → priority < 256
      → until ≡ ticks_of o.end → from ≡ ticks_of o.time → delay < until - from → time ≡ at (ticks_of o.time + delay) priority
      → key ≡ record { time = time; source = o.lp; number = o.number } → sends ≡ o.sends ++ record { key = key; dest = dest; payload = payload } ∷ []
      → record o { number = o.number + 1; sends = sends } ≡ with_requests now (record { dest = dest; delay = delay; priority = priority; payload = payload } ∷ []) []
  sent_early o now dest delay priority from until time payload key sends is small e f early g h k =
      let one = sent_one o dest delay priority payload small (omega (arith, e, f, early)) in
      rw (k, h, g, ← is) (sym one)

  -- a send at or past the end
  pub sent_late : (o now : Outgoing P) (dest delay priority from until : ℕ) (payload : P) → o ≡ now → priority_of o.end ≡ 0 → o.time < o.end
      → until ≡ ticks_of o.end → from ≡ ticks_of o.time → until - from ≤ delay
      → record o { number = o.number + 1 } ≡ with_requests now (record { dest = dest; delay = delay; priority = priority; payload = payload } ∷ []) []
  sent_late o now dest delay priority from until payload is whole soon e f late =
      let none = sent_none o dest delay priority payload whole soon (omega (arith, e, f, late)) in
      rw (← is) (sym none)

  pub with_requests-append : (o : Outgoing P) (xs ys : List (SendRequest P)) (ms ns : List RecordRequest) → with_requests (with_requests o xs ms) ys ns ≡ with_requests o (xs ++ ys) (ms ++ ns)
  unfolding sent_events requested_records
  with_requests-append o xs ys ms ns = simp (enumerate_from-append {A = SendRequest P}, filter-append, map-append, append_assoc, length-append, add_assoc)
