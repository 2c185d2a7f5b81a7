-- What a sheet holds after a write, after an entry is marked as gone, and after the last slot is dropped.
use Rattle.std.proofs.Common.{Result, Ok, Err, IfOk, ◌≡◌, ℕ, zero, suc, ◌+◌, ◌-◌, ◌≤◌, ◌<◌, ◌^◌, Fits, w8, w32, w64, Bool, true, false, not, ◌||◌, ltb, min, List, [], ◌∷◌, ◌++◌, map, length, take, drop, get_or, Option, Some, None, slice_get, slice_set, option_map, refl, sym, ◌∙◌, ap, subst, arith, append_assoc, length-append, length-drop, length-take}
use Rattle.std.specs.List.{enumerate_from, filter, flat_map, list_any, sum_by, AllByRecursion}
use Rattle.vt_model.proofs.SendLemmas.{enumerate_from-append}
use Rattle.std.proofs.lemmas.List.Concat.{flat_map-append}
use Rattle.std.proofs.lemmas.List.Elements.{filter-append}
use Rattle.std.proofs.lemmas.List.{append-nil, length_push, length-map, map-append, map-set, take-append-drop, take_all, take_more, length-take-le}
use Rattle.std.proofs.lemmas.List.Sums.{sum_by_push}
use Rattle.std.specs.Ordering.{is_ge, is_lt, nat_cmp}
use Rattle.std.proofs.lemmas.Option.{slice_get-get_or, slice_get-map}
use Rattle.std.proofs.lemmas.Bool.Decides.{nat_tests}
use Rattle.vt_key.specs.promise.Times.{Time}
use Rattle.vt_key.proofs.ListLemmas.{every-append, every-both, every-filter, every-get, every-left, every-map, every-put, every-weaker}
use Rattle.vt_key.specs.promise.Keys.{Key}
use Rattle.vt_key.specs.declared.order.Stamp.{Stamp}
use Rattle.vt_model.specs.promise.Simulation.{rows_of}
use Rattle.vt_model.specs.declared.limits.TheConstants.{MAX_RECORDS, MAX_SENDS}
use Rattle.vt_model.specs.declared.rows.Record.{Record}
use Rattle.vt_model.specs.declared.rows.Row.{Row}
use Rattle.vt_model.specs.declared.sending.Sent.{Sent}
use Rattle.vt_logs.specs.declared.slot.Slot.{Slot}
use Rattle.vt_logs.specs.inside.Events.{Logged, time_of, is_below, is_stamped, event_rows, rows_below}
use Rattle.vt_logs.specs.inside.Sheets.{Noted, put_if, present_from, NonePasses, PassesAlone, AreLaid, range_of, noted, noted_event, live_in, events_in, has_slot_stamp, slot_rows, is_at, is_elsewhere, stays, nodes_at, IsDated, IsSheet}
use Rattle.vt_logs.proofs.PresentLemmas.{any-append, filter-none, filter-all, alone-sum, present-push, present-pop, present-alone, present-none, present-removed, present-high}
use Rattle.vt_logs.proofs.LaidLemmas.{laid-push, laid-pop, laid-fits, laid-last, laid-set, range-new, noted-grow}

module _ {P K : Type 0} where
  -- what a slot holds whose entry isn't gone
  abbrev pub note : List (Sent P) → List Record → Slot P K → Noted P K
  note sends records s = noted_event s.process s.before s.entry (range_of s.first_send s.send_count sends) (range_of s.first_record s.record_count records)

  module _ (sends : List (Sent P)) (records : List Record) where
    pub noted-live : (s : Slot P K) → s.is_gone ≡ false → noted sends records s ≡ Some (note sends records s)
    noted-live s e = rw e

    pub noted-gone : (s : Slot P K) → s.is_gone ≡ true → noted sends records s ≡ None
    noted-gone s e = rw e

    get-live : (slots : List (Slot P K)) (k : ℕ) (s : Slot P K) → slice_get slots k ≡ Some s → s.is_gone ≡ false → slice_get (map (noted sends records) slots) k ≡ Some (Some (note sends records s))
    get-live slots k s g e = slice_get-map (noted sends records) slots k ∙ (rw g (ap Some (noted-live s e)))

    -- the entry of a slot
    pub live-alone : (slots : List (Slot P K)) (k : ℕ) (s : Slot P K) → slice_get slots k ≡ Some s → s.is_gone ≡ false → PassesAlone (is_at k) (k, note sends records s) (live_in sends records slots)
    live-alone slots k s g e = present-alone 0 k k (map (noted sends records) slots) (note sends records s) (omega arith) (get-live slots k s g e)

    -- no entry, where there is no slot or its entry is gone
    pub live-none : (slots : List (Slot P K)) (k : ℕ) → ((s : Slot P K) → slice_get slots k ≡ Some s → s.is_gone ≡ false → ⊥) → NonePasses (is_at k) (live_in sends records slots)
    live-none slots k h = present-none 0 k k (map (noted sends records) slots) (omega arith) (λ x e. none-there x (slice_get slots k) refl (sym (slice_get-map (noted sends records) slots k) ∙ e))
      where
        gone-there : (x : Noted P K) (s : Slot P K) (b : Bool) → s.is_gone ≡ b → slice_get slots k ≡ Some s → noted sends records s ≡ Some x → ⊥
        gone-there x s true e g n = let m : None ≡ Some x = sym (noted-gone s e) ∙ n in cc
        gone-there x s false e g n = h s g e

        none-there : (x : Noted P K) (o : Option (Slot P K)) → slice_get slots k ≡ o → option_map (noted sends records) o ≡ Some (Some x) → ⊥
        none-there x None g e = let m : None ≡ Some (Some x) = e in cc
        none-there x (Some s) g e = gone-there x s s.is_gone refl g (let m : Some (noted sends records s) ≡ Some (Some x) = e in cc)

    -- as many sends as its slot says
    pub sent-there : (slots : List (Slot P K)) (k : ℕ) (s : Slot P K) → slice_get slots k ≡ Some s → AreLaid (λ u. u.first_send) (λ u. u.send_count) 0 slots (length sends) → length (note sends records s).event.sends ≡ s.send_count
    sent-there slots k s g laid =
        let fits : s.first_send + s.send_count ≤ length sends = every-get _ slots k s g (laid-fits (λ (u : Slot P K). u.first_send) (λ u. u.send_count) 0 (length sends) slots laid) in
        length-take-le s.send_count (drop s.first_send sends) (omega (arith, length-drop s.first_send sends))

    -- one is marked as gone
    module _ (slots : List (Slot P K)) (k : ℕ) (s t : Slot P K) (g : slice_get slots k ≡ Some s) (e : s.is_gone ≡ false) (f : t.is_gone ≡ true) where
      pub live-marked : live_in sends records (slice_set slots k t) ≡ filter (is_elsewhere k) (live_in sends records slots)
      live-marked =
          ap (present_from 0) (map-set (noted sends records) slots k t ∙ ap (slice_set (map (noted sends records) slots) k) (noted-gone t f))
          ∙ present-removed 0 k k (map (noted sends records) slots) (note sends records s) (omega arith) (get-live slots k s g e)

      module _ (earliest latest : Time) (needs : ℕ) (sheet : IsSheet slots sends records earliest latest needs) where
        nodes-there : nodes_at (k, note sends records s) ≡ 1 + s.send_count
        nodes-there = ap (λ n. 1 + n) (sent-there slots k s g sheet.sent)

        sum-there : sum_by nodes_at (filter (is_elsewhere k) (live_in sends records slots)) + (1 + s.send_count) ≡ needs
        sum-there =
            ap (λ n. sum_by nodes_at (filter (is_elsewhere k) (live_in sends records slots)) + n) (sym nodes-there)
            ∙ alone-sum (is_at k) nodes_at (k, note sends records s) (live_in sends records slots) (live-alone slots k s g e) ∙ sym sheet.counted

        pub marked-needs : 1 + s.send_count ≤ needs
        marked-needs = omega (arith, sum-there)

        pub sheet-marked : t.first_send ≡ s.first_send → t.send_count ≡ s.send_count → t.first_record ≡ s.first_record → t.record_count ≡ s.record_count
            → IsSheet (slice_set slots k t) sends records earliest latest (needs - (1 + s.send_count))
        sheet-marked fs cs fr cr = record {
          sent = laid-set (λ u. u.first_send) (λ u. u.send_count) 0 (length sends) slots k s t g fs cs sheet.sent;
          recorded = laid-set (λ u. u.first_record) (λ u. u.record_count) 0 (length records) slots k s t g fr cr sheet.recorded;
          few = every-put _ slots k t sheet.few (subst (λ n. n ≤ MAX_RECORDS) (sym cr) (every-get _ slots k s g sheet.few));
          dated = subst (AllByRecursion (IsDated earliest latest)) (sym live-marked) (every-filter _ (is_elsewhere k) (live_in sends records slots) sheet.dated);
          counted = let m : needs - (1 + s.send_count) ≡ sum_by nodes_at (filter (is_elsewhere k) (live_in sends records slots)) = omega (arith, sum-there) in m ∙ ap (sum_by nodes_at) (sym live-marked);
        }

  -- a write
  module _ (slots : List (Slot P K)) (sends more_sends : List (Sent P)) (records more_records : List Record) (earliest latest : Time) (needs : ℕ) (sheet : IsSheet slots sends records earliest latest needs)
      (t : Slot P K) (live : t.is_gone ≡ false) (fs : t.first_send ≡ length sends) (cs : t.send_count ≡ length more_sends) (fr : t.first_record ≡ length records) (cr : t.record_count ≡ length more_records) where
    event : Noted P K
    event = noted_event t.process t.before t.entry more_sends more_records

    grown : map (noted (sends ++ more_sends) (records ++ more_records)) slots ≡ map (noted sends records) slots
    grown =
        noted-grow sends more_sends records more_records slots
        (laid-fits (λ u. u.first_send) (λ u. u.send_count) 0 (length sends) slots sheet.sent)
        (laid-fits (λ u. u.first_record) (λ u. u.record_count) 0 (length records) slots sheet.recorded)

    written : noted (sends ++ more_sends) (records ++ more_records) t ≡ Some (noted_event t.process t.before t.entry more_sends more_records)
    written =
        noted-live (sends ++ more_sends) (records ++ more_records) t live
        ∙ (let e : range_of t.first_send t.send_count (sends ++ more_sends) ≡ more_sends = rw (fs, cs) (range-new sends more_sends) in
        let f : range_of t.first_record t.record_count (records ++ more_records) ≡ more_records = rw (fr, cr) (range-new records more_records) in
        λ i. Some (noted_event t.process t.before t.entry (e i) (f i)))

    pub live-written : live_in (sends ++ more_sends) (records ++ more_records) (slots ++ t ∷ []) ≡ live_in sends records slots ++ (length slots, noted_event t.process t.before t.entry more_sends more_records) ∷ []
    live-written =
        ap (present_from 0) (map-append (noted (sends ++ more_sends) (records ++ more_records)) slots (t ∷ []) ∙ (λ i. grown i ++ written i ∷ []))
        ∙ present-push 0 (map (noted sends records) slots) _
        ∙ (let e : 0 + length (map (noted sends records) slots) ≡ length slots = omega (arith, length-map slots (noted sends records)) in
        ap (λ n. live_in sends records slots ++ (n, noted_event t.process t.before t.entry more_sends more_records) ∷ []) e)

    pub sheet-written : (first last : Time) → length more_records ≤ MAX_RECORDS → AllByRecursion (IsDated first last) (live_in sends records slots) → first ≤ time_of (noted_event t.process t.before t.entry more_sends more_records).event → time_of (noted_event t.process t.before t.entry more_sends more_records).event ≤ last
        → IsSheet (slots ++ t ∷ []) (sends ++ more_sends) (records ++ more_records) first last (needs + (1 + length more_sends))
    sheet-written first last short dated low high = record {
      sent =
          let h = laid-push (λ u. u.first_send) (λ u. u.send_count) 0 (length sends) slots t sheet.sent fs in
          let e : length sends + t.send_count ≡ length (sends ++ more_sends) = omega (arith, cs, length-append sends more_sends) in
          subst (λ n. AreLaid (λ (u : Slot P K). u.first_send) (λ u. u.send_count) 0 (slots ++ t ∷ []) n) e h;
      recorded =
          let h = laid-push (λ u. u.first_record) (λ u. u.record_count) 0 (length records) slots t sheet.recorded fr in
          let e : length records + t.record_count ≡ length (records ++ more_records) = omega (arith, cr, length-append records more_records) in
          subst (λ n. AreLaid (λ (u : Slot P K). u.first_record) (λ u. u.record_count) 0 (slots ++ t ∷ []) n) e h;
      few = every-append _ slots (t ∷ []) sheet.few (subst (λ n. n ≤ MAX_RECORDS) (sym cr) short, tt);
      dated = subst (AllByRecursion (IsDated first last)) (sym live-written) (every-append _ (live_in sends records slots) _ dated ((low, high), tt));
      counted =
          let s = sum_by_push nodes_at (live_in sends records slots) (length slots, noted_event t.process t.before t.entry more_sends more_records) in
          let m : needs + (1 + length more_sends) ≡ sum_by nodes_at (live_in sends records slots ++ (length slots, noted_event t.process t.before t.entry more_sends more_records) ∷ []) = omega (arith, s, sheet.counted) in
          m ∙ ap (sum_by nodes_at) (sym live-written);
    }

  -- the last slot is dropped, whose entry is gone
  module _ (slots : List (Slot P K)) (t : Slot P K) (sends : List (Sent P)) (records : List Record) (earliest latest : Time) (needs : ℕ) (sheet : IsSheet (slots ++ t ∷ []) sends records earliest latest needs) (gone : t.is_gone ≡ true) where
    within : t.first_send ≤ length sends
    within = laid-last (λ (u : Slot P K). u.first_send) (λ u. u.send_count) 0 (length sends) slots t sheet.sent

    within_records : t.first_record ≤ length records
    within_records = laid-last (λ (u : Slot P K). u.first_record) (λ u. u.record_count) 0 (length records) slots t sheet.recorded

    sent : AreLaid (λ u. u.first_send) (λ u. u.send_count) 0 slots (length (take t.first_send sends))
    sent =
        subst (λ n. AreLaid (λ (u : Slot P K). u.first_send) (λ u. u.send_count) 0 slots n) (sym (length-take-le t.first_send sends within))
        (laid-pop (λ u. u.first_send) (λ u. u.send_count) 0 (length sends) slots t sheet.sent)

    recorded : AreLaid (λ u. u.first_record) (λ u. u.record_count) 0 slots (length (take t.first_record records))
    recorded =
        subst (λ n. AreLaid (λ (u : Slot P K). u.first_record) (λ u. u.record_count) 0 slots n) (sym (length-take-le t.first_record records within_records))
        (laid-pop (λ u. u.first_record) (λ u. u.record_count) 0 (length records) slots t sheet.recorded)

    shrunk : map (noted sends records) slots ≡ map (noted (take t.first_send sends) (take t.first_record records)) slots
    shrunk =
        (λ i. map (noted (sym (take-append-drop t.first_send sends) i) (sym (take-append-drop t.first_record records) i)) slots)
        ∙ noted-grow (take t.first_send sends) (drop t.first_send sends) (take t.first_record records) (drop t.first_record records) slots
        (laid-fits (λ u. u.first_send) (λ u. u.send_count) 0 _ slots sent)
        (laid-fits (λ u. u.first_record) (λ u. u.record_count) 0 _ slots recorded)

    pub live-dropped : live_in sends records (slots ++ t ∷ []) ≡ live_in (take t.first_send sends) (take t.first_record records) slots
    live-dropped =
        ap (present_from 0) (map-append (noted sends records) slots (t ∷ []) ∙ ap (λ o. map (noted sends records) slots ++ o ∷ []) (noted-gone sends records t gone))
        ∙ present-pop 0 (map (noted sends records) slots) ∙ ap (present_from 0) shrunk

    pub sheet-dropped : IsSheet slots (take t.first_send sends) (take t.first_record records) earliest latest needs
    sheet-dropped = record {
      sent = sent;
      recorded = recorded;
      few = every-left _ slots (t ∷ []) sheet.few;
      dated = subst (AllByRecursion (IsDated earliest latest)) live-dropped sheet.dated;
      counted = sheet.counted ∙ ap (sum_by nodes_at) live-dropped;
    }

  -- the same of equal lists
  pub sheet-along : {slots others : List (Slot P K)} {sends other_sends : List (Sent P)} {records other_records : List Record} {earliest latest : Time} {needs : ℕ}
      → others ≡ slots → other_sends ≡ sends → other_records ≡ records → IsSheet slots sends records earliest latest needs → IsSheet others other_sends other_records earliest latest needs
  sheet-along {slots} {others} {sends} {other_sends} {records} {other_records} {earliest} {latest} {needs} e f g sheet =
      subst (λ rs. IsSheet others other_sends rs earliest latest needs) (sym g)
      (subst (λ ms. IsSheet others ms records earliest latest needs) (sym f) (subst (λ ss. IsSheet ss sends records earliest latest needs) (sym e) sheet))

  pub live-along : {slots others : List (Slot P K)} {sends other_sends : List (Sent P)} {records other_records : List Record} {live : List (ℕ × Noted P K)}
      → others ≡ slots → other_sends ≡ sends → other_records ≡ records → live_in sends records slots ≡ live → live_in other_sends other_records others ≡ live
  live-along e f g h = (λ j. live_in (f j) (g j) (e j)) ∙ h

-- bounds of a time that was widened
pub dated-wider : {P K : Type 0} (first last earliest latest : Time) (live : List (ℕ × Noted P K)) → first ≤ earliest → latest ≤ last → AllByRecursion (IsDated earliest latest) live → AllByRecursion (IsDated first last) live
dated-wider first last earliest latest live low high dated = every-weaker _ _ live (λ x d. (let a = d.0 in omega (arith, low, a), let b = d.1 in omega (arith, high, b))) dated

pub earlier-both : (r a b : ℕ) → r ≡ min a b → (r ≤ a) × (r ≤ b)
earlier-both r a b e = (omega (arith, e), omega (arith, e))

pub fits-short : (a b : ℕ) → a ≡ b → b < 2 ^ 32 → Fits w32 a
fits-short a b e h = omega (arith, e, h)

pub fits-behind : (a b c n : ℕ) → a + n ≤ c → b ≤ n → a + b ≤ c
fits-behind a b c n h k = omega (arith, h, k)

-- so few are counted in one byte, and one more than so few beside as many as there may be in 64 bits
pub fits-sends : (n : ℕ) → n ≤ MAX_SENDS → Fits w8 n
fits-sends n h = omega (arith, h)

pub fits-records : (n : ℕ) → n ≤ MAX_RECORDS → Fits w8 n
fits-records n h = omega (arith, h)

pub fits-one : (n : ℕ) → n ≤ MAX_SENDS → Fits w64 (1 + n)
fits-one n h = omega (arith, h)

pub fits-needs : (needs sum n : ℕ) → needs ≡ sum → sum ≤ 2 ^ 62 → n ≤ MAX_SENDS → Fits w64 (needs + (1 + n))
fits-needs needs sum n e h k = omega (arith, e, h, k)

-- after a pop there is room for one item
pub room-popped : (n m most most' : ℕ) → n + 1 ≡ m → m ≤ most → most' ≡ most → n < most'
room-popped n m most most' e h f = omega (arith, e, h, f)

pub shorter : {X : Type 0} (xs ys : List X) (y : X) → xs ≡ ys ++ y ∷ [] → length ys < length xs
shorter xs ys y e = let a = ap length e in let b = length_push ys y in omega (arith, a, b)

pub live-high : {P K : Type 0} (sends : List (Sent P)) (records : List Record) (slots : List (Slot P K)) (n : ℕ) → length slots ≤ n → AllByRecursion (λ x. x.0 < n) (live_in sends records slots)
live-high sends records slots n h = present-high 0 n (map (noted sends records) slots) (let e = length-map slots (noted sends records) in omega (arith, e, h))

-- ---- going over the slots

pub rows_below-append : {P K : Type 0} (floor : Time) (es fs : List (Logged P K)) → rows_below floor (es ++ fs) ≡ rows_below floor es ++ rows_below floor fs
rows_below-append floor es fs = ap (flat_map event_rows) (filter-append (is_below floor) es fs) ∙ flat_map-append event_rows (filter (is_below floor) es) (filter (is_below floor) fs)

module _ {P K : Type 0} (sends : List (Sent P)) (records : List Record) where
  any-step : (stamp : Stamp) (i : ℕ) (s : Slot P K) (b d : Bool) (xs : List (ℕ × Noted P K)) → s.is_gone ≡ b → d ≡ list_any (is_stamped stamp) (events_in xs)
      → (has_slot_stamp stamp s || d) ≡ list_any (is_stamped stamp) (events_in (put_if i (noted sends records s) xs))
  any-step stamp i s true d xs e h = rw e h
  any-step stamp i s false d xs e h = rw e (ap (λ b. is_stamped stamp (note sends records s).event || b) h)

  any-events : (stamp : Stamp) (i : ℕ) (slots : List (Slot P K)) → list_any (has_slot_stamp stamp) slots ≡ list_any (is_stamped stamp) (events_in (present_from i (map (noted sends records) slots)))
  any-events stamp i [] = refl
  any-events stamp i (s ∷ ss) = any-step stamp i s s.is_gone _ (present_from (suc i) (map (noted sends records) ss)) refl (any-events stamp (suc i) ss)

  -- the slots whose entries aren't gone have the events
  pub any-live : (stamp : Stamp) (slots : List (Slot P K)) → list_any (has_slot_stamp stamp) slots ≡ list_any (is_stamped stamp) (events_in (live_in sends records slots))
  any-live stamp slots = any-events stamp 0 slots

  rows-step : (floor : Time) (i : ℕ) (s : Slot P K) (b d : Bool) (rs : List Row) (xs : List (ℕ × Noted P K)) → s.is_gone ≡ b → is_below floor (note sends records s).event ≡ d → rs ≡ rows_below floor (events_in xs)
      → slot_rows floor records s ++ rs ≡ rows_below floor (events_in (put_if i (noted sends records s) xs))
  rows-step floor i s true d rs xs e f h = rw e h
  rows-step floor i s false true rs xs e f h = rw (e, f) (ap (λ ys. event_rows (note sends records s).event ++ ys) h)
  rows-step floor i s false false rs xs e f h = rw (e, f) h

  rows-events : (floor : Time) (i : ℕ) (slots : List (Slot P K)) → flat_map (slot_rows floor records) slots ≡ rows_below floor (events_in (present_from i (map (noted sends records) slots)))
  rows-events floor i [] = refl
  rows-events floor i (s ∷ ss) = rows-step floor i s s.is_gone _ _ (present_from (suc i) (map (noted sends records) ss)) refl refl (rows-events floor (suc i) ss)

  pub rows-live : (floor : Time) (slots : List (Slot P K)) → flat_map (slot_rows floor records) slots ≡ rows_below floor (events_in (live_in sends records slots))
  rows-live floor slots = rows-events floor 0 slots

-- an event's rows, with those of one record more
pub rows-grow : (key : Key) (records : List Record) (i index : ℕ) (d : Record) → index ≡ i → i < length records → rows_of key (take (i + 1) records) ≡ rows_of key (take i records) ++ record { key = key; index = index; rec = get_or records i d } ∷ []
unfolding rows_of
rows-grow key records i index d e h =
    let row = λ (q : ℕ × Record). (let r : Row = record { key = key; index = q.0; rec = q.1 } in r) in
    let taken = length-take-le i records (omega arith) in
    let long : 0 + length (take i records) ≡ index = omega arith in
    ap (λ rs. map row (enumerate_from 0 rs)) (take_more records i d h)
    ∙ ap (map row) (enumerate_from-append 0 (take i records) (get_or records i d ∷ []))
    ∙ map-append row (enumerate_from 0 (take i records)) (enumerate_from (0 + length (take i records)) (get_or records i d ∷ []))
    ∙ ap (λ n. map row (enumerate_from 0 (take i records)) ++ record { key = key; index = n; rec = get_or records i d } ∷ []) long

pub rows-nothing : (key : Key) → rows_of key [] ≡ []
unfolding rows_of
rows-nothing key = refl

pub fits-under : (a b c : ℕ) → a ≡ b → b < c → c ≤ MAX_RECORDS → Fits w32 (a + 1)
fits-under a b c e h k = omega (arith, e, h, k)

pub few-there : {X : Type 0} (first count : ℕ) (xs : List X) → count ≤ MAX_RECORDS → length (range_of first count xs) ≤ MAX_RECORDS
few-there first count xs h = let e = length-take count (drop first xs) in omega (arith, e, h)

pub flat-more : {X Y : Type 0} (f : X → List Y) (xs : List X) (i : ℕ) (x : X) (olds rows new : List Y) → i < length xs → x ≡ get_or xs i x → rows ≡ olds ++ flat_map f (take i xs) → new ≡ rows ++ f x → new ≡ olds ++ flat_map f (take (i + 1) xs)
flat-more f xs i x olds rows new h e before is =
    is ∙ ap (λ rs. rs ++ f x) before ∙ append_assoc olds (flat_map f (take i xs)) (f x)
    ∙ ap (λ rs. olds ++ rs)
    (sym (ap (flat_map f) (take_more xs i x h ∙ ap (λ y. take i xs ++ y ∷ []) (sym e)) ∙ flat_map-append f (take i xs) (x ∷ []) ∙ ap (λ rs. flat_map f (take i xs) ++ rs) (append-nil (f x))))

pub flat-total : {X Y : Type 0} (f : X → List Y) (xs : List X) (i : ℕ) (olds rows : List Y) → length xs ≤ i → rows ≡ olds ++ flat_map f (take i xs) → rows ≡ olds ++ flat_map f xs
flat-total f xs i olds rows past before = before ∙ ap (λ ys. olds ++ flat_map f ys) (take_all i xs past)

-- what holds of each item holds of the one that a loop has come to
pub every-item : {X : Type 0} (Q : X → Type 0) (xs : List X) (i : ℕ) (x : X) → i < length xs → x ≡ get_or xs i x → AllByRecursion Q xs → Q x
every-item Q xs i x h e all = every-get Q xs i x (slice_get-get_or xs i x h ∙ ap Some (sym e)) all

-- a loop that looks for an item that passes a test: it has come to one, to one that doesn't pass, and to the end
pub any-found : {X : Type 0} (test : X → Bool) (xs : List X) (i : ℕ) (x : X) → i < length xs → x ≡ get_or xs i x → test x ≡ true → true ≡ list_any test xs
any-found {X} test xs i x h e t = go xs i (slice_get-get_or xs i x h ∙ ap Some (sym e))
  where
    or-right : (b d : Bool) → true ≡ d → true ≡ (b || d)
    or-right true d k = refl
    or-right false d k = k

    go : (ys : List X) (k : ℕ) → slice_get ys k ≡ Some x → true ≡ list_any test ys
    go [] k g = absurd (let n : None ≡ Some x = g in cc)
    go (y ∷ ys) zero g = let same : y ≡ x = (let k : Some y ≡ Some x = g in cc) in ap (λ b. b || list_any test ys) (sym (ap test same ∙ t))
    go (y ∷ ys) (suc k) g = or-right (test y) (list_any test ys) (go ys k g)

pub any-more : {X : Type 0} (test : X → Bool) (xs : List X) (i : ℕ) (x : X) → i < length xs → x ≡ get_or xs i x → list_any test (take i xs) ≡ false → test x ≡ false → list_any test (take (i + 1) xs) ≡ false
any-more test xs i x h e none here =
    ap (list_any test) (take_more xs i x h ∙ ap (λ y. take i xs ++ y ∷ []) (sym e)) ∙ any-append test (take i xs) (x ∷ [])
    ∙ ap (λ b. b || (test x || false)) none ∙ ap (λ b. b || false) here

pub any-total : {X : Type 0} (test : X → Bool) (xs : List X) (i : ℕ) → length xs ≤ i → list_any test (take i xs) ≡ false → false ≡ list_any test xs
any-total test xs i past none = sym none ∙ ap (list_any test) (take_all i xs past)

not-below : (floor t : Time) → floor ≤ t → ltb t floor ≡ false
not-below floor t h = grind (arith, nat_tests)

is-below : (floor t : Time) → t < floor → ltb t floor ≡ true
is-below floor t h = grind (arith, nat_tests)

pub ge-is : (r : Bool) (a b : ℕ) → r ≡ is_ge (nat_cmp a b) → r ≡ true → b ≤ a
ge-is r a b e h = grind (arith, nat_tests)

pub lt-so : (r : Bool) (a b : ℕ) → r ≡ is_lt (nat_cmp a b) → r ≡ true → a < b
lt-so r a b e h = grind (arith, nat_tests)

pub lt-not : (r : Bool) (a b : ℕ) → r ≡ is_lt (nat_cmp a b) → r ≡ false → b ≤ a
lt-not r a b e h = grind (arith, nat_tests)

pub if_ok-then : {V E : Type 0} (P Q : V → Type 0) (r : Result V E) → ((v : V) → P v → Q v) → IfOk r P → IfOk r Q
if_ok-then P Q (Ok v) f h = f v h
if_ok-then P Q (Err e) f h = tt

module _ {P K : Type 0} (floor earliest latest : Time) where
  -- nothing is before a floor that the earliest time isn't before
  pub nothing-below : (live : List (ℕ × Noted P K)) → floor ≤ earliest → AllByRecursion (IsDated earliest latest) live → AllByRecursion (λ x. is_below floor x.1.event ≡ false) live
  nothing-below live h dated = every-weaker _ _ live (λ x d. not-below floor (time_of x.1.event) (let a = d.0 in omega (arith, h, a))) dated

  pub rows-none : (live : List (ℕ × Noted P K)) → floor ≤ earliest → AllByRecursion (IsDated earliest latest) live → rows_below floor (events_in live) ≡ []
  rows-none live h dated = ap (flat_map event_rows) (filter-none (is_below floor) (events_in live) (every-map (λ (x : ℕ × Noted P K). x.1.event) _ live (nothing-below live h dated)))

  pub all-stay : (live : List (ℕ × Noted P K)) → floor ≤ earliest → AllByRecursion (IsDated earliest latest) live → live ≡ filter (stays floor) live
  all-stay live h dated = sym (filter-all (stays floor) live (every-weaker _ _ live (λ x e. ap not e) (nothing-below live h dated)))

  -- all is before a floor that is after the latest time
  pub none-stay : (live : List (ℕ × Noted P K)) → latest < floor → AllByRecursion (IsDated earliest latest) live → [] ≡ filter (stays floor) live
  none-stay live h dated = sym (filter-none (stays floor) live (every-weaker _ _ live (λ x d. ap not (is-below floor (time_of x.1.event) (let a = d.1 in omega (arith, h, a)))) dated))

  -- those that stay are dated from the floor on
  pub dated-staying : (live : List (ℕ × Noted P K)) → AllByRecursion (IsDated earliest latest) live → AllByRecursion (λ x. stays floor x ≡ true) live → AllByRecursion (IsDated floor latest) live
  dated-staying live dated staying = every-both _ _ _ live (λ x d s. (from (time_of x.1.event) s, d.1)) dated staying
    where
      from : (t : Time) → not (ltb t floor) ≡ true → floor ≤ t
      from t h = grind (arith, nat_tests)
