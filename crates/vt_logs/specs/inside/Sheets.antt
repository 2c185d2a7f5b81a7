-- What a sheet holds, and what the sheets of a log hold together.
use Rattle.std.specs.Prelude.{◌≡◌, ℕ, suc, ◌+◌, ◌^◌, ◌<◌, ◌≤◌, Bool, true, false, not, ◌&&◌, List, [], ◌∷◌, ◌++◌, Option, Some, None, length, map, take, drop, nat_eq, if◌then◌else◌}
use Rattle.std.specs.List.{sum_by, AllByRecursion}
use Rattle.vt_key.specs.promise.Order.{stamp_same}
use Rattle.vt_key.specs.promise.Times.{Time, TimeAtMost, time_before}
use Rattle.vt_key.specs.declared.order.Stamp.{Stamp}
use Rattle.vt_model.specs.declared.limits.TheConstants.{MAX_RECORDS, MAX_SENDS}
use Rattle.vt_model.specs.declared.rows.Record.{Record}
use Rattle.vt_model.specs.declared.rows.Row.{Row}
use Rattle.vt_model.specs.declared.sending.Sent.{Sent}
use Rattle.vt_model.specs.promise.Simulation.{rows_of}
use Rattle.vt_logs.specs.declared.entry.Entry.{Entry}
use Rattle.vt_logs.specs.declared.slot.Position.{Position}
use Rattle.vt_logs.specs.declared.slot.Slot.{Slot}
use Rattle.vt_logs.specs.inside.Events.{Logged, time_of, is_above, nodes_of}

-- an executed event, and where the one before it of its process lies, if that isn't gone
pub record Noted (P K : Type 0) : Type 0 where
  pub event : Logged P K
  pub before : Position

-- what is at hand of a list: the items that aren't gone, each with its index, from an index on
abbrev pub put_if : {X : Type 0} → ℕ → Option X → List (ℕ × X) → List (ℕ × X)
put_if i None rest = rest
put_if i (Some x) rest = (i, x) ∷ rest

abbrev pub present_from : {X : Type 0} → ℕ → List (Option X) → List (ℕ × X)
present_from i [] = []
present_from i (o ∷ os) = put_if i o (present_from (suc i) os)

-- what a contract sees of a sheet: its events with their indexes, and whether there is room for one more
pub record Page (P K : Type 0) : Type 0 where
  pub live : List (ℕ × Noted P K)
  pub has_room : Bool

-- none of these passes a test
abbrev pub NonePasses : {X : Type 0} → (X → Bool) → List X → Type 0
NonePasses test xs = AllByRecursion (λ x. test x ≡ false) xs

-- x alone of these passes a test
pub record PassesAlone {X : Type 0} (test : X → Bool) (x : X) (xs : List X) : Type 0 where
  pub front : List X
  pub back : List X
  pub is : xs ≡ front ++ x ∷ back
  pub passes : test x ≡ true
  pub none_before : NonePasses test front
  pub none_after : NonePasses test back

-- a range of a list
abbrev pub range_of : {X : Type 0} → ℕ → ℕ → List X → List X
range_of first count xs = take count (drop first xs)

-- ranges of these first indexes and lengths lie one after the other, from an index to an index
module _ {X : Type 0} (first count : X → ℕ) where
  abbrev pub AreLaid : ℕ → List X → ℕ → Type 0
  AreLaid from [] to = from ≡ to
  AreLaid from (x ∷ xs) to = (first x ≡ from) × AreLaid (from + count x) xs to

module _ {P K : Type 0} where
  -- an event of these parts
  abbrev pub noted_event : ℕ → Position → Entry P K → List (Sent P) → List Record → Noted P K
  noted_event process before entry sends records = record {
    event = record { process = process; entry = entry; sends = sends; records = records };
    before = before;
  }

  -- what a slot holds, beside these lists; nothing where its event is gone
  abbrev pub noted : List (Sent P) → List Record → Slot P K → Option (Noted P K)
  noted sends records s =
      if s.is_gone then None
      else Some (noted_event s.process s.before s.entry (range_of s.first_send s.send_count sends) (range_of s.first_record s.record_count records))

  -- the events of a sheet, with their indexes
  abbrev pub live_in : List (Sent P) → List Record → List (Slot P K) → List (ℕ × Noted P K)
  live_in sends records slots = present_from 0 (map (noted sends records) slots)

  -- whether an event has an index
  abbrev pub is_at : ℕ → ℕ × Noted P K → Bool
  is_at i x = nat_eq x.0 i

  -- whether it hasn't
  abbrev pub is_elsewhere : ℕ → ℕ × Noted P K → Bool
  is_elsewhere i x = not (is_at i x)

  -- whether an event of a sheet isn't before a floor
  abbrev pub stays : Time → ℕ × Noted P K → Bool
  stays floor x = is_above floor x.1.event

  -- the slot is that of the event
  pub record IsSlotOf (s : Slot P K) (x : Noted P K) : Type 0 where
    pub entry : s.entry ≡ x.event.entry
    pub process : s.process ≡ x.event.process
    pub before : s.before ≡ x.before
    pub sent : s.send_count ≡ length x.event.sends

  -- the events of a sheet
  abbrev pub events_in : List (ℕ × Noted P K) → List (Logged P K)
  events_in live = map (λ x. x.1.event) live

  -- whether the entry of a slot has a stamp; no if it is gone
  abbrev pub has_slot_stamp : Stamp → Slot P K → Bool
  has_slot_stamp stamp s = not s.is_gone && stamp_same s.entry.event.rank.stamp stamp

  -- the rows of the entry of a slot, if it is before a floor and isn't gone
  abbrev pub slot_rows : Time → List Record → Slot P K → List Row
  slot_rows floor records s =
      if not s.is_gone && time_before s.entry.event.rank.key.time floor
      then rows_of s.entry.event.rank.key (range_of s.first_record s.record_count records) else []

  -- how many nodes the undo of these takes
  abbrev pub nodes_at : ℕ × Noted P K → ℕ
  nodes_at x = nodes_of x.1.event

  -- whether a sheet has no events: their undo takes no nodes
  abbrev pub is_blank : Page P K → Bool
  is_blank page = nat_eq (sum_by nodes_at page.live) 0

  -- the event is within these times
  abbrev pub IsDated : Time → Time → ℕ × Noted P K → Type 0
  IsDated earliest latest x = TimeAtMost earliest (time_of x.1.event) × TimeAtMost (time_of x.1.event) latest

  -- what is true of a sheet
  pub record IsSheet (slots : List (Slot P K)) (sends : List (Sent P)) (records : List Record) (earliest latest : Time) (needs : ℕ) : Type 0 where
    pub sent : AreLaid (λ s. s.first_send) (λ s. s.send_count) 0 slots (length sends)
    pub recorded : AreLaid (λ s. s.first_record) (λ s. s.record_count) 0 slots (length records)
    pub few : AllByRecursion (λ s. s.record_count ≤ MAX_RECORDS) slots
    pub dated : AllByRecursion (IsDated earliest latest) (live_in sends records slots)
    pub counted : needs ≡ sum_by nodes_at (live_in sends records slots)

-- the lists of these lengths and capacities have room for one event more, and for what it sends and records
pub record IsRoomy (slots slots_most sends sends_most records records_most : ℕ) : Type 0 where
  pub slot : slots < slots_most
  pub sends_fit : sends + MAX_SENDS ≤ sends_most
  pub records_fit : records + MAX_RECORDS ≤ records_most
  pub slot_named : slots < 2 ^ 32
  pub sends_named : sends < 2 ^ 32
  pub records_named : records < 2 ^ 32
