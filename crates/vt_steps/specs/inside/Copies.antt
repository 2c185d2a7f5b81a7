-- Copies of a stamp: how many messages, anti-messages and executed events carry it, and which stamps are made and live.
-- ---- sums over all letters and over all executed entries: every count below is one of these
use Rattle.std.specs.Prelude.{ℕ, ◌+◌, ◌<◌, ◌≤◌, ◌&&◌, Bool, true, false, slice_get, if◌then◌else◌}
use Rattle.std.specs.List.{sum_by, range_with_len}
use Rattle.std.specs.Option.{option_map_or}
use Rattle.vt_key.specs.promise.Order.{stamp_same}
use Rattle.vt_key.specs.declared.order.Stamp.{Stamp}
use Rattle.vt_key.specs.declared.letter.Event.{Event}
use Rattle.vt_key.specs.declared.letter.Letter.{Letter}
use Rattle.vt_key.specs.declared.letter.Mail.{Mail}
use Rattle.vt_key.specs.declared.letter.Sign.{Sign}
use Rattle.vt_key.specs.declared.letter.Sign.TheVariants.{Plus, Minus}
use Rattle.vt_model.specs.promise.Simulation.{Simulation}
use Rattle.vt_steps.specs.promise.World.{Entry, LogicalProcess, Part, World, start_events}

module _ {P : Type 0} where
  -- a letter weighs what its sign and its event weigh
  abbrev pub letter_weight : (Sign → Event P → ℕ) → Letter P → ℕ
  letter_weight f letter = f letter.sign letter.event

  -- mail weighs what its letter does
  abbrev pub mail_weight : (Sign → Event P → ℕ) → Mail P → ℕ
  mail_weight f mail = letter_weight f mail.letter

  -- the weight of a process's letters: each pending one weighs as a message, each waiting one as an anti-message
  abbrev pub process_sum : (Sign → Event P → ℕ) → LogicalProcess P → ℕ
  process_sum f process =
      sum_by (λ letter. f Plus letter.event) process.pending + sum_by (λ letter. f Minus letter.event) process.waiting

  -- the weight of the letters of a part: in its outbox, fetched, pending and waiting
  abbrev pub part_sum : (Sign → Event P → ℕ) → Part P → ℕ
  part_sum f part =
      sum_by (letter_weight f) part.outbox
      + (sum_by (mail_weight f) part.arrived + sum_by (process_sum f) part.processes)

  -- the weight of all letters, those in the inboxes among them
  unfoldable pub letter_sum : (Sign → Event P → ℕ) → World P → ℕ
  letter_sum f world = sum_by (part_sum f) world.parts + sum_by (sum_by (mail_weight f)) world.inboxes

  -- the weight of the entries of a process, committed or not
  abbrev pub process_entries : (Entry P → ℕ) → LogicalProcess P → ℕ
  process_entries g process = sum_by g process.done + sum_by g process.past

  -- the weight of the entries of a part
  abbrev pub part_entries : (Entry P → ℕ) → Part P → ℕ
  part_entries g part = sum_by (process_entries g) part.processes

  -- the weight of all entries
  unfoldable pub entry_sum : (Entry P → ℕ) → World P → ℕ
  entry_sum g world = sum_by (part_entries g) world.parts

-- 1 where the test passes
abbrev pub as_count : Bool → ℕ
as_count b = if b then 1 else 0

-- the two signs are one
abbrev pub is_sign : Sign → Sign → Bool
is_sign Plus Plus = true
is_sign Minus Minus = true
is_sign _ _ = false

module _ {P : Type 0} where
  -- 1 for a letter of this sign and stamp
  abbrev pub is_copy : Sign → Stamp → Sign → Event P → ℕ
  is_copy sign stamp own event = as_count (is_sign sign own && stamp_same event.rank.stamp stamp)

  -- 1 for an event of this stamp
  abbrev pub of_stamp : Stamp → Event P → ℕ
  of_stamp stamp event = as_count (stamp_same event.rank.stamp stamp)

  -- 1 for an entry whose event has this stamp
  abbrev pub is_event_of : Stamp → Entry P → ℕ
  is_event_of stamp entry = of_stamp stamp entry.event

  -- how many events of this stamp an entry sent
  abbrev pub sent_by : Stamp → Entry P → ℕ
  sent_by stamp entry = sum_by (of_stamp stamp) entry.sent

  -- plus: how many messages have this stamp, and how many executed events
  abbrev pub plus : World P → Stamp → ℕ
  plus world stamp = letter_sum (is_copy Plus stamp) world + entry_sum (is_event_of stamp) world

  -- minus: how many anti-messages have this stamp
  abbrev pub minus : World P → Stamp → ℕ
  minus world stamp = letter_sum (is_copy Minus stamp) world

  -- the serial of the next event that a worker makes
  abbrev pub serial_at : World P → ℕ → ℕ
  serial_at world w = option_map_or (λ part. part.serial) (slice_get world.parts w) 0

  -- a stamp is made: its serial is not below the opening one, and below its worker's next one
  abbrev pub IsMade : ℕ → World P → Stamp → Type 0
  IsMade serial world stamp = (serial ≤ stamp.serial) × (stamp.serial < serial_at world stamp.worker)

module _ {S P : Type 0} (sim : Simulation S P) where
  -- how often a stamp is that of a start's send, or of what an entry sent that is executed now
  abbrev pub live_count : ℕ → World P → Stamp → ℕ
  live_count serial world stamp =
      sum_by (λ w. sum_by (of_stamp stamp) (start_events sim serial w)) (range_with_len 0 sim.workers)
      + entry_sum (sent_by stamp) world

  -- a stamp is live: it is that of a start's send, or of what an entry sent that is executed now
  abbrev pub IsLive : ℕ → World P → Stamp → Type 0
  IsLive serial world stamp = 0 < live_count serial world stamp
