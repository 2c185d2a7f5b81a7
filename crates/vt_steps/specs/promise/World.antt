-- A world of a Time Warp run: what each worker has, what travels between workers, the board on which global virtual time
-- is agreed, and the book of committed rows. No state of a model stands in it.
use Rattle.std.specs.Prelude.{ℕ, ◌+◌, ◌-◌, ◌*◌, ◌/◌, Bool, false, List, [], ◌++◌, map, length, replicate}
use Rattle.std.specs.List.{flat_map, range_with_len}
use Rattle.vt_key.specs.promise.Times.{Time, opening_time}
use Rattle.vt_key.specs.declared.order.Rank.{Rank}
use Rattle.vt_key.specs.declared.letter.Event.{Event}
use Rattle.vt_key.specs.declared.letter.Letter.{Letter}
use Rattle.vt_key.specs.declared.letter.Mail.{Mail}
use Rattle.vt_key.specs.declared.letter.Sign.TheVariants.{Plus}
use Rattle.vt_key.specs.declared.letter.Colour.{Colour}
use Rattle.vt_key.specs.declared.letter.Colour.TheVariants.{White}
use Rattle.vt_model.specs.declared.rows.Row.{Row}
use Rattle.vt_model.specs.declared.rows.Record.{Record}
use Rattle.vt_model.specs.declared.sending.Sent.{Sent}
use Rattle.vt_model.specs.promise.Simulation.{Simulation, Triple, after}
use Rattle.vt_model.specs.promise.Sequential.{rows_before, records_of}
use Rattle.vt_steps.specs.promise.Letters.{unstamped, stamped, signed, least_time, Counts, least_of}
use Rattle.vt_steps.specs.promise.Rows.{rows_in_order}

-- an executed event, and the events that it sent below the end of the run
pub record Entry (P : Type 0) : Type 0 where
  pub event : Event P
  pub sent : List (Event P)

-- a logical process: what it executed and committed, what it executed since, the messages that it has still to execute,
-- and the anti-messages that wait for theirs. The last two are in rising rank
pub record LogicalProcess (P : Type 0) : Type 0 where
  pub done : List (Entry P)
  pub past : List (Entry P)
  pub pending : List (Letter P)
  pub waiting : List (Letter P)

-- the part of one worker, where X stands for a process: its processes; the letters that it made and that have not gone; the mail that it fetched and has
-- not accepted; its colour; how much mail of each colour it sent and got; the least time of all that it sent since it took
-- its colour; the time below which it may commit; and the serial of the next event that it makes.
-- Process p is at index p / workers of the part of worker p mod workers
pub record PartOf (X P : Type 0) : Type 0 where
  pub processes : List X
  pub outbox : List (Letter P)
  pub arrived : List (Mail P)
  pub colour : Colour
  pub sent : Counts
  pub got : Counts
  pub red_minimum : Time
  pub floor : Time
  pub serial : ℕ

-- a part of the definitions
abbrev pub Part : Type 0 → Type 0
Part P = PartOf (LogicalProcess P) P

-- the board: the announced time; whether a round is open; who has cut in it, and who has reported in its pass, by worker;
-- the sums of the counts reported in the pass, and the least value reported; and how many rounds were opened
pub record Board : Type 0 where
  pub announced : Time
  pub is_open : Bool
  pub has_cut : List Bool
  pub has_reported : List Bool
  pub sent : ℕ
  pub got : ℕ
  pub least : Time
  pub rounds : ℕ

-- the book: the rows in the order in which they were handed in; the floor up to which each worker has handed in; and
-- whether it is closed
pub record Book : Type 0 where
  pub rows : List Row
  pub floors : List Time
  pub is_closed : Bool

-- a world, where X stands for a process: the parts and the inboxes by worker, the board and the book
pub record WorldOf (X P : Type 0) : Type 0 where
  pub parts : List (PartOf X P)
  pub inboxes : List (List (Mail P))
  pub board : Board
  pub book : Book

-- a world of the definitions
abbrev pub World : Type 0 → Type 0
World P = WorldOf (LogicalProcess P) P

-- ---- histories

-- the rank of an entry is that of its event
abbrev pub entry_rank : {P : Type 0} → Entry P → Rank
entry_rank entry = entry.event.rank

-- the events of these entries, as the model knows them
abbrev pub entry_events : {P : Type 0} → List (Entry P) → List (Sent P)
entry_events entries = map (λ entry. unstamped entry.event) entries

-- where a process stands after these entries
abbrev pub triple_after : {S P : Type 0} → Simulation S P → ℕ → List (Entry P) → Triple S
triple_after sim p entries = after sim p (entry_events entries)

-- ---- what is unprocessed or travelling

module _ {P : Type 0} where
  -- the letters of a worker: in its outbox, arrived, and at each of its processes
  abbrev pub letters_of_worker : {X : Type 0} → (X → List (Letter P)) → List (Letter P) → List (Mail P) → List X → List (Letter P)
  letters_of_worker at_process outbox arrived processes = outbox ++ map (λ mail. mail.letter) arrived ++ flat_map at_process processes

  -- the letters in a part: in its outbox, arrived, pending and waiting
  abbrev pub letters_in : Part P → List (Letter P)
  letters_in part = letters_of_worker (λ process. process.pending ++ process.waiting) part.outbox part.arrived part.processes

  -- all letters of a world: those in the parts, and those in the inboxes
  abbrev pub all_letters : World P → List (Letter P)
  all_letters world =
      flat_map letters_in world.parts ++ map (λ mail. mail.letter) (flat_map (λ inbox. inbox) world.inboxes)

  -- the least time of a world: of all events and anti-messages that are unprocessed or travelling
  abbrev pub least : Time → World P → Time
  least end world = least_time end (all_letters world)

-- ---- the book

-- the floor of a book: the least floor up to which a worker has handed in
abbrev pub book_floor : Time → Book → Time
book_floor end book = least_of end book.floors

-- the rows that a book shows: those before its floor, in order
abbrev pub book_rows : Time → Book → List Row
book_rows end book = rows_in_order (rows_before (book_floor end book) book.rows)

-- the records that a book shows
abbrev pub book_records : Time → Book → List Record
book_records end book = records_of (book_rows end book)

-- ---- the opening world

module _ {S P : Type 0} (sim : Simulation S P) where
  -- how many processes a worker has: those below lps whose number leaves the worker's own when divided by the workers
  abbrev pub process_count : ℕ → ℕ
  process_count w = (sim.lps + (sim.workers - 1) - w) / sim.workers

  -- the number of the process at an index of a worker
  abbrev pub process_at : ℕ → ℕ → ℕ
  process_at w index = index * sim.workers + w

  -- what a worker's processes send at their starts, in rising order of processes
  abbrev pub start_sends : ℕ → List (Sent P)
  start_sends w = flat_map (λ index. (sim.start (process_at w index)).sends) (range_with_len 0 (process_count w))

  -- these sends with stamps, from a first serial on
  abbrev pub start_events : ℕ → ℕ → List (Event P)
  start_events serial w = stamped w serial (start_sends w)

  -- the part of a worker at the opening: its processes have executed nothing, and what their starts sent is in its outbox
  abbrev pub opening_part : ℕ → ℕ → Part P
  opening_part serial w =
      record {
        processes = replicate (process_count w) (record { done = []; past = []; pending = []; waiting = [] });
        outbox = map (signed Plus) (start_events serial w);
        arrived = [];
        colour = White;
        sent = record { white = 0; red = 0 };
        got = record { white = 0; red = 0 };
        red_minimum = sim.end;
        floor = opening_time;
        serial = serial + length (start_sends w);
      }

-- the board at the opening: no round was ever open
abbrev pub opening_board : ℕ → Time → Board
opening_board workers end =
    record { announced = opening_time; is_open = false; has_cut = replicate workers false; has_reported = replicate workers false; sent = 0; got = 0; least = end; rounds = 0 }

-- the book at the opening: empty and open
abbrev pub opening_book : ℕ → Book
opening_book workers = record { rows = []; floors = replicate workers opening_time; is_closed = false }

-- the opening world: each worker's serials begin with this one
unfoldable pub opening_world : {S P : Type 0} → Simulation S P → ℕ → World P
opening_world sim serial =
    record { parts = map (opening_part sim serial) (range_with_len 0 sim.workers); inboxes = replicate sim.workers []; board = opening_board sim.workers sim.end; book = opening_book sim.workers }
