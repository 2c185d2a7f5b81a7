-- Steps at the part of one worker: the five local steps whole, and what the other steps do to the part.
use Rattle.std.specs.Prelude.{ℕ, ◌+◌, ◌/◌, ◌%◌, Bool, not, nat_eq, List, ◌++◌, map, length, take, drop, slice_get, slice_set, Option}
use Rattle.std.specs.List.{filter, find, prefix_len, remove, flat_map, enumerate_from}
use Rattle.std.specs.Option.{option_and_then, option_map}
use Rattle.vt_key.specs.promise.Times.{Time, time_before, earlier}
use Rattle.vt_key.specs.promise.Letters.{other_colour}
use Rattle.vt_key.specs.promise.Queues.{without_first}
use Rattle.vt_key.specs.declared.order.Stamp.{Stamp}
use Rattle.vt_key.specs.declared.letter.Letter.{Letter}
use Rattle.vt_key.specs.declared.letter.Mail.{Mail}
use Rattle.vt_key.specs.declared.letter.Colour.TheVariants.{White, Red}
use Rattle.vt_model.specs.declared.rows.Row.{Row}
use Rattle.vt_model.specs.promise.Simulation.{Simulation}
use Rattle.vt_steps.specs.promise.Letters.{least_time, count_of, raised, count_colour}
use Rattle.vt_steps.specs.promise.Rows.{rows_from}
use Rattle.vt_steps.specs.promise.World.{Entry, LogicalProcess, Part, letters_in, entry_events, triple_after, process_at}
use Rattle.vt_steps.specs.promise.ProcessSteps.{ProcessEffect, execute_process, undo_process, cancel_process, accept_process}

module _ {P : Type 0} where
  -- the part after a step at the process of this index
  abbrev pub with_effect : Part P → ℕ → ProcessEffect P → Part P
  with_effect part index effect =
      record part { processes = slice_set part.processes index effect.process; outbox = part.outbox ++ effect.letters; serial = part.serial + effect.serials }

  -- a step at the process of this index, if there is one
  abbrev pub at_process : (LogicalProcess P → Option (ProcessEffect P)) → ℕ → Part P → Option (Part P)
  at_process step index part = option_map (with_effect part index) (option_and_then step (slice_get part.processes index))

  -- Execute at the process of this index of worker w
  abbrev pub execute : {S : Type 0} → Simulation S P → ℕ → ℕ → Part P → Option (Part P)
  execute sim w index part = at_process (execute_process sim (process_at sim w index) w part.serial) index part

  -- Undo at the process of this index
  abbrev pub undo : ℕ → Part P → Option (Part P)
  undo index part = at_process undo_process index part

  -- Cancel of a stamp at the process of this index
  abbrev pub cancel : ℕ → Stamp → Part P → Option (Part P)
  cancel index stamp part = at_process (cancel_process stamp) index part

-- ---- Home and Accept

-- the letter is for a process of worker w, of so many workers
abbrev pub is_for : {P : Type 0} → ℕ → ℕ → Letter P → Bool
is_for workers w letter = nat_eq (letter.event.dest % workers) w

module _ {S P : Type 0} (sim : Simulation S P) where
  -- the letter goes to its process, if it is there and does not hold it already
  abbrev pub deliver : Part P → Letter P → Option (Part P)
  deliver part letter = at_process (accept_process letter) (letter.event.dest / sim.workers) part

  -- Home of worker w: the outbox's first letter for a process of w leaves it for its process
  abbrev pub home : ℕ → Part P → Option (Part P)
  home w part = option_and_then (deliver (record part { outbox = without_first (is_for sim.workers w) part.outbox })) (find (is_for sim.workers w) part.outbox)

  -- Accept of the mail at index i of what has arrived: it goes to its process, and the mail behind it moves up
  abbrev pub accept : ℕ → Part P → Option (Part P)
  accept i part = option_and_then (λ mail. deliver (record part { arrived = remove part.arrived i }) mail.letter) (slice_get part.arrived i)

  -- ---- Send

  -- the letters of the outbox for processes of v
  abbrev pub letters_for : ℕ → Part P → List (Letter P)
  letters_for v part = filter (is_for sim.workers v) part.outbox

  -- the part after a send to v: the letters leave the outbox, are counted, and lower the red minimum
  unfoldable pub part_after_send : ℕ → Part P → Part P
  part_after_send v part =
      record part {
        outbox = filter (λ letter. not (is_for sim.workers v letter)) part.outbox;
        sent = raised part.sent part.colour (length (letters_for v part));
        red_minimum = earlier part.red_minimum (least_time sim.end (letters_for v part));
      }

  -- the mail of a send to v: the letters in the worker's colour, in their order
  unfoldable pub mail_of_send : ℕ → Part P → List (Mail P)
  mail_of_send v part = map (λ letter. record { letter = letter; colour = part.colour }) (letters_for v part)

-- Fetch: what was in the inbox has arrived, and is counted by colour
unfoldable pub part_after_fetch : {P : Type 0} → List (Mail P) → Part P → Part P
part_after_fetch inbox part =
    record part { arrived = inbox; got = raised (raised part.got White (count_colour White inbox)) Red (count_colour Red inbox) }

-- Cut: the worker takes the other colour, has sent nothing since, and learns the announced time. Its counts stay: they only rise
unfoldable pub part_after_cut : Time → Time → {P : Type 0} → Part P → Part P
part_after_cut end announced part =
    record part { colour = other_colour part.colour; red_minimum = end; floor = announced }

-- ---- Report

module _ {P : Type 0} where
  -- how much mail of the old colour the worker has sent
  abbrev pub report_sent : Part P → ℕ
  report_sent part = count_of part.sent (other_colour part.colour)

  -- how much mail of the old colour the worker has got
  abbrev pub report_got : Part P → ℕ
  report_got part = count_of part.got (other_colour part.colour)

  -- the value that a worker reports: the lesser of its red minimum and the least time of the letters that it has
  abbrev pub report_least : Time → Part P → Time
  report_least end part = earlier part.red_minimum (least_time end (letters_in part))

  -- ---- Commit

  -- the event of the entry is before the floor
  abbrev pub is_below : Time → Entry P → Bool
  is_below floor entry = time_before entry.event.rank.key.time floor

  -- the past entries before the floor. Past entries stand in rising rank, so these are the first ones
  abbrev pub ripe : Time → LogicalProcess P → List (Entry P)
  ripe floor process = take (prefix_len (is_below floor) process.past) process.past

  -- a process after it commits below a floor: its past entries before the floor are done
  abbrev pub process_after_commit : Time → LogicalProcess P → LogicalProcess P
  process_after_commit floor process =
      record process { done = process.done ++ ripe floor process; past = drop (prefix_len (is_below floor) process.past) process.past }

  -- the part after it commits below its floor
  unfoldable pub part_after_commit : Part P → Part P
  part_after_commit part = record part { processes = map (process_after_commit part.floor) part.processes }

  -- the rows of the entries that process p commits
  abbrev pub ripe_rows : {S : Type 0} → Simulation S P → ℕ → Time → LogicalProcess P → List Row
  ripe_rows sim p floor process = rows_from sim p (triple_after sim p process.done) (entry_events (ripe floor process))

  -- the rows that worker w hands in when it commits: those of each of its processes, by index
  unfoldable pub rows_of_commit : {S : Type 0} → Simulation S P → ℕ → Part P → List Row
  rows_of_commit sim w part =
      flat_map (λ indexed. ripe_rows sim (process_at sim w indexed.0) part.floor indexed.1) (enumerate_from 0 part.processes)
