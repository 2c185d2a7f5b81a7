-- Predicates on all copies: what holds of each event in a world, as a letter, as an executed event and as what an entry sent,
-- and what each change does to it. A step only moves events, but Execute, which makes those that it stamps.
use Rattle.std.proofs.Common.{◌≡◌, ℕ, ◌+◌, ◌-◌, ◌≤◌, ◌<◌, not, List, [], ◌∷◌, ◌++◌, map, length, sym, ◌∙◌, ap, subst, arith, Some, slice_get, slice_set}
use Rattle.std.specs.List.{filter, flat_map, prefix_len, range_with_len, AllByRecursion}
use Rattle.vt_key.specs.declared.letter.Event.{Event}
use Rattle.vt_key.specs.declared.letter.Letter.{Letter}
use Rattle.vt_key.specs.declared.letter.Mail.{Mail}
use Rattle.vt_key.specs.declared.letter.Sign.{Sign}
use Rattle.vt_key.specs.declared.letter.Sign.TheVariants.{Minus, Plus}
use Rattle.vt_model.specs.promise.Simulation.{Simulation, Triple}
use Rattle.vt_model.specs.declared.sending.Sent.{Sent}
use Rattle.vt_steps.specs.promise.Letters.{signed, stamped, unstamped}
use Rattle.vt_key.specs.promise.Order.{rank_before}
use Rattle.vt_key.specs.promise.Queues.{has_stamp, letter_rank}
use Rattle.vt_key.specs.promise.Lists.{Among}
use Rattle.vt_steps.specs.promise.PartSteps.{is_below, is_for, mail_of_send, part_after_commit, part_after_cut, part_after_fetch, part_after_send, process_after_commit, ripe, with_effect}
use Rattle.vt_steps.specs.promise.ProcessSteps.{ProcessEffect, effect_of_execute, effect_of_undo, with_letter}
use Rattle.vt_steps.specs.promise.World.{Entry, LogicalProcess, Part, World, all_letters, letters_in, opening_part, opening_world, process_at, process_count, start_events, triple_after}
use Rattle.vt_key.proofs.ListLemmas.{every-append, every-drop, every-filter, every-find, every-flat_map, every-among, every-get, every-insert_ordered, every-last, every-map, every-put, every-remove, every-replicate, every-take, every-unflat_map, every-weaker, every-without_first}
use Rattle.vt_steps.proofs.lists.Indices.{get-put_same}
use Rattle.vt_steps.proofs.letters.Stamped.{length-stamped}
use Rattle.vt_steps.proofs.steps.Changes.{Act, executes, undoes, cancels, Leaves, homes, arrives, Local, acts, takes, Change, stays, local, sends, fetches, cuts, reports, commits, closes}
use Rattle.vt_steps.proofs.steps.Shape.{IsShaped, process-known}

-- ---- everywhere

-- in an entry: of its event, and of each event that it sent
pub record InEntry {P : Type 0} (Q : Event P → Type 0) (entry : Entry P) : Type 0 where
  pub event : Q entry.event
  pub sent : AllByRecursion Q entry.sent

-- in a process: in its entries, pending and waiting
pub record InProcess {P : Type 0} (Q : Event P → Type 0) (process : LogicalProcess P) : Type 0 where
  pub done : AllByRecursion (InEntry Q) process.done
  pub past : AllByRecursion (InEntry Q) process.past
  pub pending : AllByRecursion (λ letter. Q letter.event) process.pending
  pub waiting : AllByRecursion (λ letter. Q letter.event) process.waiting

-- in a part: in its processes, its outbox and its arrived mail
pub record InPart {P : Type 0} (Q : Event P → Type 0) (part : Part P) : Type 0 where
  pub processes : AllByRecursion (InProcess Q) part.processes
  pub outbox : AllByRecursion (λ letter. Q letter.event) part.outbox
  pub arrived : AllByRecursion (λ mail. Q mail.letter.event) part.arrived

-- in a world: in its parts and its inboxes
pub record InWorld {P : Type 0} (Q : Event P → Type 0) (world : World P) : Type 0 where
  pub parts : AllByRecursion (InPart Q) world.parts
  pub inboxes : AllByRecursion (λ inbox. AllByRecursion (λ mail. Q mail.letter.event) inbox) world.inboxes

-- ---- where each has Q, this one has, and what follows from Q holds of each

module _ {P : Type 0} (Q : Event P → Type 0) where
  -- the part of a worker
  pub part-in : (world : World P) (w : ℕ) (part : Part P) → slice_get world.parts w ≡ Some part → InWorld Q world → InPart Q part
  part-in world w part at h = every-get (InPart Q) world.parts w part at h.parts

  -- the letters of a part
  letters-in : (part : Part P) → InPart Q part → AllByRecursion (λ letter. Q letter.event) (letters_in part)
  letters-in part h =
      let R : Letter P → Type 0 = λ letter. Q letter.event in
      every-append R (part.outbox ++ map (λ mail. mail.letter) part.arrived) (flat_map (λ process. process.pending ++ process.waiting) part.processes)
      (every-append R part.outbox (map (λ mail. mail.letter) part.arrived) h.outbox (every-map (λ mail. mail.letter) R part.arrived h.arrived))
      (every-flat_map R (λ process. process.pending ++ process.waiting) part.processes
      (every-weaker (InProcess Q) (λ process. AllByRecursion R (process.pending ++ process.waiting)) part.processes
      (λ process k. every-append R process.pending process.waiting k.pending k.waiting) h.processes))

  -- a letter
  pub letter-in : (world : World P) (letter : Letter P) → InWorld Q world → Among letter (all_letters world) → Q letter.event
  letter-in world letter h m =
      let R : Letter P → Type 0 = λ l. Q l.event in
      every-among R (all_letters world) letter
      (every-append R (flat_map letters_in world.parts) (map (λ mail. mail.letter) (flat_map (λ inbox. inbox) world.inboxes))
      (every-flat_map R letters_in world.parts (every-weaker (InPart Q) (λ part. AllByRecursion R (letters_in part)) world.parts letters-in h.parts))
      (every-map (λ mail. mail.letter) R (flat_map (λ inbox. inbox) world.inboxes) (every-flat_map (λ mail. Q mail.letter.event) (λ inbox. inbox) world.inboxes h.inboxes))) m

-- what follows from Q holds
module _ {P : Type 0} (Q R : Event P → Type 0) (f : (x : Event P) → Q x → R x) where
  -- in an entry where Q does
  entry-weaker : (entry : Entry P) → InEntry Q entry → InEntry R entry
  entry-weaker entry h = record { event = f entry.event h.event; sent = every-weaker Q R entry.sent f h.sent }

  -- in a process
  process-weaker : (process : LogicalProcess P) → InProcess Q process → InProcess R process
  process-weaker process h = record {
    done = every-weaker (InEntry Q) (InEntry R) process.done entry-weaker h.done;
    past = every-weaker (InEntry Q) (InEntry R) process.past entry-weaker h.past;
    pending = every-weaker (λ l. Q l.event) (λ l. R l.event) process.pending (λ l. f l.event) h.pending;
    waiting = every-weaker (λ l. Q l.event) (λ l. R l.event) process.waiting (λ l. f l.event) h.waiting;
  }

  -- in a part
  part-weaker : (part : Part P) → InPart Q part → InPart R part
  part-weaker part h = record {
    processes = every-weaker (InProcess Q) (InProcess R) part.processes process-weaker h.processes;
    outbox = every-weaker (λ l. Q l.event) (λ l. R l.event) part.outbox (λ l. f l.event) h.outbox;
    arrived = every-weaker (λ m. Q m.letter.event) (λ m. R m.letter.event) part.arrived (λ m. f m.letter.event) h.arrived;
  }

  -- in a world
  pub world-weaker : (world : World P) → InWorld Q world → InWorld R world
  world-weaker world h = record {
    parts = every-weaker (InPart Q) (InPart R) world.parts part-weaker h.parts;
    inboxes = every-weaker (λ box. AllByRecursion (λ m. Q m.letter.event) box) (λ box. AllByRecursion (λ m. R m.letter.event) box) world.inboxes
        (λ box. every-weaker (λ m. Q m.letter.event) (λ m. R m.letter.event) box (λ m. f m.letter.event)) h.inboxes;
  }

-- ---- one part

-- what a local step of w does to a part: all events in it afterwards were in it, or are just stamped, as what a process of w
-- sends by an event, standing somewhere
pub data PartSpread {S P : Type 0} (sim : Simulation S P) (w : ℕ) (old new : Part P) : Type 1 where
  part_kept : ((Q : Event P → Type 0) → InPart Q old → InPart Q new) → PartSpread sim w old new
  part_made : (index : ℕ) (process : LogicalProcess P) (triple : Triple S) (event : Sent P) → slice_get old.processes index ≡ Some process →
      old.serial + length (sim.fire (process_at sim w index) triple event).sends ≤ new.serial →
      ((Q : Event P → Type 0) → InPart Q old → AllByRecursion Q (stamped w old.serial (sim.fire (process_at sim w index) triple event).sends) → InPart Q new) → PartSpread sim w old new

-- a process gives way, and letters go to the outbox
effect-in : {P : Type 0} (Q : Event P → Type 0) (part : Part P) (index : ℕ) (effect : ProcessEffect P) → InPart Q part → InProcess Q effect.process → AllByRecursion (λ letter. Q letter.event) effect.letters →
    InPart Q (with_effect part index effect)
effect-in Q part index effect h p l = record {
  processes = every-put (InProcess Q) part.processes index effect.process h.processes p;
  outbox = every-append (λ letter. Q letter.event) part.outbox effect.letters h.outbox l;
  arrived = h.arrived;
}

-- a process takes a letter
with_letter-in : {P : Type 0} (Q : Event P → Type 0) (process : LogicalProcess P) (sign : Sign) (letter : Letter P) → InProcess Q process → Q letter.event → InProcess Q (with_letter process sign letter)
with_letter-in Q process Plus letter h q =
    record { done = h.done; past = h.past; pending = every-insert_ordered (λ a b. rank_before (letter_rank a) (letter_rank b)) (λ l. Q l.event) letter process.pending q h.pending; waiting = h.waiting }
with_letter-in Q process Minus letter h q =
    record { done = h.done; past = h.past; pending = h.pending; waiting = every-insert_ordered (λ a b. rank_before (letter_rank a) (letter_rank b)) (λ l. Q l.event) letter process.waiting q h.waiting }

-- a process commits
commit-in : {P : Type 0} (Q : Event P → Type 0) (floor : _) (process : LogicalProcess P) → InProcess Q process → InProcess Q (process_after_commit floor process)
commit-in Q floor process h = record {
  done = every-append (InEntry Q) process.done (ripe floor process) h.done (every-take (InEntry Q) (prefix_len (is_below floor) process.past) process.past h.past);
  past = every-drop (InEntry Q) (prefix_len (is_below floor) process.past) process.past h.past;
  pending = h.pending;
  waiting = h.waiting;
}

module _ {S P : Type 0} (sim : Simulation S P) where
  -- a process acts
  act-spread : (w index : ℕ) (old : Part P) (process : LogicalProcess P) (effect : ProcessEffect P) → slice_get old.processes index ≡ Some process →
      Act sim (process_at sim w index) w old.serial process effect → PartSpread sim w old (with_effect old index effect)
  unfolding effect_of_execute effect_of_undo
  act-spread w index old process effect at (executes least rest pending follows is) =
      let p : ℕ = process_at sim w index in
      let triple : Triple S = triple_after sim p (process.done ++ process.past) in
      let made : List (Event P) = stamped w old.serial (sim.fire p triple (unstamped least.event)).sends in
      part_made index process triple (unstamped least.event) at
      (let a : effect.serials ≡ length made = ap (λ n. n.serials) is in
      let b = length-stamped w old.serial (sim.fire p triple (unstamped least.event)).sends in
      omega arith)
      (λ Q h fresh.
      (let here = every-get (InProcess Q) old.processes index process at h.processes in
      let queue : AllByRecursion (λ letter. Q letter.event) (least ∷ rest) = subst (AllByRecursion (λ letter. Q letter.event)) pending here.pending in
      effect-in Q old index effect h
      (subst (λ a. InProcess Q a.process) (sym is) (record {
        done = here.done;
        past = every-append (InEntry Q) process.past (record { event = least.event; sent = made } ∷ []) here.past (record { event = queue.0; sent = fresh }, tt);
        pending = queue.1;
        waiting = here.waiting;
      }))
      (subst (λ a. AllByRecursion (λ letter. Q letter.event) a.letters) (sym is) (every-map (signed Plus) (λ letter. Q letter.event) made fresh))))
  act-spread w index old process effect at (undoes last last_is must is) =
      part_kept (λ Q h.
      (let here = every-get (InProcess Q) old.processes index process at h.processes in
      let entry = every-last (InEntry Q) process.past last last_is here.past in
      effect-in Q old index effect h
      (subst (λ a. InProcess Q a.process) (sym is) (record {
        done = here.done;
        past = every-take (InEntry Q) (length process.past - 1) process.past here.past;
        pending = every-insert_ordered (λ a b. rank_before (letter_rank a) (letter_rank b)) (λ letter. Q letter.event) (signed Plus last.event) process.pending entry.event here.pending;
        waiting = here.waiting;
      }))
      (subst (λ a. AllByRecursion (λ letter. Q letter.event) a.letters) (sym is) (every-map (signed Minus) (λ letter. Q letter.event) last.sent entry.sent))))
  act-spread w index old process effect at (cancels stamp minus plus waits pends keys is) =
      part_kept (λ Q h.
      (let here = every-get (InProcess Q) old.processes index process at h.processes in
      effect-in Q old index effect h
      (subst (λ a. InProcess Q a.process) (sym is) (record {
        done = here.done;
        past = here.past;
        pending = every-without_first (λ letter. Q letter.event) (has_stamp stamp) process.pending here.pending;
        waiting = every-without_first (λ letter. Q letter.event) (has_stamp stamp) process.waiting here.waiting;
      }))
      (subst (λ a. AllByRecursion (λ letter. Q letter.event) a.letters) (sym is) tt)))

  -- a letter leaves the outbox or the arrived mail
  leaves-in : (w : ℕ) (old new : Part P) (letter : Letter P) → Leaves sim w old new letter → (Q : Event P → Type 0) → InPart Q old → InPart Q new × Q letter.event
  leaves-in w old new letter (homes found is) Q h = (
    subst (InPart Q) (sym is) (record {
      processes = h.processes;
      outbox = every-without_first (λ l. Q l.event) (is_for sim.workers w) old.outbox h.outbox;
      arrived = h.arrived;
    }),
    every-find (λ l. Q l.event) (is_for sim.workers w) old.outbox letter found h.outbox,
  )
  leaves-in w old new letter (arrives i mail at letter_is is) Q h = (
    subst (InPart Q) (sym is) (record {
      processes = h.processes;
      outbox = h.outbox;
      arrived = every-remove (λ m. Q m.letter.event) old.arrived i h.arrived;
    }),
    subst (λ l. Q l.event) (sym letter_is) (every-get (λ m. Q m.letter.event) old.arrived i mail at h.arrived),
  )

  -- a local step
  local-spread : (w : ℕ) (old new : Part P) → Local sim w old new → PartSpread sim w old new
  local-spread w old new (acts index process effect at act is) = subst (PartSpread sim w old) (sym is) (act-spread w index old process effect at act)
  local-spread w old new (takes part letter index process leaves at index_is free is) =
      part_kept (λ Q h.
      (let left = leaves-in w old part letter leaves Q h in
      subst (InPart Q) (sym is) (effect-in Q part index (record { process = with_letter process letter.sign letter; letters = []; serials = 0 }) left.0
      (with_letter-in Q process letter.sign letter (every-get (InProcess Q) part.processes index process at left.0.processes) left.1) tt)))

-- ---- a world

-- what a step does to a world: all events in it afterwards were in it, or are just stamped, as what a process sends by an
-- event, standing somewhere
pub data Spread {S P : Type 0} (sim : Simulation S P) (old new : World P) : Type 1 where
  kept : ((Q : Event P → Type 0) → InWorld Q old → InWorld Q new) → Spread sim old new
  made : (w : ℕ) (part after : Part P) (p : ℕ) (triple : Triple S) (event : Sent P) → slice_get old.parts w ≡ Some part → slice_get new.parts w ≡ Some after →
      p < sim.lps → part.serial + length (sim.fire p triple event).sends ≤ after.serial →
      ((Q : Event P → Type 0) → InWorld Q old → AllByRecursion Q (stamped w part.serial (sim.fire p triple event).sends) → InWorld Q new) → Spread sim old new

module _ {S P : Type 0} (sim : Simulation S P) where
  -- a part of the same events takes a part's place
  still-in : (Q : Event P → Type 0) (old new : World P) (w : ℕ) (part after : Part P) → slice_get old.parts w ≡ Some part → new.parts ≡ slice_set old.parts w after → new.inboxes ≡ old.inboxes →
      (InPart Q part → InPart Q after) → InWorld Q old → InWorld Q new
  still-in Q old new w part after is parts inboxes f h = record {
    parts = subst (AllByRecursion (InPart Q)) (sym parts) (every-put (InPart Q) old.parts w after h.parts (f (part-in Q old w part is h)));
    inboxes = subst (AllByRecursion (λ inbox. AllByRecursion (λ mail. Q mail.letter.event) inbox)) (sym inboxes) h.inboxes;
  }

  -- each change
  pub change-spread : (old new : World P) → IsShaped sim old → Change sim old new → Spread sim old new
  unfolding part_after_send mail_of_send part_after_fetch part_after_cut part_after_commit
  change-spread old new shape (stays e) = kept (λ Q h. subst (InWorld Q) (sym e) h)
  change-spread old new shape (local w part after is change e) =
      elim (local-spread sim w part after change) [
        | part_kept f ↦ kept (λ Q h. still-in Q old new w part after is (ap (λ n. n.parts) e) (ap (λ n. n.inboxes) e) (f Q) h)
        | part_made index process triple event at more f ↦
            made w part after (process_at sim w index) triple event is (ap (λ n. slice_get n.parts w) e ∙ get-put_same old.parts w part after is)
            (process-known sim old shape w index part process is at) more
            (λ Q h fresh. still-in Q old new w part after is (ap (λ n. n.parts) e) (ap (λ n. n.inboxes) e) (λ k. f Q k fresh) h)
      ]
  change-spread old new shape (sends w v part inbox is in_is e) =
      kept (λ Q h.
      (let here = part-in Q old w part is h in
      let there = every-get (λ box. AllByRecursion (λ mail. Q mail.letter.event) box) old.inboxes v inbox in_is h.inboxes in
      subst (InWorld Q) (sym e) (record {
        parts = every-put (InPart Q) old.parts w (part_after_send sim v part) h.parts
            (record { processes = here.processes; outbox = every-filter (λ l. Q l.event) (λ letter. not (is_for sim.workers v letter)) part.outbox here.outbox; arrived = here.arrived });
        inboxes = every-put (λ box. AllByRecursion (λ mail. Q mail.letter.event) box) old.inboxes v (inbox ++ mail_of_send sim v part) h.inboxes
            (every-append (λ mail. Q mail.letter.event) inbox (mail_of_send sim v part) there
            (every-map (λ letter. record { letter = letter; colour = part.colour }) (λ mail. Q mail.letter.event) (filter (is_for sim.workers v) part.outbox)
            (every-filter (λ l. Q l.event) (is_for sim.workers v) part.outbox here.outbox)));
      })))
  change-spread old new shape (fetches w part inbox is in_is none e) =
      kept (λ Q h.
      (let here = part-in Q old w part is h in
      let there = every-get (λ box. AllByRecursion (λ mail. Q mail.letter.event) box) old.inboxes w inbox in_is h.inboxes in
      subst (InWorld Q) (sym e) (record {
        parts = every-put (InPart Q) old.parts w (part_after_fetch inbox part) h.parts (record { processes = here.processes; outbox = here.outbox; arrived = there });
        inboxes = every-put (λ box. AllByRecursion (λ mail. Q mail.letter.event) box) old.inboxes w [] h.inboxes tt;
      })))
  change-spread old new shape (cuts w part board is cut_is e) =
      kept (λ Q. still-in Q old new w part (part_after_cut sim.end old.board.announced part) is (ap (λ n. n.parts) e) (ap (λ n. n.inboxes) e)
      (λ here. record { processes = here.processes; outbox = here.outbox; arrived = here.arrived }))
  change-spread old new shape (reports w part is may e) =
      kept (λ Q. still-in Q old new w part _ is (ap (λ n. n.parts) e) (ap (λ n. n.inboxes) e)
      (λ here. record { processes = here.processes; outbox = here.outbox; arrived = here.arrived }))
  change-spread old new shape (commits w part is open_is may e) =
      kept (λ Q. still-in Q old new w part (part_after_commit part) is (ap (λ n. n.parts) e) (ap (λ n. n.inboxes) e)
      (λ here. record {
        processes = every-map (process_after_commit part.floor) (InProcess Q) part.processes (every-weaker (InProcess Q) (λ process. InProcess Q (process_after_commit part.floor process)) part.processes (commit-in Q part.floor) here.processes);
        outbox = here.outbox;
        arrived = here.arrived;
      }))
  change-spread old new shape (closes open_is at_end e) = kept (λ Q h. subst (InWorld Q) (sym e) (record { parts = h.parts; inboxes = h.inboxes }))

-- ---- the opening world

-- what the starts sent, with its stamps
abbrev pub events_of_starts : {S P : Type 0} → Simulation S P → ℕ → List (Event P)
events_of_starts sim serial = flat_map (start_events sim serial) (range_with_len 0 sim.workers)

-- what holds of that holds everywhere at the opening
pub opening-in : {S P : Type 0} (sim : Simulation S P) (serial : ℕ) (Q : Event P → Type 0) → AllByRecursion Q (events_of_starts sim serial) → InWorld Q (opening_world sim serial)
unfolding opening_world
opening-in {P = P} sim serial Q h =
    let none : List (Mail P) = [] in
    let empty : LogicalProcess P = record { done = []; past = []; pending = []; waiting = [] } in
    record {
      parts = every-map (opening_part sim serial) (InPart Q) (range_with_len 0 sim.workers)
          (every-weaker (λ w. AllByRecursion Q (start_events sim serial w)) (λ w. InPart Q (opening_part sim serial w)) (range_with_len 0 sim.workers)
          (λ w k. record {
            processes = every-replicate (InProcess Q) (process_count sim w) empty (record { done = tt; past = tt; pending = tt; waiting = tt });
            outbox = every-map (signed Plus) (λ letter. Q letter.event) (start_events sim serial w) k;
            arrived = tt;
          })
          (every-unflat_map Q (start_events sim serial) (range_with_len 0 sim.workers) h));
      inboxes = every-replicate (λ inbox. AllByRecursion (λ mail. Q mail.letter.event) inbox) sim.workers none tt;
    }
