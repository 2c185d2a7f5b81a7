-- What the steps keep, whatever the world is: the laws by which a reader can tell that the steps are written down right.
use Rattle.std.specs.Prelude.{◌≡◌, ℕ, ◌+◌, ◌⊎◌, IsTrue, false, [], slice_get, Option, Some, None, Ok, Err}
use Rattle.std.specs.List.{sum_by, list_any}
use Rattle.vt_key.specs.declared.order.Stamp.{Stamp}
use Rattle.vt_key.specs.declared.letter.Event.{Event}
use Rattle.vt_key.specs.declared.letter.Sign.{Sign}
use Rattle.vt_key.specs.declared.letter.Sign.TheVariants.{Plus, Minus}
use Rattle.vt_key.specs.declared.letter.Colour.{Colour}
use Rattle.vt_key.specs.declared.fault.Fault.{Fault}
use Rattle.vt_key.specs.declared.fault.Fault.TheVariants.{NotLawful, Closed}
use Rattle.vt_model.specs.promise.Simulation.{Simulation}
use Rattle.vt_steps.specs.declared.step.Step.{Step}
use Rattle.vt_steps.specs.declared.step.Step.TheVariants.{Execute, Undo, Cancel, Report}
use Rattle.vt_steps.specs.declared.step.Reply.{Reply}
use Rattle.vt_steps.specs.declared.step.Reply.TheVariants.{Done, Waiting, Again, Announced}
use Rattle.vt_steps.specs.promise.Letters.{count_of, signed}
use Rattle.vt_key.specs.promise.Queues.{has_stamp}
use Rattle.vt_steps.specs.promise.World.{Entry, LogicalProcess, Part, World}
use Rattle.vt_steps.specs.inside.World.{travelling}
use Rattle.vt_steps.specs.promise.ProcessSteps.{ProcessEffect, accept_process, cancel_process}
use Rattle.vt_steps.specs.promise.Next.{next, refused}
use Rattle.vt_steps.specs.inside.Copies.{letter_sum}
use Rattle.vt_steps.specs.promise.Cells.{worker_of}
use Rattle.vt_steps.specs.inside.Cells.{CellName, book_cell, Cell, content, cell_of, act, put_back}

-- x is the one that is named, if one is
abbrev pub IsAny : {X : Type 0} → Option X → X → Type 0
IsAny None x = Unit {0}
IsAny (Some y) x = y ≡ x

-- ---- letters

module _ {P : Type 0} where
  -- no letter of this stamp is pending or waiting
  pub record IsFreeOf (stamp : Stamp) (process : LogicalProcess P) : Type 0 where
    pub pending : list_any (has_stamp stamp) process.pending ≡ false
    pub waiting : list_any (has_stamp stamp) process.waiting ≡ false

  -- the effect of changing nothing: this process, no letters and no serials
  abbrev pub unchanged : LogicalProcess P → ProcessEffect P
  unchanged process = record { process = process; letters = []; serials = 0 }

  -- a message and its anti-message come to a process, the one first or the other, and are cancelled: they leave nothing
  pub record Annihilate (event : Event P) (process : LogicalProcess P) : Type 0 where
    pub message_first : (with_one with_both : ProcessEffect P) →
        accept_process (signed Plus event) process ≡ Some with_one → accept_process (signed Minus event) with_one.process ≡ Some with_both →
        cancel_process event.rank.stamp with_both.process ≡ Some (unchanged process)
    pub anti_message_first : (with_one with_both : ProcessEffect P) →
        accept_process (signed Minus event) process ≡ Some with_one → accept_process (signed Plus event) with_one.process ≡ Some with_both →
        cancel_process event.rank.stamp with_both.process ≡ Some (unchanged process)

  -- how much mail of a colour all workers have sent
  abbrev pub mail_sent : Colour → World P → ℕ
  mail_sent colour world = sum_by (λ part. count_of part.sent colour) world.parts

  -- how much mail of a colour all workers have got
  abbrev pub mail_got : Colour → World P → ℕ
  mail_got colour world = sum_by (λ part. count_of part.got colour) world.parts

  -- from one world to another, mail of each colour is neither made nor lost: what is sent in between is got or travels
  abbrev pub IsMailKept : World P → World P → Type 0
  IsMailKept old new =
      (colour : Colour) → mail_sent colour new + (mail_got colour old + travelling colour old) ≡ mail_sent colour old + (mail_got colour new + travelling colour new)

  -- two worlds have the same letters: each sum over them is the same
  abbrev pub AreLettersKept : World P → World P → Type 0
  AreLettersKept old new = (f : Sign → Event P → ℕ) → letter_sum f new ≡ letter_sum f old

  -- from one world to another, a message is gone, and there is a message of each event that its event sends
  abbrev pub IsMessageExecuted : Entry P → World P → World P → Type 0
  IsMessageExecuted entry old new =
      (f : Sign → Event P → ℕ) → letter_sum f new + f Plus entry.event ≡ letter_sum f old + sum_by (f Plus) entry.sent

  -- from one world to another, the message of an event is there again, and an anti-message of each event that it sent
  abbrev pub IsEventUndone : Entry P → World P → World P → Type 0
  IsEventUndone entry old new =
      (f : Sign → Event P → ℕ) → letter_sum f new ≡ letter_sum f old + (f Plus entry.event + sum_by (f Minus) entry.sent)

  -- from one world to another, a message and an anti-message are gone
  abbrev pub AreBothGone : Event P → Event P → World P → World P → Type 0
  AreBothGone message anti_message old new =
      (f : Sign → Event P → ℕ) → letter_sum f new + (f Plus message + f Minus anti_message) ≡ letter_sum f old

-- ---- steps

module _ {P : Type 0} where
  -- a report is answered that others are awaited, that a new pass begins, or with the new announced time; the announced
  -- time changes in the last case alone
  abbrev pub IsReportReply : World P → World P → Reply → Type 0
  IsReportReply old new reply =
      ((reply ≡ Waiting) × (new.board.announced ≡ old.board.announced))
      ⊎ (((reply ≡ Again) × (new.board.announced ≡ old.board.announced)) ⊎ (reply ≡ Announced new.board.announced))

module _ {S P : Type 0} (sim : Simulation S P) where
  -- the step is refused, and so changes nothing
  abbrev pub IsRefused : World P → Step → Type 0
  IsRefused world step = (fault : Fault) × (next sim world step ≡ refused world fault)

  -- a refused step changes nothing. It is refused as closed exactly where it is on the book and the book is closed, and else
  -- as not lawful
  pub record IsRefusalRight (world : World P) (step : Step) : Type 0 where
    pub keeps : (fault : Fault) → (next sim world step).answer ≡ Err fault → (next sim world step).world ≡ world
    pub closed : IsTrue world.book.is_closed → cell_of sim step ≡ Some book_cell → (next sim world step).answer ≡ Err Closed
    pub not_closed : (next sim world step).answer ≡ Err Closed → IsTrue world.book.is_closed × (cell_of sim step ≡ Some book_cell)
    pub other : (fault : Fault) → (next sim world step).answer ≡ Err fault → (fault ≡ NotLawful) ⊎ (fault ≡ Closed)

  -- a local step changes the part of its worker alone
  pub record ChangesOnePart (world : World P) (step : Step) : Type 0 where
    pub others : (v : ℕ) → ¬ (worker_of sim step ≡ Some v) → slice_get (next sim world step).world.parts v ≡ slice_get world.parts v
    pub inboxes : (next sim world step).world.inboxes ≡ world.inboxes
    pub board : (next sim world step).world.board ≡ world.board
    pub book : (next sim world step).world.book ≡ world.book

  -- only a report is answered otherwise than done
  pub record IsReplyRight (world : World P) (step : Step) : Type 0 where
    pub reported : (w : ℕ) (reply : Reply) → step ≡ Report w → (next sim world step).answer ≡ Ok reply → IsReportReply world (next sim world step).world reply
    pub others : (reply : Reply) → ((w : ℕ) → ¬ (step ≡ Report w)) → (next sim world step).answer ≡ Ok reply → reply ≡ Done

  -- letters are made by Execute and Undo and vanish by Execute and Cancel, and by no other step
  pub record AreLettersRight (world : World P) : Type 0 where
    pub executed : (p : ℕ) → (next sim world (Execute p)).answer ≡ Ok Done →
        (entry : Entry P) × IsMessageExecuted entry world (next sim world (Execute p)).world
    pub undone : (p : ℕ) → (next sim world (Undo p)).answer ≡ Ok Done →
        (entry : Entry P) × IsEventUndone entry world (next sim world (Undo p)).world
    pub cancelled : (p : ℕ) (stamp : Stamp) → (next sim world (Cancel p stamp)).answer ≡ Ok Done →
        (message anti_message : Event P) × (message.rank.stamp ≡ stamp) × (anti_message.rank ≡ message.rank)
        × AreBothGone message anti_message world (next sim world (Cancel p stamp)).world
    pub kept : (step : Step) → ((p : ℕ) → ¬ (step ≡ Execute p)) → ((p : ℕ) → ¬ (step ≡ Undo p)) → ((p : ℕ) (stamp : Stamp) → ¬ (step ≡ Cancel p stamp)) →
        AreLettersKept world (next sim world step).world

  -- ---- one part and one cell

  -- a step does to a world what `act` does to the part of its worker and to its cell; where one of the two is not there, it
  -- is refused
  pub record ActsOnOneCell (world : World P) (step : Step) : Type 0 where
    pub acts : (w : ℕ) (name : CellName) (part : Part P) (cell : Cell P) → IsAny (worker_of sim step) w → IsAny (cell_of sim step) name →
        slice_get world.parts w ≡ Some part → content world name ≡ Some cell → next sim world step ≡ put_back world w name (act sim step part cell)
    pub no_worker : (w : ℕ) → worker_of sim step ≡ Some w → slice_get world.parts w ≡ None → IsRefused world step
    pub no_cell : (name : CellName) → cell_of sim step ≡ Some name → content world name ≡ None → IsRefused world step

  -- a local step leaves the cell as it is, whatever cell it is paired with, and does the same with each
  pub record LeavesCells (step : Step) (part : Part P) : Type 0 where
    pub same_cell : (cell : Cell P) → (act sim step part cell).cell ≡ cell
    pub same_part : (cell other : Cell P) → (act sim step part cell).part ≡ (act sim step part other).part
    pub same_answer : (cell other : Cell P) → (act sim step part cell).answer ≡ (act sim step part other).answer
