-- What a value in memory stands for. Memory keeps no committed events, and changes the state of a process in place. So a
-- value stands for every world that has its other fields, and in which committed events lead to where its past begins.
use Rattle.std.specs.Prelude.{◌≡◌, ℕ, ◌+◌, List, [], ◌∷◌, map, Result}
use Rattle.vt_key.specs.declared.letter.Event.{Event}
use Rattle.vt_key.specs.declared.letter.Letter.{Letter}
use Rattle.vt_key.specs.declared.fault.Fault.{Fault}
use Rattle.vt_model.specs.declared.rows.Row.{Row}
use Rattle.vt_model.specs.promise.Simulation.{Simulation, Triple, Fired}
use Rattle.vt_steps.specs.declared.step.Step.{Step}
use Rattle.vt_steps.specs.declared.step.Reply.{Reply}
use Rattle.vt_steps.specs.promise.Letters.{unstamped}
use Rattle.vt_steps.specs.promise.World.{Entry, LogicalProcess, PartOf, Part, WorldOf, World, triple_after, process_at}
use Rattle.vt_steps.specs.promise.Next.{next, run, reached}

-- what memory keeps of a past event: the event, what it sent, its rows, and the way back: where the process stands once the
-- event is undone, by where it stood after it
pub record Remembered (S P : Type 0) : Type 0 where
  pub event : Event P
  pub sent : List (Event P)
  pub rows : List Row
  pub back : Triple S → Triple S

-- what memory keeps of a process: where it stands now, its past, and its pending and waiting letters
pub record ProcessMemory (S P : Type 0) : Type 0 where
  pub triple : Triple S
  pub past : List (Remembered S P)
  pub pending : List (Letter P)
  pub waiting : List (Letter P)

-- what memory keeps of a part
abbrev pub PartMemory : Type 0 → Type 0 → Type 0
PartMemory S P = PartOf (ProcessMemory S P) P

-- what memory keeps of a world
abbrev pub WorldMemory : Type 0 → Type 0 → Type 0
WorldMemory S P = WorldOf (ProcessMemory S P) P

-- the entry that is remembered
abbrev pub entry_of : {S P : Type 0} → Remembered S P → Entry P
entry_of e = record { event = e.event; sent = e.sent }

module _ {S P : Type 0} (sim : Simulation S P) where
  -- what the event of a remembered entry does to process p, standing there
  abbrev pub fired_at : ℕ → Triple S → Remembered S P → Fired S P
  fired_at p before e = sim.fire p before (unstamped e.event)

  -- an entry is rightly remembered by process p, which stood there before it: its way back leads there again, and what it
  -- sent and its rows are those of its event
  pub record IsRemembered (p : ℕ) (before : Triple S) (e : Remembered S P) : Type 0 where
    pub back : e.back (fired_at p before e).triple ≡ before
    pub sent : map unstamped e.sent ≡ (fired_at p before e).sends
    pub rows : e.rows ≡ (fired_at p before e).rows

  -- remembered entries lead process p from where it stood before them, through each of them, to where it stands now
  abbrev pub LeadTo : ℕ → Triple S → List (Remembered S P) → Triple S → Type 0
  LeadTo p before [] now = before ≡ now
  LeadTo p before (e ∷ es) now = IsRemembered p before e × LeadTo p (fired_at p before e).triple es now

  -- a value stands for process p: it has the process's past, pending and waiting, and its past leads from where the
  -- committed entries leave the process to where it stands now
  pub record StandsForProcess (p : ℕ) (memory : ProcessMemory S P) (process : LogicalProcess P) : Type 0 where
    pub past : process.past ≡ map entry_of memory.past
    pub pending : process.pending ≡ memory.pending
    pub waiting : process.waiting ≡ memory.waiting
    pub leads : LeadTo p (triple_after sim p process.done) memory.past memory.triple

  -- values stand for the processes of worker w from this index on, one by one
  abbrev pub StandForProcesses : ℕ → ℕ → List (ProcessMemory S P) → List (LogicalProcess P) → Type 0
  StandForProcesses w index [] [] = Unit {0}
  StandForProcesses w index (memory ∷ memories) (process ∷ processes) =
      StandsForProcess (process_at sim w index) memory process × StandForProcesses w (index + 1) memories processes
  StandForProcesses w index _ _ = ⊥

  -- a value stands for the part of worker w: it stands for its processes, and has its other fields
  pub record StandsForPart (w : ℕ) (memory : PartMemory S P) (part : Part P) : Type 0 where
    pub processes : StandForProcesses w 0 memory.processes part.processes
    pub outbox : part.outbox ≡ memory.outbox
    pub arrived : part.arrived ≡ memory.arrived
    pub colour : part.colour ≡ memory.colour
    pub sent : part.sent ≡ memory.sent
    pub got : part.got ≡ memory.got
    pub red_minimum : part.red_minimum ≡ memory.red_minimum
    pub floor : part.floor ≡ memory.floor
    pub serial : part.serial ≡ memory.serial

  -- values stand for the parts from worker w on, one by one
  abbrev pub StandForParts : ℕ → List (PartMemory S P) → List (Part P) → Type 0
  StandForParts w [] [] = Unit {0}
  StandForParts w (memory ∷ memories) (part ∷ parts) = StandsForPart w memory part × StandForParts (w + 1) memories parts
  StandForParts w _ _ = ⊥

  -- a value stands for a world: it stands for its parts, and has its inboxes, board and book
  pub record StandsFor (memory : WorldMemory S P) (world : World P) : Type 0 where
    pub parts : StandForParts 0 memory.parts world.parts
    pub inboxes : world.inboxes ≡ memory.inboxes
    pub board : world.board ≡ memory.board
    pub book : world.book ≡ memory.book

  -- ---- steps of values

  -- a value goes on by a step: whatever world it stood for, the answer is that world's, and it now stands for the world
  -- after the step
  abbrev pub GoesOn : Step → Result Reply Fault → WorldMemory S P → WorldMemory S P → Type 0
  GoesOn step answer old new =
      (world : World P) → StandsFor old world →
      ((next sim world step).answer ≡ answer) × StandsFor new (next sim world step).world

  -- a value goes on by a list of steps
  abbrev pub RunsTo : List Step → WorldMemory S P → WorldMemory S P → Type 0
  RunsTo steps old new = (world : World P) → StandsFor old world → StandsFor new (run sim world steps)

  -- a value stands for a reached world
  abbrev pub StandsForReached : ℕ → WorldMemory S P → Type 0
  StandsForReached serial memory = (steps : List Step) × StandsFor memory (reached sim serial steps)
