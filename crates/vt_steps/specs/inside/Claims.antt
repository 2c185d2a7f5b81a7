-- What is claimed of every run.
use Rattle.std.specs.Prelude.{◌≡◌, ℕ, ◌<◌, ◌⊎◌, IsTrue, ◌++◌, length, slice_get, false, Some, Ok, true}
use Rattle.std.specs.List.{AllPairs, find}
use Rattle.vt_key.specs.promise.Times.{Time, TimeAtMost}
use Rattle.vt_key.specs.declared.order.Stamp.{Stamp}
use Rattle.vt_key.specs.declared.letter.Letter.{Letter}
use Rattle.vt_key.specs.declared.letter.Mail.{Mail}
use Rattle.vt_key.specs.promise.Order.{rank_before}
use Rattle.vt_key.specs.inside.Queues.{IsRising}
use Rattle.vt_model.specs.promise.Simulation.{Simulation, after}
use Rattle.vt_model.specs.promise.Sequential.{events_before, events_of, whole_run, seq_events}
use Rattle.vt_steps.specs.declared.step.Step.{Step}
use Rattle.vt_steps.specs.declared.step.Step.TheVariants.{Home, Accept, Report, Commit}
use Rattle.vt_steps.specs.declared.step.Reply.{Reply}
use Rattle.vt_steps.specs.declared.step.Reply.TheVariants.{Done}
use Rattle.vt_steps.specs.promise.World.{Entry, LogicalProcess, Part, World, entry_events, triple_after, least}
use Rattle.vt_steps.specs.promise.PartSteps.{is_for}
use Rattle.vt_steps.specs.promise.BoardSteps.{all_set}
use Rattle.vt_steps.specs.promise.Next.{next}
use Rattle.vt_steps.specs.inside.Copies.{plus, minus, IsLive, IsMade}
use Rattle.vt_steps.specs.promise.Claims.{IsProcess}

-- the ranks of what a process executed, committed or not, rise strictly
abbrev pub DoRanksRise : {P : Type 0} → LogicalProcess P → Type 0
DoRanksRise process = AllPairs (λ (a b : Entry _). rank_before a.event.rank b.event.rank ≡ true) (process.done ++ process.past)

-- the pending messages of a process are in strictly rising rank, and so are its waiting anti-messages
pub record DoQueuesRise {P : Type 0} (process : LogicalProcess P) : Type 0 where
  pub pending : IsRising process.pending
  pub waiting : IsRising process.waiting

module _ {S P : Type 0} (sim : Simulation S P) where
  -- there is a part and an inbox for each worker, and each process below lps; and there are no others
  pub record HasEach (world : World P) : Type 0 where
    pub parts : length world.parts ≡ sim.workers
    pub inboxes : length world.inboxes ≡ sim.workers
    pub part : (w : ℕ) → w < sim.workers → (part : Part P) × (slice_get world.parts w ≡ Some part)
    pub process : (p : ℕ) → p < sim.lps → (process : LogicalProcess P) × IsProcess sim world p process
    pub known : (p : ℕ) (process : LogicalProcess P) → IsProcess sim world p process → p < sim.lps

  -- a live stamp has one plus copy and no minus copy; a made stamp that is not live one of each or none; no other has any
  pub record AreCopiesRight (serial : ℕ) (world : World P) (stamp : Stamp) : Type 0 where
    pub live : IsLive sim serial world stamp → (plus world stamp ≡ 1) × (minus world stamp ≡ 0)
    pub dead : ¬ IsLive sim serial world stamp → IsMade serial world stamp →
        ((plus world stamp ≡ 1) × (minus world stamp ≡ 1)) ⊎ ((plus world stamp ≡ 0) × (minus world stamp ≡ 0))
    pub unknown : ¬ IsLive sim serial world stamp → ¬ IsMade serial world stamp → (plus world stamp ≡ 0) × (minus world stamp ≡ 0)

  -- wherever the world is quiet below a time, what each process executed before it is what the sequential run executes there
  abbrev pub AreHistoriesRight : World P → Type 0
  AreHistoriesRight world =
      (t : Time) (p : ℕ) (process : LogicalProcess P) → p < sim.lps → TimeAtMost t (least sim.end world) →
      IsProcess sim world p process → events_before t (entry_events (process.done ++ process.past)) ≡ seq_events sim p t

  -- a step is done, whatever it replies
  abbrev pub IsTaken : World P → Step → Type 0
  IsTaken world step = (reply : Reply) × ((next sim world step).answer ≡ Ok reply)

  -- the guards that never fail: a letter that comes home or is accepted is never held already, no value that is reported is
  -- below the announced time, and no floor is below the hand-in floor
  pub record DoGuardsPass (world : World P) : Type 0 where
    pub homes : (w : ℕ) (part : Part P) (letter : Letter P) → slice_get world.parts w ≡ Some part →
        find (is_for sim.workers w) part.outbox ≡ Some letter → (next sim world (Home w)).answer ≡ Ok Done
    pub accepts : (w i : ℕ) (part : Part P) (mail : Mail P) → slice_get world.parts w ≡ Some part →
        slice_get part.arrived i ≡ Some mail → (next sim world (Accept w i)).answer ≡ Ok Done
    pub reports : (w : ℕ) → IsTrue world.board.is_open → IsTrue (all_set world.board.has_cut) →
        slice_get world.board.has_reported w ≡ Some false → IsTaken world (Report w)
    pub commits : (w : ℕ) → w < sim.workers → world.book.is_closed ≡ false → (next sim world (Commit w)).answer ≡ Ok Done

  -- each process stands where the whole run leaves it
  abbrev pub AreProcessesFinal : World P → Type 0
  AreProcessesFinal world =
      (p : ℕ) (process : LogicalProcess P) → p < sim.lps → IsProcess sim world p process →
      triple_after sim p (process.done ++ process.past) ≡ after sim p (events_of p (whole_run sim))

  -- the copies, ranks and histories of a world are right
  pub record Histories (serial : ℕ) (world : World P) : Type 0 where
    pub copies : (stamp : Stamp) → AreCopiesRight serial world stamp
    pub ranks : (p : ℕ) (process : LogicalProcess P) → IsProcess sim world p process → DoRanksRise process
    pub histories : AreHistoriesRight world
