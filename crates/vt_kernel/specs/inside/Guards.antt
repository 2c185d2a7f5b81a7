-- What the calls of a worker answer and leave, by the steps of a world's part.
use Rattle.std.specs.Prelude.{◌≡◌, ℕ, ◌⊎◌, ◌%◌, ◌^◌, Bool, true, false, List, ◌++◌, Option, Some, None}
use Rattle.std.specs.List.{last_or}
use Rattle.std.specs.Option.{option_map_or}
use Rattle.vt_key.specs.promise.Times.{Time}
use Rattle.vt_key.specs.declared.order.Stamp.{Stamp}
use Rattle.vt_key.specs.declared.letter.Letter.{Letter}
use Rattle.vt_key.specs.declared.letter.Mail.{Mail}
use Rattle.vt_key.specs.declared.letter.Colour.{Colour}
use Rattle.vt_key.specs.declared.fault.Fault.{Fault}
use Rattle.vt_key.specs.declared.fault.Fault.TheVariants.{Memory, NotLawful, Exhausted}
use Rattle.vt_model.specs.promise.Handler.{Handlers}
use Rattle.vt_model.specs.promise.Simulation.{Simulation}
use Rattle.vt_steps.specs.declared.step.Step.{Step}
use Rattle.vt_steps.specs.declared.step.Step.TheVariants.{Execute, Send}
use Rattle.vt_steps.specs.promise.World.{LogicalProcess, Part, letters_of_worker}
use Rattle.vt_steps.specs.promise.PartSteps.{part_after_send, process_after_commit}
use Rattle.vt_steps.specs.promise.CellSteps.{may_send}
use Rattle.vt_steps.specs.promise.ProcessSteps.{can_annihilate}
use Rattle.vt_steps.specs.inside.Cells.{local_steps}
use Rattle.vt_lp.specs.inside.Held.{HeldProcess, StandsFor as ProcessStandsFor}
use Rattle.vt_lp.specs.inside.Past.{must_undo_last}
use Rattle.vt_kernel.specs.inside.Held.{HeldWorker, StandsFor, process_of}
use Rattle.vt_kernel.specs.inside.Local.{IsSettled, AreSettling, count_undos}
use Rattle.vt_kernel.specs.promise.Refusals.{PassesIn}

-- a step is done: it was lawful, and the worker stands for the part after it
pub record IsDone {S P K : Type 0} (handlers : Handlers S P K) (new : HeldWorker S P K) (step : Option (Part P)) : Type 0 where
  pub part : Part P
  pub lawful : step ≡ Some part
  pub stands : StandsFor handlers new part

-- why Accept is refused: it is not lawful; or it is, and memory was refused
abbrev pub IsAcceptRefusal : {P : Type 0} → Option (Part P) → Fault → Type 0
IsAcceptRefusal None fault = fault ≡ NotLawful
IsAcceptRefusal (Some part) fault = fault ≡ Memory

module _ {S P : Type 0} (sim : Simulation S P) where
  -- why Execute of process p is refused: it is not lawful; or it is, and the send number or the serial would pass its limit;
  -- or neither would, and memory was refused
  abbrev pub IsExecuteRefusal : ℕ → Option (Part P) → Fault → Type 0
  IsExecuteRefusal p None fault = fault ≡ NotLawful
  IsExecuteRefusal p (Some part) fault =
      ((fault ≡ Exhausted) × PassesIn sim (Execute p) part 0) ⊎ ((fault ≡ Memory) × (PassesIn sim (Execute p) part 0 → ⊥))

  -- why Send from worker w to v is refused: it is not lawful; or it is, and the count of mail sent would pass its limit; or it
  -- would not, and memory was refused
  abbrev pub IsSendRefusal : ℕ → ℕ → Part P → Fault → Type 0
  IsSendRefusal w v part fault =
      ((fault ≡ NotLawful) × (may_send sim.workers w v part.outbox ≡ false))
      ⊎ ((may_send sim.workers w v part.outbox ≡ true)
      × (((fault ≡ Exhausted) × PassesIn sim (Send w v) (part_after_send sim v part) 0)
      ⊎ ((fault ≡ Memory) × (PassesIn sim (Send w v) (part_after_send sim v part) 0 → ⊥))))

  -- Undo and Cancel at process p, as often as one is lawful: steps of these two kinds lead from one part to another, at which
  -- neither is lawful any more; so many of them were Undo, modulo 2^64
  pub record SettlesTo (w p : ℕ) (part new : Part P) (undone : ℕ) : Type 0 where
    pub steps : List Step
    pub settling : AreSettling p steps
    pub led : local_steps sim w steps part ≡ Some new
    pub settled : IsSettled sim w p new
    pub counted : undone ≡ count_undos steps % 2 ^ 64

-- the letter as mail of this colour
abbrev pub mailed : {P : Type 0} → Colour → Letter P → Mail P
mailed colour letter = record { letter = letter; colour = colour }

-- all letters that a worker has: in its outbox, arrived, pending and waiting
abbrev pub held_letters : {S P K : Type 0} → HeldWorker S P K → List (Letter P)
held_letters held = letters_of_worker (λ process. process.pending ++ process.waiting) held.outbox held.arrived held.processes

-- a process after it committed below a floor: whatever process it stood for, it stands for the one after; what is pending or
-- waits there stays
pub record IsForgotten {S P K : Type 0} (floor : Time) (old new : HeldProcess S P K) : Type 0 where
  pub committed : (handlers : Handlers S P K) (process : LogicalProcess P) → ProcessStandsFor handlers old process → ProcessStandsFor handlers new (process_after_commit floor process)
  pub lp : new.lp ≡ old.lp
  pub config : new.config ≡ old.config
  pub pending : new.pending ≡ old.pending
  pub waiting : new.waiting ≡ old.waiting

module _ {S P K : Type 0} (held : HeldWorker S P K) (p : ℕ) where
  -- process p is one of the worker's, and a letter forces the undo of its last past event
  abbrev pub has_to_undo : Bool
  has_to_undo = option_map_or (λ process. must_undo_last process.pending process.waiting (last_or None process.past)) (process_of held p) false

  -- process p is one of the worker's, and its letters of this stamp annihilate each other
  abbrev pub may_annihilate : Stamp → Bool
  may_annihilate stamp = option_map_or (λ process. can_annihilate stamp process.pending process.waiting) (process_of held p) false
