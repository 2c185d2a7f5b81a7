-- What the calls of a process answer and leave, by the steps of a world's process.
use Rattle.std.specs.Prelude.{◌≡◌, ℕ, ◌+◌, ◌<◌, ◌⊎◌, Bool, List, [], ◌∷◌, ◌++◌, if◌then◌else◌, Option, Some, None}
use Rattle.std.specs.List.{last_or}
use Rattle.vt_key.specs.promise.Order.{rank_before}
use Rattle.vt_key.specs.declared.limits.TheConstants.{MAX_COUNT}
use Rattle.vt_key.specs.declared.order.Rank.{Rank}
use Rattle.vt_key.specs.declared.letter.Letter.{Letter}
use Rattle.vt_key.specs.declared.letter.Sign.{Sign}
use Rattle.vt_key.specs.declared.fault.Fault.{Fault}
use Rattle.vt_key.specs.declared.fault.Fault.TheVariants.{Memory, NotLawful, Exhausted}
use Rattle.vt_model.specs.promise.Handler.{Handlers}
use Rattle.vt_model.specs.promise.Simulation.{Simulation}
use Rattle.vt_steps.specs.promise.ProcessSteps.{ProcessEffect, may_follow, holds}
use Rattle.vt_past.specs.declared.event.PastEvent.{PastEvent}
use Rattle.vt_lp.specs.inside.Held.{HeldProcess, StandsFor}
use Rattle.vt_lp.specs.promise.Guards.{number_of}

-- a step is done: it was lawful; the process stands for the one after it, its letters went to the back of the outbox, and it
-- took its serials
pub record IsDone {S P K : Type 0} (handlers : Handlers S P K) (new : HeldProcess S P K) (step : Option (ProcessEffect P))
    (outbox new_outbox : List (Letter P)) (serial new_serial : ℕ) : Type 0 where
  pub effect : ProcessEffect P
  pub lawful : step ≡ Some effect
  pub stands : StandsFor handlers new effect.process
  pub letters : new_outbox ≡ outbox ++ effect.letters
  pub serials : new_serial ≡ serial + effect.serials

module _ {S P : Type 0} (sim : Simulation S P) (p : ℕ) where
  -- after this effect the send number or the serial would pass its limit
  abbrev pub IsExhausted : ℕ → ProcessEffect P → Type 0
  IsExhausted serial effect = (MAX_COUNT < number_of sim p effect.process) ⊎ (MAX_COUNT < serial + effect.serials)

  -- why Execute is refused: it is not lawful; or it is, and a counter would pass its limit; or none would, and memory was refused
  abbrev pub IsExecuteRefusal : ℕ → Option (ProcessEffect P) → Fault → Type 0
  IsExecuteRefusal serial None fault = fault ≡ NotLawful
  IsExecuteRefusal serial (Some effect) fault =
      ((fault ≡ Exhausted) × IsExhausted serial effect) ⊎ ((fault ≡ Memory) × (IsExhausted serial effect → ⊥))

module _ {P K : Type 0} where
  -- an event of this rank may follow the last past event, or none at all
  abbrev pub may_come_after : Option (PastEvent P K) → Rank → Bool
  may_come_after = may_follow (λ e. e.letter.event.rank)

  -- the rank of the event that Execute would execute, if it is lawful
  abbrev pub ready_rank : List (Letter P) → List (PastEvent P K) → Option Rank
  ready_rank [] past = None
  ready_rank (least ∷ rest) past = if may_come_after (last_or None past) least.event.rank then Some least.event.rank else None

  -- whether a letter of this sign and rank is held
  abbrev pub holds_letter : List (Letter P) → List (Letter P) → List (PastEvent P K) → Sign → Rank → Bool
  holds_letter = holds (λ e. e.letter.event.rank)

module _ {P : Type 0} where
  -- the lesser of the ranks of two letters that may be there
  abbrev pub lesser_rank : Option (Letter P) → Option (Letter P) → Option Rank
  lesser_rank None None = None
  lesser_rank (Some a) None = Some a.event.rank
  lesser_rank None (Some b) = Some b.event.rank
  lesser_rank (Some a) (Some b) = if rank_before b.event.rank a.event.rank then Some b.event.rank else Some a.event.rank
