-- What the calls of a worker answer that do several steps.
use Rattle.std.specs.Prelude.{◌≡◌, ℕ, Bool, true, ◌||◌, List, [], ◌∷◌, drop, false}
use Rattle.std.specs.List.{flat_map, list_any}
use Rattle.vt_key.specs.promise.Lists.{Among}
use Rattle.vt_key.specs.promise.Order.{rank_before, stamp_same}
use Rattle.vt_key.specs.promise.Queues.{letter_rank, has_stamp}
use Rattle.vt_key.specs.declared.fault.Fault.{Fault}
use Rattle.vt_key.specs.declared.letter.Letter.{Letter}
use Rattle.vt_key.specs.declared.letter.Mail.{Mail}
use Rattle.vt_key.specs.declared.letter.Sign.{Sign}
use Rattle.vt_key.specs.declared.letter.Sign.TheVariants.{Plus, Minus}
use Rattle.vt_key.specs.declared.order.Stamp.{Stamp}
use Rattle.vt_model.specs.promise.Handler.{Handlers}
use Rattle.vt_model.specs.promise.Simulation.{simulation_of}
use Rattle.vt_steps.specs.declared.step.Step.TheVariants.{Execute}
use Rattle.vt_steps.specs.promise.World.{Part}
use Rattle.vt_lp.specs.inside.Held.{HeldProcess}
use Rattle.vt_kernel.specs.inside.Held.{HeldWorker, StandsFor}
use Rattle.vt_kernel.specs.inside.Guards.{IsExecuteRefusal}
use Rattle.vt_kernel.specs.inside.Steps.{part_after}
use Rattle.vt_pool.specs.inside.Executing.{IsLedBy}
use Rattle.vt_pool.specs.inside.Share.{HeldPool, HeldShare, seen, with_pool}
use Rattle.vt_pool.specs.inside.Steps.{LeadsTo}

module _ {S P K : Type 0} where
  -- whether a process has a letter of this sign and stamp: a message that is pending or past, an anti-message that waits
  abbrev pub has_stamped : Sign → Stamp → HeldProcess S P K → Bool
  has_stamped Plus stamp process = list_any (has_stamp stamp) process.pending || list_any (λ e. stamp_same e.letter.event.rank.stamp stamp) process.past
  has_stamped Minus stamp process = list_any (has_stamp stamp) process.waiting

  -- of the mail that arrived the first that is left can't be accepted: one of its sign and stamp is held
  pub record IsHeldMail (old new : HeldWorker S P K) : Type 0 where
    pub accepted : ℕ
    pub mail : Mail P
    pub rest : List (Mail P)
    pub left : new.arrived ≡ mail ∷ rest
    pub others : new.arrived ≡ drop accepted old.arrived
    pub is_held : list_any (has_stamped mail.letter.sign (letter_rank mail.letter).stamp) new.processes ≡ true

  -- the messages that are pending at processes of the worker
  abbrev pub all_pending : HeldWorker S P K → List (Letter P)
  all_pending held = flat_map (λ process. process.pending) held.processes

  -- a message is pending at a process of the worker, and none that is pending at one is before it
  pub record IsLeastPending (held : HeldWorker S P K) (letter : Letter P) : Type 0 where
    pub there : Among letter (all_pending held)
    pub least : (other : Letter P) → Among other (all_pending held) → rank_before (letter_rank other) (letter_rank letter) ≡ false

  -- no message is pending at a process of the worker
  abbrev pub HasNothingPending : HeldWorker S P K → Type 0
  HasNothingPending held = all_pending held ≡ []

module _ {S P K : Type 0} (handlers : Handlers S P K) where
  -- steps of a worker lead on from where this mail has arrived; so many letters of its front are accepted then
  abbrev pub AcceptsFirst : ℕ → List (Mail P) → HeldPool S P K → HeldPool S P K → Type 0
  AcceptsFirst count mails old new =
      (rest : HeldShare S P K) → LeadsTo handlers (seen (with_pool (record rest { arrived = mails }) old)) (seen (with_pool (record rest { arrived = drop count mails }) new))

  -- Execute at some process of the worker and then other steps of the worker alone, each lawful, lead from each part that the old value stands
  -- for to one that the new value stands for. No message that is pending at a process is before the one that is executed
  pub record ExecutesNext (old new : HeldWorker S P K) : Type 0 where
    pub letter : Letter P
    pub least : IsLeastPending old letter
    pub steps : (part : Part P) → StandsFor handlers old part → IsLedBy handlers (Execute letter.event.dest) old part new

  -- why the least pending message isn't executed: the send number of its process or the serial would pass its limit; or neither would, and
  -- memory was refused
  pub record IsNextRefusal (old : HeldWorker S P K) (fault : Fault) : Type 0 where
    pub letter : Letter P
    pub least : IsLeastPending old letter
    pub refused : (part : Part P) → StandsFor handlers old part
        → IsExecuteRefusal (simulation_of handlers old.config) letter.event.dest (part_after handlers old (Execute letter.event.dest) part) fault
