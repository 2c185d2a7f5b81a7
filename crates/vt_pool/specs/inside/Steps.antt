-- What is kept of the processes after a step, and lists of steps of one worker.
-- ---- steps at one process
use Rattle.std.specs.Prelude.{◌≡◌, ℕ, List, [], ◌∷◌, ◌++◌, Some, slice_set}
use Rattle.vt_key.specs.promise.Queues.{insert_letter, without_first, has_rank}
use Rattle.vt_key.specs.declared.letter.Letter.{Letter}
use Rattle.vt_key.specs.declared.letter.Sign.{Sign}
use Rattle.vt_key.specs.declared.letter.Sign.TheVariants.{Plus, Minus}
use Rattle.vt_key.specs.declared.order.Rank.{Rank}
use Rattle.vt_model.specs.promise.Handler.{Handlers}
use Rattle.vt_model.specs.promise.Simulation.{Triple, simulation_of}
use Rattle.vt_steps.specs.declared.step.Step.{Step}
use Rattle.vt_steps.specs.promise.World.{Part}
use Rattle.vt_steps.specs.inside.Cells.{local_steps}
use Rattle.vt_past.specs.declared.event.PastEvent.{PastEvent}
use Rattle.vt_kernel.specs.inside.Held.{HeldWorker, StandsFor}
use Rattle.vt_pool.specs.inside.View.{Stock, without_last_at}

module _ {S P K : Type 0} where
  -- after Execute at an index: the least pending letter is gone, this event is the last past one, and the process stands there
  abbrev pub executed_in : ℕ → PastEvent P K → List (Letter P) → Triple S → Stock S P K → Stock S P K
  executed_in i event rest now stock =
      record stock { triples = slice_set stock.triples i now; past = stock.past ++ record { index = i; event = event } ∷ []; pending = rest }

  -- after Undo at an index: the last past event of its process is pending again, and the process stands there
  abbrev pub undone_in : ℕ → PastEvent P K → Triple S → Stock S P K → Stock S P K
  undone_in i event now stock =
      record stock { triples = slice_set stock.triples i now; past = without_last_at i stock.past; pending = insert_letter event.letter stock.pending }

  -- after Cancel: the pending message and the waiting anti-message of a rank are gone
  abbrev pub cancelled_in : Rank → Stock S P K → Stock S P K
  cancelled_in rank stock = record stock { pending = without_first (has_rank rank) stock.pending; waiting = without_first (has_rank rank) stock.waiting }

  -- after a letter came: a message is pending, an anti-message waits
  abbrev pub received_in : Sign → Letter P → Stock S P K → Stock S P K
  received_in Plus letter stock = record stock { pending = insert_letter letter stock.pending }
  received_in Minus letter stock = record stock { waiting = insert_letter letter stock.waiting }

-- ---- lists of steps

module _ {S P K : Type 0} (handlers : Handlers S P K) where
  -- steps of a worker alone, each lawful, lead from this part to one that the value stands for
  pub record IsLedFrom (old : HeldWorker S P K) (part : Part P) (new : HeldWorker S P K) : Type 0 where
    pub steps : List Step
    pub after : Part P
    pub led : local_steps (simulation_of handlers old.config) old.worker steps part ≡ Some after
    pub stands : StandsFor handlers new after

  -- from each part that the old value stands for, steps of the worker alone lead to one that the new value stands for. It is the
  -- same worker
  pub record LeadsTo (old new : HeldWorker S P K) : Type 0 where
    pub worker : new.worker ≡ old.worker
    pub config : new.config ≡ old.config
    pub steps : (part : Part P) → StandsFor handlers old part → IsLedFrom old part new
