-- What a world keeps in memory, and which worlds of the definitions it stands for.
use Rattle.std.specs.Prelude.{◌≡◌, ℕ, ◌+◌, List, [], ◌∷◌, ◌++◌, map, length, Result, Ok, IfOk, IfErr}
use Rattle.std.specs.List.{flat_map}
use Rattle.vt_key.specs.promise.Times.{Time}
use Rattle.vt_key.specs.declared.letter.Mail.{Mail}
use Rattle.vt_key.specs.declared.fault.Fault.{Fault}
use Rattle.vt_model.specs.declared.settings.Config.{Config}
use Rattle.vt_model.specs.promise.Handler.{Handlers}
use Rattle.vt_model.specs.promise.Simulation.{simulation_of}
use Rattle.vt_model.specs.promise.Settings.{end_of}
use Rattle.vt_steps.specs.declared.step.Step.{Step}
use Rattle.vt_steps.specs.declared.step.Reply.{Reply}
use Rattle.vt_steps.specs.promise.Letters.{least_time}
use Rattle.vt_steps.specs.promise.World.{Board, Book, World}
use Rattle.vt_steps.specs.promise.Next.{next}
use Rattle.vt_steps.specs.inside.StandsFor.{WorldMemory, StandsFor, StandsForReached, GoesOn}
use Rattle.vt_kernel.specs.inside.Held.{HeldWorker, part_memory, AllOwnMail}
use Rattle.vt_kernel.specs.inside.Guards.{held_letters}
use Rattle.vt_kernel.specs.promise.Refusals.{PassesLimit, IsStepRefusal}

-- what a contract sees of a world in memory: its model and config, its workers, the inboxes, the board and the book. It stays flat, as
-- `HeldWorker` does
pub record HeldWorld (M S P K : Type 0) : Type 0 where
  pub model : M
  pub config : Config
  pub workers : List (HeldWorker S P K)
  pub inboxes : List (List (Mail P))
  pub board : Board
  pub book : Book

-- one with these fields
abbrev pub held_world : {M S P K : Type 0} → M → Config → List (HeldWorker S P K) → List (List (Mail P)) → Board → Book → HeldWorld M S P K
held_world model config workers inboxes board book = record { model = model; config = config; workers = workers; inboxes = inboxes; board = board; book = book }

module _ {M S P K : Type 0} (handlers : Handlers S P K) where
  -- what it is as memory of a world of the definitions
  abbrev pub world_memory : HeldWorld M S P K → WorldMemory S P
  world_memory held = record {
    parts = map (part_memory handlers) held.workers;
    inboxes = held.inboxes;
    board = held.board;
    book = held.book;
  }

  -- the value stands for this world of the definitions
  abbrev pub StandsForWorld : HeldWorld M S P K → World P → Type 0
  StandsForWorld held world = StandsFor (simulation_of handlers held.config) (world_memory held) world

  -- the value stands for the world after some list of steps from the opening one, with serials from this one on
  abbrev pub IsReached : ℕ → HeldWorld M S P K → Type 0
  IsReached serial held = StandsForReached (simulation_of handlers held.config) serial (world_memory held)

-- the least time of all that is unprocessed or travelling: in outboxes, arrived, pending, waiting and in inboxes
abbrev pub least_held : {M S P K : Type 0} → HeldWorld M S P K → Time
least_held held =
    least_time (end_of held.config) (flat_map held_letters held.workers ++ map (λ mail. mail.letter) (flat_map (λ inbox. inbox) held.inboxes))

-- what a call that does a step answers and leaves, whatever world the value stands for: where it is done, it was lawful and
-- answered so, the value stands for the world after it, and no counter that it raises is past its limit; where it is refused, it
-- says why, and the value is as it was. The model and the config stay
pub record IsHeldStepOf {M S P K : Type 0} (handlers : Handlers S P K) (step : Step) (old new : HeldWorld M S P K) (result : Result Reply Fault) : Type 0 where
  pub done : IfOk result (λ reply. GoesOn (simulation_of handlers old.config) step (Ok reply) (world_memory handlers old) (world_memory handlers new))
  pub within : (world : World P) → StandsForWorld handlers old world
      → IfOk result (λ reply. PassesLimit (simulation_of handlers old.config) step (next (simulation_of handlers old.config) world step).world → ⊥)
  pub refused : (world : World P) → StandsForWorld handlers old world → IfErr result (λ fault. IsStepRefusal (simulation_of handlers old.config) step world fault)
  pub unchanged : IfErr result (λ fault. new ≡ old)
  pub same_model : new.model ≡ old.model
  pub same_config : new.config ≡ old.config

-- ---- what a world in memory keeps to

module _ {S P K : Type 0} where
  -- the workers from this one on
  abbrev pub AreWorkers : Config → ℕ → List (HeldWorker S P K) → Type 0
  AreWorkers config w [] = Unit {0}
  AreWorkers config w (held ∷ rest) = (held.worker ≡ w) × (held.config ≡ config) × AreWorkers config (w + 1) rest

module _ {P : Type 0} where
  -- the inboxes from this worker's on hold mail for their workers
  abbrev pub AreInboxes : Config → ℕ → List (List (Mail P)) → Type 0
  AreInboxes config w [] = Unit {0}
  AreInboxes config w (inbox ∷ rest) = AllOwnMail config w inbox × AreInboxes config (w + 1) rest

-- how the fields of a world go together: it has its workers and their inboxes, the board and the book are of its end, and it
-- stands for the world after some list of steps from an opening one
pub record IsWorldInside {M S P K : Type 0} (handlers : Handlers S P K) (held : HeldWorld M S P K) (board_end book_end : Time) : Type 0 where
  pub all_workers : length held.workers ≡ held.config.workers
  pub own_workers : AreWorkers held.config 0 held.workers
  pub all_inboxes : length held.inboxes ≡ held.config.workers
  pub own_inboxes : AreInboxes held.config 0 held.inboxes
  pub same_board_end : board_end ≡ (end_of held.config)
  pub same_book_end : book_end ≡ (end_of held.config)
  pub is_reached : ∥ ((serial : ℕ) × IsReached handlers serial held) ∥₁
