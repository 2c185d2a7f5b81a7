-- What a call answers and leaves that does a step on a kernel and on what a cell holds.
use Rattle.std.specs.Prelude.{◌≡◌, ℕ, ◌⊎◌, true, false, List, Some, Result, Ok, Err, IfOk, IfErr, slice_get}
use Rattle.vt_key.specs.declared.fault.Fault.{Fault}
use Rattle.vt_key.specs.declared.fault.Fault.TheVariants.{Memory, NotLawful, Exhausted, Closed}
use Rattle.vt_model.specs.declared.rows.Row.{Row}
use Rattle.vt_model.specs.declared.settings.Config.{Config}
use Rattle.vt_model.specs.promise.Handler.{Handlers}
use Rattle.vt_model.specs.promise.Histories.{IsLawful}
use Rattle.vt_model.specs.promise.Simulation.{Simulation, simulation_of}
use Rattle.vt_steps.specs.declared.step.Step.{Step}
use Rattle.vt_steps.specs.declared.step.Step.TheVariants.{Commit}
use Rattle.vt_steps.specs.declared.step.Reply.{Reply}
use Rattle.vt_steps.specs.declared.step.Reply.TheVariants.{Done}
use Rattle.vt_steps.specs.promise.World.{Part, Book}
use Rattle.vt_steps.specs.promise.PartSteps.{part_after_commit, rows_of_commit}
use Rattle.vt_steps.specs.promise.BookSteps.{may_close}
use Rattle.vt_steps.specs.promise.Next.{reached}
use Rattle.vt_steps.specs.inside.Cells.{Cell, on_board, in_book, act}
use Rattle.vt_book.specs.inside.Books.{RunBook}
use Rattle.vt_kernel.specs.inside.Held.{HeldWorker, StandsFor}
use Rattle.vt_kernel.specs.promise.Refusals.{PassesIn, TakesMemory}

-- the number of rounds on a cell that is the board; other cells tell of none
abbrev pub rounds_of : {P : Type 0} → Cell P → ℕ
rounds_of (on_board board) = board.rounds
rounds_of _ = 0

-- why a step on a part and a cell is refused: as the definitions refuse it; or it is lawful, and a counter would pass its
-- limit; or none would, and memory was refused
abbrev pub IsCellRefusal : {S P : Type 0} → Simulation S P → Step → Part P → Cell P → Fault → Type 0
IsCellRefusal sim step part cell fault =
    let acted = act sim step part cell in
    (acted.answer ≡ Err fault)
    ⊎ ((reply : Reply) × (acted.answer ≡ Ok reply)
    × (((fault ≡ Exhausted) × PassesIn sim step acted.part (rounds_of acted.cell))
    ⊎ ((fault ≡ Memory) × TakesMemory sim step × (PassesIn sim step acted.part (rounds_of acted.cell) → ⊥))))

module _ {S P K : Type 0} (handlers : Handlers S P K) where
  -- a step does this to the kernel's part, whatever part it stands for, and to a cell
  pub record Acts (config : Config) (step : Step) (reply : Reply) (before : HeldWorker S P K) (cell : Cell P) (left : HeldWorker S P K) (after : Cell P) : Type 0 where
    pub acts : (part : Part P) → StandsFor handlers before part →
        (new : Part P) × (act (simulation_of handlers config) step part cell ≡ record { part = new; cell = after; answer = Ok reply }) × StandsFor handlers left new
    pub worker : left.worker ≡ before.worker
    pub config_is : left.config ≡ before.config

  -- a step on a kernel and on what a cell holds. Where it is done, it does so to whatever part the kernel stands for, and no
  -- counter that it raises is past its limit. Where it is refused, it says why, and the kernel and the cell are as they were
  pub record IsCellStepOf (config : Config) (step : Step) (old new : HeldWorker S P K) (found left : Cell P) (result : Result Reply Fault) : Type 0 where
    pub done : IfOk result (λ reply. Acts config step reply old found new left)
    pub within : (part : Part P) → StandsFor handlers new part → IfOk result (λ reply. PassesIn (simulation_of handlers config) step part (rounds_of left) → ⊥)
    pub refused : (part : Part P) → StandsFor handlers old part → IfErr result (IsCellRefusal (simulation_of handlers config) step part found)
    pub unchanged : IfErr result (λ fault. (new ≡ old) × (left ≡ found))

-- an answer as that of a step, by the reply that its value stands for
abbrev pub answer_as : {X : Type 0} → (X → Reply) → Result X Fault → Result Reply Fault
answer_as reply (Ok x) = Ok (reply x)
answer_as reply (Err fault) = Err fault

-- ---- commits

-- rows are all that a kernel commits, whatever part it stands for; or there are none, since memory was refused
abbrev pub IsBatchOf : {S P K : Type 0} → HeldWorker S P K → Result (List Row) Fault → Type 0
IsBatchOf {S} {P} {K} k batch =
    (handlers : Handlers S P K) (part : Part P) → StandsFor handlers k part → IfOk batch (λ rows. rows ≡ rows_of_commit (simulation_of handlers k.config) k.worker part)

-- why a hand-in is refused: the book is closed; or it is open, and memory was refused
abbrev pub IsHandInRefusal : Book → Fault → Type 0
IsHandInRefusal book fault = ((fault ≡ Closed) × (book.is_closed ≡ true)) ⊎ ((fault ≡ Memory) × (book.is_closed ≡ false))

-- why a close is refused: the book is closed; or it is open, and its floor isn't the end
abbrev pub IsClosingRefusal : RunBook → Fault → Type 0
IsClosingRefusal of fault = ((fault ≡ Closed) × (of.book.is_closed ≡ true)) ⊎ ((fault ≡ NotLawful) × (of.book.is_closed ≡ false) × (may_close of.end of.book ≡ false))

module _ {S P K : Type 0} (handlers : Handlers S P K) where
  -- the world after some list of steps has this book, and this kernel stands for the part of its worker there
  pub record AreReached (k : HeldWorker S P K) (book : Book) : Type 0 where
    pub serial : ℕ
    pub steps : List Step
    pub part : Part P
    pub there : slice_get (reached (simulation_of handlers k.config) serial steps).parts k.worker ≡ Some part
    pub stands : StandsFor handlers k part
    pub book_is : (reached (simulation_of handlers k.config) serial steps).book ≡ book

  -- a kernel and a book are of one world of a lawful simulation
  abbrev pub AreOfOneWorld : HeldWorker S P K → Book → Type 0
  AreOfOneWorld k book = IsLawful (simulation_of handlers k.config) × ∥ AreReached k book ∥₁

  -- the commit of a worker does this to a cell, whatever part the kernel stands for
  abbrev pub CommitsTo : Config → ℕ → HeldWorker S P K → Cell P → Cell P → Type 0
  CommitsTo config w k found left =
      (part : Part P) → StandsFor handlers k part → act (simulation_of handlers config) (Commit w) part found ≡ record { part = part_after_commit part; cell = left; answer = Ok Done }

  -- a commit of a kernel that still keeps what it commits. Where it is done, it does so to the book; where it is refused, it says
  -- why, and the book is as it was
  pub record IsHandInOf (config : Config) (w : ℕ) (k : HeldWorker S P K) (found left : Book) (result : Result (Unit {0}) Fault) : Type 0 where
    pub done : IfOk result (λ _. CommitsTo config w k (in_book found) (in_book left))
    pub refused : (part : Part P) → StandsFor handlers k part → IfErr result (IsCellRefusal (simulation_of handlers config) (Commit w) part (in_book found))
    pub unchanged : IfErr result (λ fault. left ≡ found)
