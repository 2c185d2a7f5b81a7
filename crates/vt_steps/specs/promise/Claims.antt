-- What is claimed of every run.
use Rattle.std.specs.Prelude.{◌≡◌, ℕ, ◌/◌, ◌%◌, IsTrue, List, ◌++◌, slice_get, Some}
use Rattle.vt_key.specs.promise.Times.{TimeAtMost}
use Rattle.vt_key.specs.declared.fault.Fault.TheVariants.{Closed}
use Rattle.vt_key.specs.promise.Lists.{IsRisingBy}
use Rattle.vt_model.specs.declared.rows.Record.{Record}
use Rattle.vt_model.specs.promise.Simulation.{Simulation}
use Rattle.vt_model.specs.promise.Sequential.{seq_rows, seq_records}
use Rattle.vt_model.specs.promise.Rows.{RowBefore}
use Rattle.vt_steps.specs.declared.step.Step.{Step}
use Rattle.vt_steps.specs.declared.step.Step.TheVariants.{Commit, Close}
use Rattle.vt_steps.specs.promise.World.{LogicalProcess, Part, World, least, book_floor, book_rows, book_records}
use Rattle.vt_steps.specs.promise.Next.{next, run, reached, refused}

module _ {S P : Type 0} (sim : Simulation S P) where
  -- this is process p of a world
  abbrev pub IsProcess : World P → ℕ → LogicalProcess P → Type 0
  IsProcess world p process =
      (part : Part P) × (slice_get world.parts (p % sim.workers) ≡ Some part)
      × (slice_get part.processes (p / sim.workers) ≡ Some process)

  -- the book's floor is not after the announced time, which is not after the least time of what is unprocessed or travelling
  pub record AreFloorsRight (world : World P) : Type 0 where
    pub floor : TimeAtMost (book_floor sim.end world.book) world.board.announced
    pub announced : TimeAtMost world.board.announced (least sim.end world)

  -- the book shows exactly the sequential run's rows below its floor, in that run's order, each key and index once
  pub record AreRecordsRight (world : World P) : Type 0 where
    pub rows : book_rows sim.end world.book ≡ seq_rows sim (book_floor sim.end world.book)
    pub once : IsRisingBy RowBefore (book_rows sim.end world.book)
    pub records : book_records sim.end world.book ≡ seq_records sim (book_floor sim.end world.book)

  -- from one world to a later one, neither the floor nor the announced time falls, and no record is taken back
  pub record NothingFalls (old new : World P) : Type 0 where
    pub floor : TimeAtMost (book_floor sim.end old.book) (book_floor sim.end new.book)
    pub announced : TimeAtMost old.board.announced new.board.announced
    pub begins : (rest : List Record) × (book_records sim.end new.book ≡ book_records sim.end old.book ++ rest)

  -- a world whose book is closed: the floor is the end of the run, and the book holds the whole run and takes nothing more
  pub record IsWhole (world : World P) : Type 0 where
    pub at_end : book_floor sim.end world.book ≡ sim.end
    pub records : book_records sim.end world.book ≡ seq_records sim sim.end
    pub no_commit : (w : ℕ) → next sim world (Commit w) ≡ refused world Closed
    pub no_close : next sim world Close ≡ refused world Closed

  -- from a world whose book is closed to a later one, the book stays as it is, and each commit and each close is refused as
  -- closed
  pub record StaysClosed (old new : World P) : Type 0 where
    pub book : new.book ≡ old.book
    pub no_commit : (w : ℕ) → next sim new (Commit w) ≡ refused new Closed
    pub no_close : next sim new Close ≡ refused new Closed

  -- the headline, of the world after a list of steps and of any more steps: the book's records are exactly the sequential
  -- run's records below the book's floor, in that run's order, each once; the announced time never falls and never exceeds
  -- the least time of any unprocessed or travelling event or anti-message; once closed, the book holds the whole run and
  -- takes nothing more, then and in any further steps
  pub record Headline (serial : ℕ) (steps : List Step) : Type 0 where
    pub floors : AreFloorsRight (reached sim serial steps)
    pub records : AreRecordsRight (reached sim serial steps)
    pub later : (more : List Step) → NothingFalls (reached sim serial steps) (run sim (reached sim serial steps) more)
    pub closed : IsTrue (reached sim serial steps).book.is_closed → IsWhole (reached sim serial steps)
    pub stays : (more : List Step) → IsTrue (reached sim serial steps).book.is_closed → StaysClosed (reached sim serial steps) (run sim (reached sim serial steps) more)

  -- Time Warp is right for a simulation: the headline holds for every opening serial and every list of steps
  abbrev pub IsTimeWarpRight : Type 0
  IsTimeWarpRight = (serial : ℕ) (steps : List Step) → Headline serial steps
