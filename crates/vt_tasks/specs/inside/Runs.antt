-- The text of a run, and how much of it a run writes that is refused.
use Rattle.std.specs.Prelude.{◌<◌, ℕ, List, Option}
use Rattle.std.specs.Io.KnownBytes.{Appends}
use Rattle.vt_key.specs.promise.Times.{Time}
use Rattle.vt_key.specs.declared.fault.Fault.{Fault}
use Rattle.vt_key.specs.declared.fault.Fault.TheVariants.{Memory, Busy, Exhausted, TurnsSpent, Output}
use Rattle.vt_model.specs.promise.Handler.{Handlers}
use Rattle.vt_text.specs.promise.Writing.{AppendsBeginning}
use Rattle.vt_options.specs.declared.choices.RunSettings.{RunSettings}
use Rattle.vt_options.specs.declared.choices.Synch.{Synch}
use Rattle.vt_options.specs.declared.choices.Synch.TheVariants.{Sequential, Optimistic}
use Rattle.vt_tasks.specs.promise.Runs.{text_below, run_text, PassesInRun, WritesBelow, WritesBeginning}

-- what a sequential run that was refused wrote of its text: a beginning, which isn't all of it where the writer failed. A counter
-- is spent only where the run would pass its limit
abbrev pub StopsRun : Type 0 → Option (List ℕ) → Option (List ℕ) → List ℕ → Fault → Type 0
StopsRun Passes old new text Memory = WritesBeginning text old new
StopsRun Passes old new text Exhausted = Passes × WritesBeginning text old new
StopsRun Passes old new text Output = AppendsBeginning old new text
StopsRun Passes old new text _ = ⊥

-- what a run in threads, of so many workers, that was refused wrote of its text: what comes before some time, or where the writer
-- failed a beginning. It is busy only where there is another worker, whose place had claimed the book
abbrev pub StopsWork : ℕ → (Time → List ℕ) → List ℕ → Option (List ℕ) → Option (List ℕ) → Fault → Type 0
StopsWork workers below whole old new Memory = WritesBelow below whole old new
StopsWork workers below whole old new Busy = (1 < workers) × WritesBelow below whole old new
StopsWork workers below whole old new Exhausted = WritesBelow below whole old new
StopsWork workers below whole old new TurnsSpent = WritesBelow below whole old new
StopsWork workers below whole old new Output = AppendsBeginning old new whole
StopsWork workers below whole old new _ = ⊥

-- what a run that was refused wrote of its text, by the way in which it keeps the order of events
abbrev pub StopsBy : Synch → ℕ → Type 0 → (Time → List ℕ) → List ℕ → Option (List ℕ) → Option (List ℕ) → Fault → Type 0
StopsBy Sequential workers Passes below whole old new fault = StopsRun Passes old new whole fault
StopsBy Optimistic workers Passes below whole old new fault = StopsWork workers below whole old new fault

-- ---- a run of a model, as its settings say

module _ {S P K : Type 0} (handlers : Handlers S P K) (s : RunSettings) where
  -- the text of the whole run was written
  abbrev pub WritesWhole : Option (List ℕ) → Option (List ℕ) → Type 0
  WritesWhole old new = Appends old new (run_text s.records s.finals handlers s.config)

  -- what a run in one thread that was refused wrote
  abbrev pub StopsInOne : Option (List ℕ) → Option (List ℕ) → Fault → Type 0
  StopsInOne old new = StopsRun (PassesInRun handlers s.config) old new (run_text s.records s.finals handlers s.config)

  -- what a run in threads that was refused wrote
  abbrev pub StopsInThreads : Option (List ℕ) → Option (List ℕ) → Fault → Type 0
  StopsInThreads = StopsWork s.config.workers (text_below s.records handlers s.config) (run_text s.records s.finals handlers s.config)

  -- what a run of the kind that the settings name wrote, where it was refused
  abbrev pub StopsAsSet : Option (List ℕ) → Option (List ℕ) → Fault → Type 0
  StopsAsSet = StopsBy s.synch s.config.workers (PassesInRun handlers s.config) (text_below s.records handlers s.config) (run_text s.records s.finals handlers s.config)
