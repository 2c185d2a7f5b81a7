-- The line of a refusal, and its status.
use Rattle.std.specs.Prelude.{List, ℕ, Option, codes}
use Rattle.vt_key.specs.declared.fault.Fault.{Fault}
use Rattle.vt_tasks.specs.promise.Refusals.{TellsRefusalOf}
pub use Rattle.vt_tasks.specs.promise.Refusals.{status_of}

-- the line of a refusal was written, or where the writer failed a beginning of it
abbrev pub TellsRefusal : Fault → Option (List ℕ) → Option (List ℕ) → Type 0
TellsRefusal fault old new = TellsRefusalOf (codes "twarp") fault old new
