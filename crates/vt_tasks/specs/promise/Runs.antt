-- The text of a run, and how much of it a run writes that is refused.
use Rattle.std.specs.Prelude.{◌≡◌, ℕ, Bool, List, ◌++◌, Option}
use Rattle.std.specs.Io.KnownBytes.{Appends}
use Rattle.vt_key.specs.promise.Times.{Time}
use Rattle.vt_model.specs.declared.settings.Config.{Config}
use Rattle.vt_model.specs.promise.Handler.{Handlers}
use Rattle.vt_model.specs.promise.Simulation.{simulation_of}
use Rattle.vt_model.specs.promise.Sequential.{seq_records}
use Rattle.vt_model.specs.promise.Settings.{end_of}
use Rattle.vt_seq.specs.promise.Limits.{PassesNumberLimit}
use Rattle.vt_text.specs.declared.version.Version.{Version}
use Rattle.vt_tasks.specs.promise.Printed.{printed_text, finals_text}

-- the records of a model's sequential run below a time, as text of a version, or nothing where they aren't printed
abbrev pub text_below : {S P K : Type 0} → Option Version → Handlers S P K → Config → Time → List ℕ
text_below shown handlers config time = printed_text shown (seq_records (simulation_of handlers config) time)

-- the text of a model's sequential run: all its records, where they are printed, and then the final value of each process in rising
-- order, where these are
abbrev pub run_text : {S P K : Type 0} → Option Version → Bool → Handlers S P K → Config → List ℕ
run_text shown finals handlers config = text_below shown handlers config (end_of config) ++ finals_text finals (simulation_of handlers config)

-- some step of a model's sequential run would take a send number past its limit
abbrev pub PassesInRun : {S P K : Type 0} → Handlers S P K → Config → Type 0
PassesInRun handlers config = (n : ℕ) × PassesNumberLimit (simulation_of handlers config) n

-- the text below some time was written, which is a beginning of the whole
pub record WritesBelow (below : Time → List ℕ) (whole : List ℕ) (old new : Option (List ℕ)) : Type 0 where
  pub time : Time
  pub written : Appends old new (below time)
  pub rest : List ℕ
  pub begins : whole ≡ below time ++ rest

-- a beginning of the text was written, which may be nothing or all
pub record WritesBeginning (whole : List ℕ) (old new : Option (List ℕ)) : Type 0 where
  pub beginning : List ℕ
  pub written : Appends old new beginning
  pub rest : List ℕ
  pub begins : whole ≡ beginning ++ rest
