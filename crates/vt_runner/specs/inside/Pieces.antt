-- A run in pieces, the text of each of which is written.
use Rattle.std.specs.Prelude.{◌≡◌, ◌⊎◌, ℕ, Bool, List, length, Option, if◌then◌else◌}
use Rattle.std.specs.Io.KnownBytes.{Appends}
use Rattle.vt_key.specs.promise.Times.{Time}
use Rattle.vt_key.specs.declared.fault.Fault.{Fault}
use Rattle.vt_key.specs.declared.fault.Fault.TheVariants.{Memory, TurnsSpent, Output}
use Rattle.vt_model.specs.declared.settings.Config.{Config}
use Rattle.vt_model.specs.promise.Handler.{Handlers}
use Rattle.vt_model.specs.promise.Simulation.{Simulation, simulation_of}
use Rattle.vt_model.specs.promise.Sequential.{seq_records}
use Rattle.vt_station.specs.declared.driver.Wanted.{Wanted}
use Rattle.vt_station.specs.declared.driver.Wanted.TheVariants.{Records, Finals}
use Rattle.vt_station.specs.declared.pieces.Standing.{Standing}
use Rattle.vt_station.specs.declared.pieces.Standing.TheVariants.{GoesOn, Whole, Stopped}
use Rattle.vt_station.specs.inside.Crew.{IsHandOutRefusal}
use Rattle.vt_text.specs.declared.version.Version.{Version}
use Rattle.vt_tasks.specs.promise.Runs.{text_below}

-- what is wanted of a run whose final values are printed, or aren't
abbrev pub wanted_of : Bool → Wanted
wanted_of finals = if finals then Finals else Records

-- the text below some time was written, with so many records
pub record AreWritten (shown : Option Version) {S P K : Type 0} (handlers : Handlers S P K) (config : Config) (old now : Option (List ℕ)) (written : ℕ) : Type 0 where
  pub time : Time
  pub count : written ≡ length (seq_records (simulation_of handlers config) time)
  pub text : Appends old now (text_below shown handlers config time)

-- what a run is told by whose records couldn't be read, for this refusal: the fault that had stopped it, or else that refusal
abbrev pub IsUnread : Standing → Fault → Fault → Type 0
IsUnread (Stopped fault) refusal told = told ≡ fault
IsUnread _ refusal told = told ≡ refusal

-- why a run that stands so is over before its end: it was stopped for this; or its records couldn't be read; or there was no memory for
-- its final values; or it could go on, and all turns were made
abbrev pub IsOverBy : {S P : Type 0} → Simulation S P → Standing → Fault → Type 0
IsOverBy sim (Stopped fault) told = told ≡ fault
IsOverBy sim Whole told = IsHandOutRefusal sim told ⊎ (told ≡ Memory)
IsOverBy sim GoesOn told = IsHandOutRefusal sim told ⊎ (told ≡ TurnsSpent)

-- which fault is due then: that one, unless the writer failed
abbrev pub IsDue : {S P : Type 0} → Simulation S P → Standing → Fault → Type 0
IsDue sim standing told = (told ≡ Output) ⊎ IsOverBy sim standing told
