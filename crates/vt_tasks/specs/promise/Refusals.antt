-- The line of a refusal, and its status.
use Rattle.std.specs.Prelude.{◌⊎◌, ℕ, List, [], ◌∷◌, ◌++◌, Option, codes}
use Rattle.std.specs.Fmt.{decimal}
use Rattle.std.specs.Io.KnownBytes.{Appends}
use Rattle.vt_key.specs.declared.fault.Fault.{Fault}
use Rattle.vt_key.specs.declared.fault.Fault.TheVariants.{Memory, NotLawful, Busy, Closed, Exhausted, TurnsSpent, BadOption, BadStep, Output}
use Rattle.vt_key.specs.promise.Faults.{fault_number}
use Rattle.vt_text.specs.promise.Writing.{AppendsBeginning}

-- what is said of a fault, up to what it carries
abbrev pub fixed_text : Fault → List ℕ
fixed_text Memory = codes "memory"
fixed_text NotLawful = codes "not lawful"
fixed_text Busy = codes "busy"
fixed_text Closed = codes "closed"
fixed_text Exhausted = codes "exhausted"
fixed_text TurnsSpent = codes "turns spent"
fixed_text (BadOption name) = codes "bad option "
fixed_text (BadStep line) = codes "bad step at line "
fixed_text Output = codes "output"

-- what a fault carries: the name of an option, or the number of a line
abbrev pub carried_text : Fault → List ℕ
carried_text (BadOption name) = name.now
carried_text (BadStep line) = decimal line
carried_text _ = []

-- what the line of a refusal says behind the program's name, up to what the fault carries
abbrev pub head_text : Fault → List ℕ
head_text fault = codes ": refused " ++ decimal (fault_number fault) ++ codes " " ++ fixed_text fault

-- the line of a refusal: the program's name, the fault's number, what is said of it, and a newline (10)
abbrev pub refusal_text : List ℕ → Fault → List ℕ
refusal_text name fault = name ++ head_text fault ++ carried_text fault ++ 10 ∷ []

-- the line of a refusal was written, or where the writer failed a beginning of it
abbrev pub TellsRefusalOf : List ℕ → Fault → Option (List ℕ) → Option (List ℕ) → Type 0
TellsRefusalOf name fault old new = Appends old new (refusal_text name fault) ⊎ AppendsBeginning old new (refusal_text name fault)

-- the status of a refusal: 2 for a bad option, 3 for a bad step, 1 for the others
abbrev pub status_of : Fault → ℕ
status_of (BadOption name) = 2
status_of (BadStep line) = 3
status_of _ = 1
