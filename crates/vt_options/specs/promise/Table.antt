-- The table of options: what each may be, what it is where it isn't given, and which one is refused first.
use Rattle.std.specs.Prelude.{ℕ, ◌==◌, ◌-◌, ◌^◌, Bool, true, false, List, [], ◌∷◌, Option, Some, None, if◌then◌else◌, codes, option_and_then, option_map}
use Rattle.std.specs.Str.{bytes_eq}
use Rattle.vt_key.specs.declared.limits.TheConstants.{MAX_WORKERS, MAX_PROCESSES, MAX_END, MAX_COUNT}
use Rattle.vt_model.specs.promise.Settings.{is_between}
use Rattle.vt_text.specs.promise.Numbers.{number_said}
use Rattle.vt_text.specs.declared.version.Version.{Version}
use Rattle.vt_text.specs.declared.version.Version.TheVariants.{One, Two}
use Rattle.vt_options.specs.declared.choices.Synch.{Synch}
use Rattle.vt_options.specs.declared.choices.Synch.TheVariants.{Sequential, Optimistic}
use Rattle.vt_options.specs.declared.limits.TheConstants.{MAX_TURNS}

-- the text that a command line gives to an option, by the option's name
abbrev pub Given : Type 0
Given = List ℕ → Option (List ℕ)

-- an option that is a number: its name, its range, and its default
pub record NumberOption : Type 0 where
  pub name : List ℕ
  pub least : ℕ
  pub most : ℕ
  pub default : ℕ

abbrev pub option : List ℕ → ℕ → ℕ → ℕ → NumberOption
option name least most default = record { name = name; least = least; most = most; default = default }

-- the options of every model that are numbers
abbrev pub workers : NumberOption
workers = option (codes "workers") 1 MAX_WORKERS 1

abbrev pub lps : NumberOption
lps = option (codes "lps") 1 MAX_PROCESSES 2

abbrev pub end : NumberOption
end = option (codes "end") 1 MAX_END 10

abbrev pub seed : NumberOption
seed = option (codes "seed") 0 (2 ^ 64 - 1) 0

abbrev pub turns : NumberOption
turns = option (codes "turns") 1 MAX_TURNS 10000000

abbrev pub serial : NumberOption
serial = option (codes "serial") 0 MAX_COUNT 0

-- a number, where it is in the range
abbrev pub if_between : ℕ → ℕ → ℕ → Option ℕ
if_between least most n = if is_between least most n then Some n else None

-- the number that a text gives: the default where there is none
abbrev pub number_in : ℕ → ℕ → ℕ → Option (List ℕ) → Option ℕ
number_in least most default None = Some default
number_in least most default (Some text) = option_and_then (if_between least most) (number_said text)

-- the value of an option, where it has one
abbrev pub value_in : Given → NumberOption → Option ℕ
value_in given o = number_in o.least o.most o.default (given o.name)

-- the kind of run that a number names
abbrev pub synch_numbered : ℕ → Option Synch
synch_numbered n = if n == 1 then Some Sequential else if n == 3 then Some Optimistic else None

-- the kind of run that a text names: 1 if there is no text
abbrev pub synch_in : Option (List ℕ) → Option Synch
synch_in None = Some Sequential
synch_in (Some text) = option_and_then synch_numbered (number_said text)

-- the version of the text of records that a number names
abbrev pub version_numbered : ℕ → Option Version
version_numbered n = if n == 1 then Some One else if n == 2 then Some Two else None

-- the version that a text names: 2 if there is no text
abbrev pub version_in : Option (List ℕ) → Option Version
version_in None = Some Two
version_in (Some text) = option_and_then version_numbered (number_said text)

-- the parser gives a flag this text where it is used
abbrev pub is_flagged : Option (List ℕ) → Bool
is_flagged None = false
is_flagged (Some text) = bytes_eq text (codes "true")

-- whether final values are printed, by the flag and the version of the text: version 1 has none
abbrev pub finals_with : Bool → Option Version → Option Bool
finals_with true (Some One) = None
finals_with flagged version = Some flagged

abbrev pub finals_in : Given → Option Bool
finals_in given = finals_with (is_flagged (given (codes "finals"))) (version_in (given (codes "text")))

-- whether a text says that records are printed: they are if there is no text
abbrev pub records_said : Option (List ℕ) → Option Bool
records_said None = Some true
records_said (Some text) = if bytes_eq text (codes "yes") then Some true else if bytes_eq text (codes "no") then Some false else None

-- records in a version, or none
abbrev pub shown_in : Version → Bool → Option Version
shown_in version shown = if shown then Some version else None

-- in which version records are printed, if they are
abbrev pub records_in : Given → Option (Option Version)
records_in given = option_and_then (λ version. option_map (shown_in version) (records_said (given (codes "records")))) (version_in (given (codes "text")))

-- the name, where there is no value
abbrev pub bad : {A : Type 0} → List ℕ → Option A → Option (List ℕ)
bad name (Some value) = None
bad name None = Some name

-- the name of an option that has no value
abbrev pub bad_number : Given → NumberOption → Option (List ℕ)
bad_number given o = bad o.name (value_in given o)

-- the first name, if there is one
abbrev pub first_name : List (Option (List ℕ)) → Option (List ℕ)
first_name [] = None
first_name (Some name ∷ rest) = Some name
first_name (None ∷ rest) = first_name rest

-- the first of these options that has no value
abbrev pub first_bad_of : Given → List NumberOption → Option (List ℕ)
first_bad_of given [] = None
first_bad_of given (o ∷ rest) = first_name (bad_number given o ∷ first_bad_of given rest ∷ [])

-- the options of the config, in the order in which they are tested
abbrev pub config_table : List NumberOption
config_table = workers ∷ lps ∷ end ∷ seed ∷ []
