-- Programs in the place of a model: what is made of files and of what the words give.
use Rattle.std.specs.Prelude.{◌≡◌, ℕ, ⊤, List, [], map, Option, Some, None, option_map, string_bytes, codes}
use Rattle.clap.specs.Words.{Text}
use Rattle.vt_options.specs.declared.programs.ProgramChoice.{ProgramChoice}
use Rattle.vt_options.specs.declared.processes.Unsettled.{Unsettled}
use Rattle.vt_options.specs.declared.processes.Unsettled.TheVariants as reason
use Rattle.vt_options.specs.promise.Processes.{IsUnsettled}
use Rattle.vt_options.specs.promise.Programs.{pair_of}
pub use Rattle.vt_runner.specs.promise.Files.{Told, MayHave, MayFail}
use Rattle.vt_guest.specs.declared.loading.Loaded.{Loaded}
use Rattle.vt_guest.specs.declared.loading.Refusal.{Refusal}
use Rattle.vt_guest.specs.declared.loading.Refusal.TheVariants as load_refusal
use Rattle.vt_guest.specs.declared.loading.Set.{Set}
use Rattle.vt_guest.specs.promise.Loading.{IsLoaded, IsRefused}
use Rattle.vt_guest.specs.declared.loading.TheConstants.{MAX_DATA}
use Rattle.vt_program.specs.declared.programs.TheConstants.{MAX_PROGRAM_FILE}
use Rattle.vt_program.specs.declared.programs.ProgramRefusal.{ProgramRefusal}
use Rattle.vt_program.specs.declared.programs.ProgramRefusal.TheVariants as refusal

-- the same of a file of data, where there is one: without it there are no bytes
abbrev pub MayHaveData : Told → Option Text → List ℕ → Type 0
MayHaveData told None bytes = bytes ≡ []
MayHaveData told (Some name) bytes = MayHave told name MAX_DATA bytes

abbrev pub DataMayFail : Told → Option Text → Type 0
DataMayFail told None = ⊥
DataMayFail told (Some name) = MayFail told name MAX_DATA

-- the name of the file of data
abbrev pub data_name : ProgramChoice → Option Text
data_name p = option_map (λ name. name.now) p.data_file

-- a number that is set, as the words give it
abbrev pub set_pair : Set → Text × ℕ
set_pair s = (string_bytes s.name, s.value)

-- the files may have these bytes, and this is set
pub record MayGive (told : Told) (p : ProgramChoice) (bytes : List ℕ) (sets : List Set) (input : List ℕ) : Type 0 where
  pub program : MayHave told p.file.now MAX_PROGRAM_FILE bytes
  pub numbers : map set_pair sets ≡ map pair_of p.sets.items
  pub input_is : MayHaveData told (data_name p) input

-- the program of these files is loaded so
pub record Loads (told : Told) (p : ProgramChoice) (loaded : Loaded) : Type 0 where
  pub bytes : List ℕ
  pub sets : List Set
  pub input : List ℕ
  pub given : MayGive told p bytes sets input
  pub is_loaded : IsLoaded bytes sets input p.fuel loaded

-- it is refused so
pub record LoadFails (told : Told) (p : ProgramChoice) (why : Refusal) : Type 0 where
  pub bytes : List ℕ
  pub sets : List Set
  pub input : List ℕ
  pub given : MayGive told p bytes sets input
  pub is_refused : IsRefused bytes sets input why

-- the program is loaded, and there is no config with which it is run, for this reason. `lps` is the number of processes that the
-- words give
pub record LoadsUnsettled (told : Told) (p : ProgramChoice) (lps : Option ℕ) (why : Unsettled) : Type 0 where
  pub loaded : Loaded
  pub loads : Loads told p loaded
  pub unsettled : IsUnsettled loaded.processes lps why

-- ---- refusals

-- why words that choose a program make no model
abbrev pub RefusesProgram : Told → ProgramChoice → Option ℕ → ProgramRefusal → Type 0
RefusesProgram told p lps refusal.Memory = ⊤
RefusesProgram told p lps (refusal.File fault) = MayFail told p.file.now MAX_PROGRAM_FILE
RefusesProgram told p lps (refusal.Data fault) = DataMayFail told (data_name p)
RefusesProgram told p lps (refusal.Load why) = LoadFails told p why
RefusesProgram told p lps refusal.Processes = LoadsUnsettled told p lps reason.Count
RefusesProgram told p lps (refusal.Lps fixed) = LoadsUnsettled told p lps (reason.Lps fixed)

-- the option that is bad: `set` where it is what the words set, `data` where it is too long, and `program` where it is the file
abbrev pub option_of_load : Refusal → Text
option_of_load (load_refusal.Set name fault) = codes "set"
option_of_load load_refusal.LargeData = codes "data"
option_of_load _ = codes "program"

abbrev pub option_of : ProgramRefusal → Option Text
option_of refusal.Memory = None
option_of (refusal.File fault) = Some (codes "program")
option_of (refusal.Data fault) = Some (codes "data")
option_of (refusal.Load why) = Some (option_of_load why)
option_of refusal.Processes = Some (codes "program")
option_of (refusal.Lps fixed) = Some (codes "lps")
