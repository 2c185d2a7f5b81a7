-- The models that programs make.
use Rattle.std.specs.Prelude.{◌≡◌, ◌<◌, ◌≤◌, ℕ, length, Option}
use Rattle.vt_model.specs.declared.settings.Config.{Config}
use Rattle.vt_guest.specs.declared.guest.Program.{Program}
use Rattle.vt_guest.specs.declared.loading.Loaded.{Loaded}
use Rattle.vt_options.specs.declared.programs.ProgramChoice.{ProgramChoice}
use Rattle.vt_options.specs.promise.Processes.{Settles}
use Rattle.vt_program.specs.declared.models.TwarpModel.{TwarpModel}
use Rattle.vt_program.specs.declared.models.TwarpModel.TheVariants.{Hop, Phold, Stations, Guest64, Guest256, Guest1024, Guest4096}
use Rattle.vt_program.specs.promise.Programs.{Told, Loads}

-- the model has the handlers of the program, and the least size of states that holds its first state
abbrev pub IsGuestOf : Program → TwarpModel → Type 0
IsGuestOf program (Hop m) = ⊥
IsGuestOf program (Phold m) = ⊥
IsGuestOf program (Stations m) = ⊥
IsGuestOf program (Guest64 g) = (g.program ≡ program) × (length program.first.items ≤ 64)
IsGuestOf program (Guest256 g) = (g.program ≡ program) × (64 < length program.first.items) × (length program.first.items ≤ 256)
IsGuestOf program (Guest1024 g) = (g.program ≡ program) × (256 < length program.first.items) × (length program.first.items ≤ 1024)
IsGuestOf program (Guest4096 g) = (g.program ≡ program) × (1024 < length program.first.items)

-- the program that is chosen makes this model, which is run with this config. `lps` is the number of processes that the words give
pub record RunsProgram (told : Told) (p : ProgramChoice) (lps : Option ℕ) (config : Config) (m : TwarpModel) (settled : Config) : Type 0 where
  pub loaded : Loaded
  pub loads : Loads told p loaded
  pub model_is : IsGuestOf loaded.program m
  pub settles : Settles loaded.processes lps config settled
