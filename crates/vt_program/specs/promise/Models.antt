-- The models of the program.
use Rattle.std.specs.Prelude.{◌≡◌, ℕ, List, [], ◌∷◌, Option, Some, None, Ok, Err}
use Rattle.clap.specs.Words.{Text}
use Rattle.vt_model.specs.declared.settings.Config.{Config}
use Rattle.vt_models.specs.promise.Hop.{hop_handlers}
use Rattle.vt_models.specs.promise.Phold.{phold_handlers}
use Rattle.vt_models.specs.promise.Stations.{stations_handlers}
use Rattle.vt_models.specs.declared.hop.Hop.{Hop as HopModel}
use Rattle.vt_models.specs.declared.phold.Phold.{Phold as PholdModel}
use Rattle.vt_models.specs.declared.stations.Stations.{Stations as StationsModel}
use Rattle.vt_guest.specs.promise.Handlers.{guest_handlers}
use Rattle.vt_options.specs.declared.own.Chosen.{Chosen}
use Rattle.vt_options.specs.declared.programs.ProgramChoice.{ProgramChoice}
use Rattle.vt_tasks.specs.promise.Models.{AnyHandlers, Making, any_handlers}
use Rattle.vt_program.specs.declared.models.TwarpModel.{TwarpModel}
use Rattle.vt_program.specs.declared.models.TwarpModel.TheVariants.{Hop, Phold, Stations, Guest64, Guest256, Guest1024, Guest4096}
use Rattle.vt_program.specs.declared.programs.ProgramRefusal.{ProgramRefusal}
use Rattle.vt_program.specs.promise.Programs.{Told, RefusesProgram, option_of}
use Rattle.vt_program.specs.promise.Guests.{RunsProgram}

-- what a model's handlers give
abbrev pub meaning_of : TwarpModel → AnyHandlers
meaning_of (Hop m) = any_handlers (hop_handlers m)
meaning_of (Phold m) = any_handlers (phold_handlers m)
meaning_of (Stations m) = any_handlers (stations_handlers m)
meaning_of (Guest64 g) = any_handlers (guest_handlers g)
meaning_of (Guest256 g) = any_handlers (guest_handlers g)
meaning_of (Guest1024 g) = any_handlers (guest_handlers g)
meaning_of (Guest4096 g) = any_handlers (guest_handlers g)

-- the index of a model in the table, if it stands there
abbrev pub index_of : TwarpModel → Option ℕ
index_of (Hop m) = Some 0
index_of (Phold m) = Some 1
index_of (Stations m) = Some 2
index_of _ = None

-- the values of a model's options, in the order of the table
abbrev pub hop_values : HopModel → List ℕ
hop_values m = m.hops ∷ m.stride ∷ m.delay ∷ m.rise ∷ []

abbrev pub phold_values : PholdModel → List ℕ
phold_values m = m.population ∷ m.remote ∷ m.lookahead ∷ m.span ∷ []

abbrev pub stations_values : StationsModel → List ℕ
stations_values m = m.jobs ∷ m.service ∷ m.travel ∷ []

abbrev pub values_of : TwarpModel → List ℕ
values_of (Hop m) = hop_values m
values_of (Phold m) = phold_values m
values_of (Stations m) = stations_values m
values_of _ = []

-- a choice makes the model that it names, of the values that it has for its options
abbrev pub IsMadeOf : Chosen → TwarpModel → Type 0
IsMadeOf chosen m = (index_of m ≡ Some chosen.model) × (chosen.values.items ≡ values_of m)

-- a choice makes a model of the table, which is run with the config that is asked for
abbrev pub MakesModel : Chosen → Config → Making TwarpModel → Type 0
MakesModel chosen config (Ok made) = IsMadeOf chosen made.0 × (made.1 ≡ config)
MakesModel chosen config (Err bad) = ⊥

-- the words choose no model for this reason, so this option is bad
pub record Refuses (told : Told) (p : ProgramChoice) (lps : Option ℕ) (bad : Text) : Type 0 where
  pub refusal : ProgramRefusal
  pub why : RefusesProgram told p lps refusal
  pub named : option_of refusal ≡ Some bad

-- a program that is chosen makes a model, or none
abbrev pub MakesProgram : Told → ProgramChoice → Option ℕ → Config → Making TwarpModel → Type 0
MakesProgram told p lps config (Ok made) = RunsProgram told p lps config made.0 made.1
MakesProgram told p lps config (Err bad) = Refuses told p lps bad

-- the model of the table, or the program in its place
abbrev pub MakesBy : Told → Chosen → Option ProgramChoice → Config → Making TwarpModel → Type 0
MakesBy told chosen None config made = MakesModel chosen config made
MakesBy told chosen (Some p) config made = MakesProgram told p chosen.lps config made

-- what is made of a choice, by what is known of files
abbrev pub Makes : Told → Chosen → Config → Making TwarpModel → Type 0
Makes told chosen config made = MakesBy told chosen chosen.program config made
