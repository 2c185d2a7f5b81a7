-- Why a program is refused, and which option is bad.
use Rattle.std.proofs.Common.{◌≡◌, ◌⊎◌, ◌∙◌, ℕ, List, Option, Some, ap, inl, inr, map, refl, subst, sym}
use Rattle.clap.specs.Words.{Text}
use Rattle.vt_options.specs.declared.programs.Assignment.{Assignment}
use Rattle.vt_options.specs.promise.Programs.{pair_of}
use Rattle.vt_options.specs.promise.Processes.{IsUnsettled}
use Rattle.vt_options.specs.declared.processes.Unsettled.{Unsettled}
use Rattle.vt_options.specs.declared.processes.Unsettled.TheVariants.{Count, Lps}
use Rattle.vt_guest.specs.declared.loading.Set.{Set}
use Rattle.vt_guest.specs.declared.loading.Loaded.{Loaded}
use Rattle.vt_options.specs.declared.programs.ProgramChoice.{ProgramChoice}
use Rattle.vt_program.specs.declared.programs.ProgramRefusal.{ProgramRefusal}
use Rattle.vt_program.specs.declared.programs.ProgramRefusal.TheVariants as refusal
use Rattle.vt_program.specs.promise.Models.{Refuses}
use Rattle.vt_program.specs.declared.programs.TheConstants.{MAX_PROGRAM_FILE}
use Rattle.vt_program.specs.promise.Programs.{Told, Loads, MayGive, MayHave, MayHaveData, RefusesProgram, data_name, option_of, set_pair}
use Rattle.vt_program.specs.inside.Programs.{unsettled_refusal}

-- what loading takes is what the files may have, and what is set
pub may_give : (told : Told) (p : ProgramChoice) {file bytes input : List ℕ} {made sets : List Set} {numbers : List Assignment}
    → bytes ≡ file → sets ≡ made → numbers ≡ p.sets.items → MayHave told p.file.now MAX_PROGRAM_FILE file → map set_pair made ≡ map pair_of numbers → MayHaveData told (data_name p) input → MayGive told p bytes sets input
may_give told p read lent given has are data_is = record {
  program = subst (MayHave told p.file.now MAX_PROGRAM_FILE) (sym read) has;
  numbers = ap (map set_pair) lent ∙ are ∙ ap (map pair_of) given;
  input_is = data_is;
}

-- memory was refused, or an option is bad
pub refused_so : (told : Told) (p : ProgramChoice) (lps : Option ℕ) (r : ProgramRefusal) → RefusesProgram told p lps r → (r ≡ refusal.Memory) ⊎ ((bad : Text) × Refuses told p lps bad × (option_of r ≡ Some bad))
refused_so told p lps refusal.Memory h = inl refl
refused_so told p lps (refusal.File fault) h = inr (_, record { refusal = refusal.File fault; why = h; named = refl }, refl)
refused_so told p lps (refusal.Data fault) h = inr (_, record { refusal = refusal.Data fault; why = h; named = refl }, refl)
refused_so told p lps (refusal.Load why) h = inr (_, record { refusal = refusal.Load why; why = h; named = refl }, refl)
refused_so told p lps refusal.Processes h = inr (_, record { refusal = refusal.Processes; why = h; named = refl }, refl)
refused_so told p lps (refusal.Lps fixed) h = inr (_, record { refusal = refusal.Lps fixed; why = h; named = refl }, refl)

-- a loaded program without a config is refused
pub unsettled-refused : (told : Told) (p : ProgramChoice) (lps : Option ℕ) (loaded : Loaded) (why : Unsettled) → Loads told p loaded → IsUnsettled loaded.processes lps why → RefusesProgram told p lps (unsettled_refusal why)
unsettled-refused told p lps loaded Count loads is = record { loaded = loaded; loads = loads; unsettled = is }
unsettled-refused told p lps loaded (Lps fixed) loads is = record { loaded = loaded; loads = loads; unsettled = is }
