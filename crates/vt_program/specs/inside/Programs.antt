-- Programs in the place of a model: what is made of files and of what the words give.
use Rattle.vt_options.specs.declared.processes.Unsettled.{Unsettled}
use Rattle.vt_options.specs.declared.processes.Unsettled.TheVariants as reason
pub use Rattle.vt_runner.specs.promise.Files.{Told, MayHave, MayFail}
use Rattle.vt_guest.specs.declared.loading.Refusal.TheVariants as load_refusal
use Rattle.vt_program.specs.declared.programs.ProgramRefusal.{ProgramRefusal}
use Rattle.vt_program.specs.declared.programs.ProgramRefusal.TheVariants as refusal

-- what a program is refused by for such a reason
abbrev pub unsettled_refusal : Unsettled → ProgramRefusal
unsettled_refusal reason.Count = refusal.Processes
unsettled_refusal (reason.Lps fixed) = refusal.Lps fixed
