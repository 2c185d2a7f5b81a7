-- What the program does, by what its parts did.
use Rattle.std.proofs.Common.{◌≡◌, codes, subst}
use Rattle.clap.specs.Words.{Text}
use Rattle.vt_options.specs.promise.Own.{Models}
use Rattle.vt_command.specs.promise.Table.{twarp_models}

-- what holds of a name and a table of models that are twarp's holds of twarp's
pub at_twarp : (Holds : Text → Models → Type 0) {name : Text} {table : Models} → name ≡ codes "twarp" → table ≡ twarp_models → Holds name table → Holds (codes "twarp") twarp_models
at_twarp Holds {name} {table} named tabled h = subst (λ (m : Models). Holds (codes "twarp") m) tabled (subst (λ (n : Text). Holds n table) named h)
