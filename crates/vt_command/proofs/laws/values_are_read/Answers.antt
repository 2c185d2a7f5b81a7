use Rattle.std.proofs.Common.{refl}
use Rattle.clap.proofs.OnLiterals.{clap_on_literals}
use Rattle.vt_command.proofs.laws.values_are_read.Goals as goal

pub returns : goal.returns
unfolding clap_on_literals
returns c = record { apart = refl; joined = refl; absent = refl; flag = refl; no_flag = refl; one = λ text. refl }
