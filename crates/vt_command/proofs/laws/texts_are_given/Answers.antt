use Rattle.std.proofs.Common.{refl}
use Rattle.clap.proofs.OnLiterals.{clap_on_literals}
use Rattle.vt_command.proofs.laws.texts_are_given.Goals as goal

pub returns : goal.returns
unfolding clap_on_literals
returns c = record {
  run = λ text_of. record { accepted = refl; subcommand = refl };
  given = λ text_of. refl;
  replay = λ text_of. record { accepted = refl; subcommand = refl };
  given_to_replay = λ text_of. refl;
}
