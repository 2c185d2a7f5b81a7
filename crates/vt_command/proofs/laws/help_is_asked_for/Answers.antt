use Rattle.std.proofs.Common.{refl, inl}
use Rattle.clap.proofs.OnLiterals.{clap_on_literals}
use Rattle.vt_command.proofs.laws.help_is_asked_for.Goals as goal

pub returns : goal.returns
unfolding clap_on_literals
returns c = record { of_the_program = inl refl; of_run = inl refl; of_replay = inl refl; short = inl refl; by_word = inl refl }
