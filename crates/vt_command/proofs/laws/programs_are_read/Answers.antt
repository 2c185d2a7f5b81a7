use Rattle.std.proofs.Common.{refl, inl, inr}
use Rattle.clap.proofs.OnLiterals.{clap_on_literals}
use Rattle.vt_command.proofs.laws.programs_are_read.Goals as goal

pub returns : goal.returns
unfolding clap_on_literals
returns c = record {
  sets = refl;
  none = refl;
  model = inl (record { are = record { accepted = refl; subcommand = refl }; bad = refl });
  second_set = inl (record { are = record { accepted = refl; subcommand = refl }; bad = refl });
  nameless = inr (record { are = record { accepted = refl; subcommand = refl }; bad = refl });
  too_large = inl (record { are = record { accepted = refl; subcommand = refl }; bad = refl });
  fuel = inr (record { are = record { accepted = refl; subcommand = refl }; bad = refl });
  program_first = inl (record { are = record { accepted = refl; subcommand = refl }; bad = refl });
  set_before_fuel = inl (record { are = record { accepted = refl; subcommand = refl }; bad = refl });
  text_before = inl (record { are = record { accepted = refl; subcommand = refl }; bad = refl });
}
