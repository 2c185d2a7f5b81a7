use Rattle.std.proofs.Common.{refl, inl, inr}
use Rattle.clap.proofs.OnLiterals.{clap_on_literals}
use Rattle.vt_command.proofs.laws.first_bad_is_of_the_table.Goals as goal

pub returns : goal.returns
unfolding clap_on_literals
returns c = record {
  lps = inl (record { are = record { accepted = refl; subcommand = refl }; bad = refl });
  synch = inl (record { are = record { accepted = refl; subcommand = refl }; bad = refl });
  model = inl (record { are = record { accepted = refl; subcommand = refl }; bad = refl });
  serial = inr (record { are = record { accepted = refl; subcommand = refl }; bad = refl });
  last = inr (record { are = record { accepted = refl; subcommand = refl }; bad = refl });
  unused = inl (record { are = record { accepted = refl; subcommand = refl }; bad = refl });
  workers = inl (record { are = record { accepted = refl; subcommand = refl }; bad = refl });
  before_rise = inl (record { are = record { accepted = refl; subcommand = refl }; bad = refl });
  rise = inl (record { are = record { accepted = refl; subcommand = refl }; bad = refl });
  text = inl (record { are = record { accepted = refl; subcommand = refl }; bad = refl });
  before_text = inl (record { are = record { accepted = refl; subcommand = refl }; bad = refl });
  finals = inl (record { are = record { accepted = refl; subcommand = refl }; bad = refl });
  before_finals = inl (record { are = record { accepted = refl; subcommand = refl }; bad = refl });
  records = inl (record { are = record { accepted = refl; subcommand = refl }; bad = refl });
  text_of_replay = inr (record { are = record { accepted = refl; subcommand = refl }; bad = refl });
}
