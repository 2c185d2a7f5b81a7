use Rattle.std.proofs.Common.{refl, inl, inr}
use Rattle.clap.proofs.OnLiterals.{clap_on_literals}
use Rattle.clap.specs.declared.error.kind.ErrorKind.TheVariants as kind
use Rattle.vt_command.proofs.laws.other_lines_have_no_meaning.Goals as goal

pub returns : goal.returns
unfolding clap_on_literals
returns c = record {
  nothing = inr (record { accepted = refl; no_run = λ e. cc; no_replay = λ e. cc });
  other = inl (kind.UnknownArgument, (λ e. cc), inl refl);
  unknown = inl (kind.UnknownArgument, (λ e. cc), inl refl);
  twice = inl (kind.ArgumentConflict, (λ e. cc), inl refl);
  no_value = inl (kind.InvalidValue, (λ e. cc), inl refl);
  flag_with_value = inl (kind.TooManyValues, (λ e. cc), inl refl);
  finals_of_replay = inl (kind.UnknownArgument, (λ e. cc), inl refl);
  of_replay_alone = inl (kind.UnknownArgument, (λ e. cc), inl refl);
  of_run_alone = inl (kind.UnknownArgument, (λ e. cc), inl refl);
}
