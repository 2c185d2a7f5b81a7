-- The settings that texts give, of a run or a replay of any model.
use Rattle.std.specs.Prelude.{◌≡◌, Some, codes}
use Rattle.vt_model.specs.declared.settings.Config.{Config}
use Rattle.vt_options.specs.declared.choices.RunSettings.{RunSettings}
use Rattle.vt_options.specs.declared.choices.ReplaySettings.{ReplaySettings}
use Rattle.vt_options.specs.promise.Table
use Rattle.vt_options.specs.promise.Table.{Given, value_in, synch_in, version_in, records_in, finals_in}

-- the config that the texts give
pub record GiveConfig (given : Given) (c : Config) : Type 0 where
  pub workers : value_in given Table.workers ≡ Some c.workers
  pub lps : value_in given Table.lps ≡ Some c.lps
  pub end : value_in given Table.end ≡ Some c.end
  pub seed : value_in given Table.seed ≡ Some c.seed

-- the settings of a run that the texts give
pub record GiveRunSettings (given : Given) (s : RunSettings) : Type 0 where
  pub synch : synch_in (given (codes "synch")) ≡ Some s.synch
  pub config : GiveConfig given s.config
  pub turns : value_in given Table.turns ≡ Some s.turns
  pub records : records_in given ≡ Some s.records
  pub finals : finals_in given ≡ Some s.finals

-- the settings of a replay that the texts give
pub record GiveReplaySettings (given : Given) (s : ReplaySettings) : Type 0 where
  pub config : GiveConfig given s.config
  pub serial : value_in given Table.serial ≡ Some s.serial
  pub text : version_in (given (codes "text")) ≡ Some s.text
