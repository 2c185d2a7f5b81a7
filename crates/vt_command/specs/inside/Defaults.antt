-- The settings of a command line that gives none.
use Rattle.std.specs.Prelude.{ℕ, List, [], ◌∷◌, Some, false}
use Rattle.std.proofs.Common.{lit≤}
use Rattle.vt_model.specs.declared.settings.Config.{Config}
use Rattle.vt_options.specs.declared.choices.RunSettings.{RunSettings}
use Rattle.vt_options.specs.declared.choices.ReplaySettings.{ReplaySettings}
use Rattle.vt_options.specs.declared.choices.Synch.TheVariants as synch
use Rattle.vt_text.specs.declared.version.Version.TheVariants as version

abbrev pub default_config : Config
default_config = record {
  lps = 2;
  workers = 1;
  end = 10;
  seed = 0;
  some_process = lit≤ tt;
  few_processes = lit≤ tt;
  some_worker = lit≤ tt;
  few_workers = lit≤ tt;
  some_time = lit≤ tt;
  in_time = lit≤ tt;
}

-- two hops by one process in two ticks, with no rise
abbrev pub default_hop : List ℕ
default_hop = 2 ∷ 1 ∷ 2 ∷ 0 ∷ []

-- one event for each process, which stays there and comes each tick
abbrev pub default_phold : List ℕ
default_phold = 1 ∷ 0 ∷ 1 ∷ 1 ∷ []

-- one job, whose services and ways take one tick
abbrev pub default_stations : List ℕ
default_stations = 1 ∷ 1 ∷ 1 ∷ []

-- two processes, one worker, times below 10 and seed 0, in one thread. Records are printed, and no final values
abbrev pub default_settings : RunSettings
default_settings = record {
  synch = synch.Sequential;
  config = default_config;
  turns = 10000000;
  records = Some version.Two;
  finals = false;
}

-- the same settings for a replay, with serials from 0
abbrev pub default_replay_settings : ReplaySettings
default_replay_settings = record {
  config = default_config;
  serial = 0;
  text = version.Two;
}
