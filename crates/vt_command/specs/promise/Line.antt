-- The command line.
use Rattle.std.specs.Prelude.{codes}
use Rattle.clap.specs.Words.{App}
use Rattle.vt_options.specs.promise.Own.{app_for}
use Rattle.vt_command.specs.promise.Table.{twarp_models}

-- the program's command line, as its parser reads it: two subcommands, `run` and `replay`
abbrev pub twarp_app : App
twarp_app = app_for (codes "twarp") twarp_models
