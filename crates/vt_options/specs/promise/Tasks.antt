-- The config of a task.
use Rattle.vt_model.specs.declared.settings.Config.{Config}
use Rattle.vt_options.specs.declared.choices.Task.{Task}
use Rattle.vt_options.specs.declared.choices.Task.TheVariants.{Run, Replay}

abbrev pub task_config : Task → Config
task_config (Run s) = s.config
task_config (Replay s) = s.config
