-- The config of a task.
use Rattle.vt_model.specs.declared.settings.Config.{Config}
use Rattle.vt_options.specs.declared.choices.Task.{Task}
use Rattle.vt_options.specs.declared.choices.Task.TheVariants.{Run, Replay}

-- the same task with another config
abbrev pub with_config : Config → Task → Task
with_config config (Run s) = Run (record s { config = config })
with_config config (Replay s) = Replay (record s { config = config })
