-- A request is what the words ask for.
use Rattle.std.specs.Prelude.{List, map}
use Rattle.clap.specs.Words.{Text}
use Rattle.vt_options.specs.declared.choices.Task.{Task}
use Rattle.vt_options.specs.declared.choices.Task.TheVariants.{Run, Replay}
use Rattle.vt_options.specs.declared.own.Chosen.{Chosen}
use Rattle.vt_options.specs.promise.Own.{Models, AskRunWith, AskReplayWith, path_of}

-- the words are those of this task, with this choice
abbrev pub AskTaskWith : Text → Models → List Text → Task → Chosen → Type 0
AskTaskWith name models words (Run settings) c = AskRunWith name models words settings c.model c.values.items c.lps c.program (map path_of c.files.items)
AskTaskWith name models words (Replay settings) c = AskReplayWith name models words settings c.model c.values.items c.lps c.program (map path_of c.files.items)
