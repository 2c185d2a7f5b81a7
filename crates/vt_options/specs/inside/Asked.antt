-- A request is what the words ask for.
use Rattle.std.specs.Prelude.{List, map}
use Rattle.clap.specs.Words.{Text}
use Rattle.vt_options.specs.declared.asking.Request.{Request}
use Rattle.vt_options.specs.declared.asking.Request.TheVariants as request
use Rattle.vt_options.specs.declared.choices.Task.TheVariants.{Run, Replay}
use Rattle.vt_options.specs.promise.Requests.{AskHelpOf}
use Rattle.vt_options.specs.promise.Table.{Given}
use Rattle.vt_options.specs.promise.Own.{Models, GiveRun, GiveReplay, app_for, path_of}
use Rattle.vt_options.specs.promise.Asked.{AskTaskWith}

abbrev pub IsAsked : Text → Models → List Text → Request → Type 0
IsAsked name models words (request.Task task chosen) = AskTaskWith name models words task chosen
IsAsked name models words (request.Help text) = AskHelpOf (app_for name models) words

-- a request for a run that the texts give
abbrev pub AsksRun : Models → Given → List Text → Request → Type 0
AsksRun models given texts (request.Task (Run settings) c) = GiveRun models given texts settings c.model c.values.items c.lps c.program (map path_of c.files.items)
AsksRun models given texts _ = ⊥

-- and one for a replay
abbrev pub AsksReplay : Models → Given → List Text → Request → Type 0
AsksReplay models given texts (request.Task (Replay settings) c) = GiveReplay models given texts settings c.model c.values.items c.lps c.program (map path_of c.files.items)
AsksReplay models given texts _ = ⊥
