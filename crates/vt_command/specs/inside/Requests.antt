-- What the words of a command line ask for, and why they are refused.
use Rattle.std.specs.Prelude.{ℕ, List, [], None, codes}
use Rattle.clap.specs.Words.{Text}
use Rattle.vt_key.specs.declared.fault.Fault.{Fault}
use Rattle.vt_options.specs.declared.choices.RunSettings.{RunSettings}
use Rattle.vt_options.specs.declared.choices.ReplaySettings.{ReplaySettings}
use Rattle.vt_options.specs.promise.Own.{AskRunWith, AskReplayWith}
use Rattle.vt_options.specs.promise.Requests.{AreBy, HasBadOptionOf, HasNoMeaningBy}
use Rattle.vt_options.specs.inside.Requests.{IsRefusedByOf}
use Rattle.vt_command.specs.promise.Line.{twarp_app}
use Rattle.vt_command.specs.promise.Table.{twarp_models}
use Rattle.vt_command.specs.promise.Requests.{twarp_line}

-- the words are those of a run
abbrev pub AreOfRun : List Text → Type 0
AreOfRun words = AreBy twarp_app (codes "run") words

-- the words are those of a replay
abbrev pub AreOfReplay : List Text → Type 0
AreOfReplay words = AreBy twarp_app (codes "replay") words

-- the words are those of a run with these settings, of the model of this index with these values of its options, of no program, and without a number of processes
abbrev pub AskRun : List Text → RunSettings → ℕ → List ℕ → Type 0
AskRun words s model values = AskRunWith (codes "twarp") twarp_models words s model values None None []

-- the words are those of a replay with these settings, on the model of this index with these values of its options, on no program, and without a number of processes
abbrev pub AskReplay : List Text → ReplaySettings → ℕ → List ℕ → Type 0
AskReplay words s model values = AskReplayWith (codes "twarp") twarp_models words s model values None None []

-- the words have a bad option, the first of which has this name
abbrev pub HasBadOption : List Text → Text → Type 0
HasBadOption words name = HasBadOptionOf twarp_line words name

-- the words have no meaning as a command line
abbrev pub HasNoMeaning : List Text → Type 0
HasNoMeaning words = HasNoMeaningBy twarp_app words

-- why the words are refused: for want of memory, whatever they are, or under a name
abbrev pub IsRefusedBy : List Text → Fault → Type 0
IsRefusedBy words fault = IsRefusedByOf twarp_line words fault
