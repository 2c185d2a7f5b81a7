-- The command line.
use Rattle.std.specs.Prelude.{List, ◌∷◌, ◌++◌, map, codes, Option}
use Rattle.clap.specs.Words.{Text}
use Rattle.vt_options.specs.promise.Line.{given_by, texts_by}
use Rattle.vt_options.specs.inside.Own.{run_names, replay_names}
use Rattle.vt_command.specs.promise.Table.{twarp_models}
use Rattle.vt_command.specs.promise.Line.{twarp_app}

-- the options of `run` that take a value, in the order in which they are tested
abbrev pub run_options : List Text
run_options = run_names twarp_models

-- the options of `replay`, all of which take a value, in the order in which they are tested
abbrev pub replay_options : List Text
replay_options = replay_names twarp_models

-- the text that the words give to an option
abbrev pub given_in : List Text → Text → Option Text
given_in words name = given_by twarp_app words name

-- all texts that the words give to an option
abbrev pub all_given_in : List Text → Text → List Text
all_given_in words name = texts_by twarp_app words name

-- a line of a subcommand that gives each of these options a text behind `=`
abbrev pub line_with : Text → List Text → (Text → Text) → List Text
line_with subcommand options text_of =
    codes "twarp" ∷ subcommand ∷ map (λ name. codes "--" ++ (name ++ (codes "=" ++ text_of name))) options
