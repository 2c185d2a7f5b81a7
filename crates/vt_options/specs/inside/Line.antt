-- The command line of a program with the subcommands `run` and `replay`.
use Rattle.std.specs.Prelude.{List, [], ◌∷◌, map, option_map, unwrap_or}
use Rattle.clap.specs.Words.{Text, found_of, matched_of, raw_values}
use Rattle.clap.specs.declared.parser.matches.ArgMatches.{ArgMatches}
use Rattle.vt_options.specs.declared.line.LineOption.{LineOption}
use Rattle.vt_options.specs.declared.line.Uses.{Uses}
use Rattle.vt_options.specs.declared.line.Uses.TheVariants.{Flag}
use Rattle.vt_options.specs.declared.texts.OptionText.{OptionText}
use Rattle.vt_options.specs.inside.Texts.{help_of}
use Rattle.vt_options.specs.promise.Line.{UsedOption}

-- the names of options, but for flags
abbrev pub name_before : Uses → Text → List Text → List Text
name_before Flag name names = names
name_before _ name names = name ∷ names

abbrev pub valued_names : List UsedOption → List Text
valued_names [] = []
valued_names (o ∷ options) = name_before o.uses o.name (valued_names options)

-- the names of options
abbrev pub names_of : List OptionText → List Text
names_of options = map (λ o. o.name.now) options

-- what help shows of options
abbrev pub helps_of : List LineOption → List Text
helps_of options = map (λ o. help_of o.text) options

-- options as the parser takes them
abbrev pub option_of : LineOption → UsedOption
option_of o = record { name = o.text.name.now; uses = o.uses }

abbrev pub options_of : List LineOption → List UsedOption
options_of options = map option_of options

-- all texts that matches give to an option
abbrev pub texts_in : ArgMatches → Text → List Text
texts_in m name = unwrap_or (option_map raw_values (matched_of (found_of m) name)) []
