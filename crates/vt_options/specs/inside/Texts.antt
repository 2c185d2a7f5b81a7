-- What is said of options: which values each takes, and what help shows of it.
use Rattle.std.specs.Prelude.{◌++◌, codes}
use Rattle.std.specs.Fmt.{decimal}
use Rattle.clap.specs.Words.{Text}
use Rattle.vt_options.specs.declared.limits.NumberRange.{NumberRange}
use Rattle.vt_options.specs.declared.own.OwnOption.{OwnOption}
use Rattle.vt_options.specs.declared.texts.OptionText.{OptionText}
use Rattle.vt_options.specs.declared.texts.Takes.{Takes}
use Rattle.vt_options.specs.declared.texts.Takes.TheVariants.{Number, Words, Other}

-- the ends of a range
abbrev pub ends : NumberRange → Text
ends range = decimal range.least ++ (codes " to " ++ decimal range.most)

-- which values an option takes
abbrev pub allowed : Takes → Text
allowed (Number range) = ends range
allowed (Words listed default) = listed.now
allowed (Other words) = words.now

-- a phrase with a default behind it
abbrev pub default_after : Text → Text → Text
default_after phrase default = phrase ++ (codes " [default: " ++ (default ++ codes "]"))

-- what help shows of an option that is this, and takes these values
abbrev pub help_with : Text → Takes → Text
help_with phrase (Number range) = phrase ++ (codes ", " ++ (decimal range.least ++ (codes " to " ++ (decimal range.most ++ (codes " [default: " ++ (decimal range.default ++ codes "]"))))))
help_with phrase (Words listed default) = default_after phrase default.now
help_with phrase (Other words) = phrase

abbrev pub help_of : OptionText → Text
help_of o = help_with o.help.now o.takes

-- the numbers that an option of a model takes
abbrev pub range_of : OwnOption → NumberRange
range_of o = record { least = o.least; most = o.most; default = o.default }

-- what help shows of it
abbrev pub own_help : OwnOption → Text
own_help o = help_with o.help.now (Number (range_of o))
