-- Options of a model whose names are taken.
use Rattle.std.specs.Prelude.{Bool, ◌||◌, List, [], ◌∷◌, map, Option, Some, None, if◌then◌else◌, codes}
use Rattle.std.specs.List.{list_any}
use Rattle.std.specs.Str.{bytes_eq}
use Rattle.clap.specs.Words.{Text}
use Rattle.vt_options.specs.declared.own.FileOption.{FileOption}
use Rattle.vt_options.specs.declared.own.OwnOption.{OwnOption}
use Rattle.vt_options.specs.inside.Own.{file_names}
use Rattle.vt_options.specs.promise.Table.{first_name}

-- the name is one of these
abbrev pub is_among : List Text → Text → Bool
is_among names name = list_any (λ other. bytes_eq other name) names

-- the options of every model
abbrev pub general_names : List Text
general_names = codes "synch" ∷ codes "workers" ∷ codes "lps" ∷ codes "end" ∷ codes "seed" ∷ codes "turns" ∷ codes "serial" ∷ codes "text" ∷ codes "finals" ∷ codes "records" ∷ []

-- the name is that of an option of every model, or of help
abbrev pub is_general : Text → Bool
is_general name = is_among general_names name || bytes_eq name (codes "help")

-- the first name that is general, or stands behind itself once more
abbrev pub taken_in : List Text → Option Text
taken_in [] = None
taken_in (name ∷ names) = if is_general name || is_among names name then Some name else taken_in names

-- the first name of options that are files, which is general, one of the model's numbers, or stands behind itself once more
abbrev pub taken_file_in : List Text → List Text → Option Text
taken_file_in own [] = None
taken_file_in own (name ∷ names) = if is_general name || (is_among own name || is_among names name) then Some name else taken_file_in own names

-- the names of a model's options that are numbers
abbrev pub own_names : List OwnOption → List Text
own_names own = map (λ o. o.name.now) own

-- the first name of both that is taken, numbers before files
abbrev pub taken_among : List OwnOption → List FileOption → Option Text
taken_among own files = first_name (taken_in (own_names own) ∷ taken_file_in (own_names own) (file_names files) ∷ [])
