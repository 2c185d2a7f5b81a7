-- The options of a program, whose file takes the place of a model.
use Rattle.std.specs.Prelude.{◌≡◌, ◌==◌, ℕ, Bool, ◌&&◌, List, [], ◌∷◌, map, length, nat_lt, Option, Some, None, if◌then◌else◌, codes, option_map, option_and_then}
use Rattle.std.specs.List.{position_or_len, before_first, after_first}
use Rattle.clap.specs.Words.{Text}
use Rattle.vt_text.specs.promise.Numbers.{number_said}
use Rattle.vt_options.specs.declared.limits.TheConstants.{MAX_FUEL}
use Rattle.vt_options.specs.declared.programs.Assignment.{Assignment}
use Rattle.vt_options.specs.declared.programs.ProgramChoice.{ProgramChoice}
use Rattle.vt_options.specs.promise.Table.{Given, NumberOption, option, bad, first_name, value_in}

-- the most instructions of a handler
abbrev pub fuel : NumberOption
fuel = option (codes "fuel") 1 MAX_FUEL 1000000

-- ---- numbers that are set

-- the sign between a name and its number
abbrev pub is_equals : ℕ → Bool
is_equals byte = byte == 61

-- a name stands before the first sign
abbrev pub has_name : Text → Bool
has_name text = nat_lt 0 (length (before_first is_equals text)) && nat_lt (position_or_len is_equals text) (length text)

-- the name and the number of a text NAME=VALUE, whose VALUE are 1 to 20 decimal digits of a number below 2 ^ 64
abbrev pub assignment_said : Text → Option (Text × ℕ)
assignment_said text = if has_name text then option_map (λ n. (before_first is_equals text, n)) (number_said (after_first is_equals text)) else None

abbrev pub pair_of : Assignment → Text × ℕ
pair_of a = (a.name.now, a.value)

-- the texts set these numbers
abbrev pub SetNumbers : List Text → List Assignment → Type 0
SetNumbers texts sets = map assignment_said texts ≡ map (λ a. Some (pair_of a)) sets

-- `set`, where one of its texts sets nothing
abbrev pub bad_sets : List Text → Option Text
bad_sets [] = None
bad_sets (text ∷ texts) = first_name (bad (codes "set") (assignment_said text) ∷ bad_sets texts ∷ [])

-- ---- the choice of a program

-- the value of an option, where it is given
abbrev pub value_given : Given → NumberOption → Option ℕ
value_given given o = option_and_then (λ text. value_in given o) (given o.name)

-- the texts choose this program, with what is set, its data and its fuel. `texts` are those of `set`
pub record GivesChoice (given : Given) (texts : List Text) (p : ProgramChoice) : Type 0 where
  pub file : given (codes "program") ≡ Some p.file.now
  pub numbers : SetNumbers texts p.sets.items
  pub data_is : given (codes "data") ≡ option_map (λ name. name.now) p.data_file
  pub fuel_is : value_in given fuel ≡ Some p.fuel
