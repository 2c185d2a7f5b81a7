-- A program's command line is a simple one, whatever its options.
use Rattle.std.proofs.Common.{◌≡◌, ℕ, ◌+◌, ◌<◌, ◌∙◌, refl, sym, true, false, not, List, length, take, get_or, map, ap, ap₂, [], ◌∷◌, ◌++◌, Result, Ok, Err, IfOk, IfErr, MatchResult, append_assoc, append-nil, codes}
use Rattle.std.specs.List.{list_all, list_any}
use Rattle.std.proofs.lemmas.List.{take_more, map-append}
use Rattle.std.proofs.lemmas.List.Sums.{fold-append}
use Rattle.clap.specs.Walk.{is_early_multiple}
use Rattle.clap.specs.Simple.{Shape, new_shape, filled, filled_from, help_rule, is_in_order, with_index}
use Rattle.clap.specs.Words.{App, Rule, Text, is_simple, is_simple_and_free, new_app, with_rule, with_subcommand}
use Rattle.vt_options.specs.promise.Line.{UsedOption, option_rule, with_options, program_app}

-- ---- a command with options

abbrev shape_with : Text → List Rule → Shape
shape_with name rules = record (new_shape name) { rules = rules }

with_more : (name : Text) (rules : List Rule) (options : List UsedOption) → (with_options (record { top = shape_with name rules; subs = [] }) options).top ≡ shape_with name (rules ++ map option_rule options)
with_more name rules [] = ap (shape_with name) (sym (append-nil rules))
with_more name rules (o ∷ os) = with_more name (rules ++ option_rule o ∷ []) os ∙ ap (shape_with name) (append_assoc rules (option_rule o ∷ []) (map option_rule os))

top_is : (name : Text) (options : List UsedOption) → (with_options (new_app name) options).top ≡ shape_with name (map option_rule options)
top_is name options = with_more name [] options

-- the program, with the rules of its subcommands written out
abbrev app_with : Text → List Rule → List Rule → App
app_with name run replay = with_subcommand (with_subcommand (new_app name) (shape_with (codes "run") run)) (shape_with (codes "replay") replay)

program_is : (name : Text) (run replay : List UsedOption) → program_app name run replay ≡ app_with name (map option_rule run) (map option_rule replay)
program_is name run replay = ap₂ (λ (a b : Shape). with_subcommand (with_subcommand (new_app name) a) b) (top_is (codes "run") run) (top_is (codes "replay") replay)

-- ---- its rules, once they are filled in

abbrev full : UsedOption → Rule
full o = with_index 1 (filled (option_rule o))

-- and the flag for help
abbrev flag : Rule
flag = with_index 1 (filled help_rule)

fills : (options : List UsedOption) → filled_from 1 (map option_rule options ++ help_rule ∷ []) ≡ map full options ++ flag ∷ []
fills [] = refl
fills (o ∷ os) = ap (λ (rs : List Rule). full o ∷ rs) (fills os)

all_plain : (options : List UsedOption) → list_all (λ (a : Rule). a.is_simple) (map option_rule options) ≡ true
all_plain [] = refl
all_plain (o ∷ os) = all_plain os

all_simple : (options : List UsedOption) → list_all (λ (a : Rule). a.is_simple) (map full options ++ flag ∷ []) ≡ true
all_simple [] = refl
all_simple (o ∷ os) = all_simple os

all_free : (options : List UsedOption) → list_all (λ (a : Rule). a.is_free) (map full options ++ flag ∷ []) ≡ true
all_free [] = refl
all_free (o ∷ os) = all_free os

none_early : (k : ℕ) (options : List UsedOption) → list_any (is_early_multiple k) (map full options ++ flag ∷ []) ≡ false
none_early k [] = refl
none_early k (o ∷ os) = none_early k os

in_order : (options : List UsedOption) → is_in_order (map full options ++ flag ∷ []) ≡ true
in_order options = ap not (none_early _ options)

-- ---- so the program is simple

module _ (name : Text) (run replay : List UsedOption) where
  abbrev app : App
  app = app_with name (map option_rule run) (map option_rule replay)

  ready_is : is_simple app ≡ true
  ready_is = rw (all_plain run, all_plain replay, fills run, fills replay, all_simple run, all_simple replay, in_order run, in_order replay) refl

  free_is : is_simple_and_free app ≡ true
  free_is = rw (all_plain run, all_plain replay, fills run, fills replay, all_simple run, all_simple replay, in_order run, in_order replay, all_free run, all_free replay) refl

  pub is_ready : is_simple (program_app name run replay) ≡ true
  is_ready = ap is_simple (program_is name run replay) ∙ ready_is

  pub is_plain : is_simple_and_free (program_app name run replay) ≡ true
  is_plain = ap is_simple_and_free (program_is name run replay) ∙ free_is

-- and so is what is equal to it
pub simple_as : (a : App) (name : Text) (run replay : List UsedOption) → a ≡ program_app name run replay → is_simple a ≡ true
simple_as a name run replay is = ap is_simple is ∙ is_ready name run replay

pub free_as : (a : App) (name : Text) (run replay : List UsedOption) → a ≡ program_app name run replay → is_simple_and_free a ≡ true
free_as a name run replay is = ap is_simple_and_free is ∙ is_plain name run replay

-- one option more
pub options_more : {X : Type 0} (option_of : X → UsedOption) (a : App) (options : List X) (i : ℕ) (d : X) → i < length options → with_options a (map option_of (take (i + 1) options)) ≡ with_rule (with_options a (map option_of (take i options))) (option_rule (option_of (get_or options i d)))
options_more option_of a options i d h =
    ap (λ l. with_options a (map option_of l)) (take_more options i d h)
    ∙ ap (with_options a) (map-append option_of (take i options) (get_or options i d ∷ []))
    ∙ fold-append (λ (b : App) (o : UsedOption). with_rule b (option_rule o)) a (map option_of (take i options)) (option_of (get_or options i d) ∷ [])

pub ok_part : {X Y : Type 0} (r : Result X Y) (P : X → Type 0) (Q : Y → Type 0) → MatchResult r P Q → IfOk r P
ok_part (Ok x) P Q h = h
ok_part (Err e) P Q h = tt

pub err_part : {X Y : Type 0} (r : Result X Y) (P : X → Type 0) (Q : Y → Type 0) → MatchResult r P Q → IfErr r Q
err_part (Ok x) P Q h = tt
err_part (Err e) P Q h = h
