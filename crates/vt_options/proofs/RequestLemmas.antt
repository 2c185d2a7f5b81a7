-- What the matches of a subcommand give.
use Rattle.std.proofs.Common.{◌≡◌, ◌∙◌, ap, sym, refl, List, [], Option, Some, None, option_map, inl, inr, arith}
use Rattle.std.specs.Prelude.{option_and_then, unwrap_or, codes}
use Rattle.std.specs.Box.{box_value}
use Rattle.clap.specs.Words.{App, Row, Text, all_of, found_of, first_of, first_value, rows_of, subcommand_of, subcommand_name_of, subcommand_rows, subcommand_rows_of}
use Rattle.clap.specs.declared.parser.matches.ArgMatches.{ArgMatches}
use Rattle.clap.specs.declared.parser.matches.ArgMatches.TheViews.{out-ArgMatches, out-SubCommand}
use Rattle.clap.proofs.WalkLemmas.{first_value-rows, raw_values-rows}
use Rattle.vt_key.specs.declared.fault.Fault.{Fault}
use Rattle.vt_key.specs.declared.fault.Fault.TheVariants.{Memory, NotLawful, Busy, Closed, Exhausted, TurnsSpent, BadOption, BadStep, Output}
use Rattle.vt_key.specs.promise.Faults.{fault_number, option_named}
use Rattle.vt_options.specs.promise.Line.{given_by, subcommand_by, texts_by}
use Rattle.vt_options.specs.inside.Line.{texts_in}
use Rattle.vt_options.specs.promise.Requests.{AreBy, HasBadOptionOf, Line}
use Rattle.vt_options.specs.inside.Requests.{IsParserRefusal, IsRefusedByOf}

-- the name that a parse met is that of its rows
pub name_of_rows : (m : ArgMatches) → option_map (λ s. s.0) (subcommand_rows_of m) ≡ subcommand_name_of m
name_of_rows m = elim (out-ArgMatches m).subcommand as (λ o. option_map (λ s. s.0) (subcommand_rows o) ≡ option_map (λ b. (out-SubCommand (box_value b)).name.now) o) [ None ↦ refl | Some b ↦ refl ]

-- the rows of the one that is there
pub rows_there : (s : Option (Text × List Row)) (rows : List Row) (name : Text) → Some rows ≡ option_map (λ p. p.1) s → first_of name rows ≡ option_and_then (λ p. first_of name p.1) s
rows_there None rows name e = cc
rows_there (Some p) rows name e = let same : rows ≡ p.1 = cc in ap (first_of name) same

-- the subcommand's own values are those that the words give
pub given_is : (app : App) (words : List Text) (m inner : ArgMatches) → subcommand_rows_of m ≡ subcommand_of app words → Some (rows_of (found_of inner)) ≡ option_map (λ p. p.1) (subcommand_rows_of m) → (name : Text) → first_value (found_of inner) name ≡ given_by app words name
given_is app words m inner walked rows name =
    first_value-rows (found_of inner) name ∙ rows_there (subcommand_rows_of m) (rows_of (found_of inner)) name rows
    ∙ ap (option_and_then (λ (p : Text × List Row). first_of name p.1)) walked

-- all values of the one that is there
all_there : (s : Option (Text × List Row)) (rows : List Row) (name : Text) → Some rows ≡ option_map (λ p. p.1) s → all_of name rows ≡ option_and_then (λ p. all_of name p.1) s
all_there None rows name e = cc
all_there (Some p) rows name e = let same : rows ≡ p.1 = cc in ap (all_of name) same

-- all texts that the subcommand's own matches give are those that the words give
pub texts_are : (app : App) (words : List Text) (m inner : ArgMatches) → subcommand_rows_of m ≡ subcommand_of app words → Some (rows_of (found_of inner)) ≡ option_map (λ p. p.1) (subcommand_rows_of m) → (name : Text) → texts_in inner name ≡ texts_by app words name
texts_are app words m inner walked rows name =
    ap (λ (o : Option (List Text)). unwrap_or o []) (raw_values-rows (found_of inner) name ∙ all_there (subcommand_rows_of m) (rows_of (found_of inner)) name rows
    ∙ ap (option_and_then (λ (p : Text × List Row). all_of name p.1)) walked)

-- the subcommand that a parse met, if it met one, is the one that the words name
pub met : (app : App) (words : List Text) (m : ArgMatches) (found : Option Text) → subcommand_rows_of m ≡ subcommand_of app words → found ≡ subcommand_name_of m → subcommand_by app words ≡ found
met app words m found walked e = ap (option_map (λ (s : Text × List Row). s.0)) (sym walked) ∙ name_of_rows m ∙ sym e

-- a fault that names the first bad option refuses the words
refused_by_name : (line : Line) (words : List Text) (fault : Fault) (bad : Option Text) → ((name : Text) → bad ≡ Some name → HasBadOptionOf line words name) → fault_number fault ≡ 7 → option_named fault ≡ bad → IsRefusedByOf line words fault
refused_by_name line words Memory bad is n f = tt
refused_by_name line words NotLawful bad is n f = absurd (omega arith)
refused_by_name line words Busy bad is n f = absurd (omega arith)
refused_by_name line words Closed bad is n f = absurd (omega arith)
refused_by_name line words Exhausted bad is n f = absurd (omega arith)
refused_by_name line words TurnsSpent bad is n f = absurd (omega arith)
refused_by_name line words (BadOption name) bad is n f = inr (is name.now (sym f))
refused_by_name line words (BadStep k) bad is n f = absurd (omega arith)
refused_by_name line words Output bad is n f = absurd (omega arith)

module _ (line : Line) (words : List Text) (fault : Fault) (n : fault_number fault ≡ 7) where
  pub refused : AreBy line.app (codes "run") words → option_named fault ≡ line.bad_of_run words → IsRefusedByOf line words fault
  refused run f = refused_by_name line words fault (line.bad_of_run words) (λ name b. inl (record { are = run; bad = b })) n f

  pub replay_refused : AreBy line.app (codes "replay") words → option_named fault ≡ line.bad_of_replay words → IsRefusedByOf line words fault
  replay_refused replay f = refused_by_name line words fault (line.bad_of_replay words) (λ name b. inr (record { are = replay; bad = b })) n f

-- what the parser's error refuses, the program refuses
pub refused_by_parser : (line : Line) (words : List Text) (fault : Fault) → IsParserRefusal line.app words fault → IsRefusedByOf line words fault
refused_by_parser line words Memory h = tt
refused_by_parser line words NotLawful h = h
refused_by_parser line words Busy h = h
refused_by_parser line words Closed h = h
refused_by_parser line words Exhausted h = h
refused_by_parser line words TurnsSpent h = h
refused_by_parser line words (BadOption name) h = inl (h.0, inl h.1)
refused_by_parser line words (BadStep k) h = h
refused_by_parser line words Output h = h
