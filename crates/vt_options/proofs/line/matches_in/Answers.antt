use Rattle.std.proofs.Common.{◌≡◌, [], IfOk, MatchResult, map, subst}
use Rattle.std.proofs.lemmas.Result.{IfOk-weaker}
use Rattle.clap.specs.Words.{App, HasKind, fault_of, subcommand_of, subcommand_rows_of}
use Rattle.vt_options.specs.promise.Line.{program_app}
use Rattle.vt_options.specs.inside.Line.{options_of}
use Rattle.vt_options.proofs.LineLemmas.{free_as, simple_as, ok_part, err_part}
use Rattle.vt_options.proofs.line.matches_in.Given.{Over}
use Rattle.vt_options.proofs.line.matches_in.Goals.{After-try_get_matches_from}
use Rattle.vt_options.proofs.line.matches_in.Goals as goal

pub returns-clause-ok : goal.returns-clause-ok
returns-clause-ok g c =
    let a = c.args in
    let parse = c.try_get_matches_from in
    let app = c.in_ok-command.ensures in
    let simple = simple_as _ a.texts.now.name.now (options_of a.run.now) (options_of a.replay.now) app in
    let words = map g.S.AsStr.text a.words.now in
    subst (λ (a : App). IfOk parse.result (λ m. subcommand_rows_of m ≡ subcommand_of a words)) app (IfOk-weaker parse.result _ _ (λ m h. (h simple).1) parse.ensures.matches)

-- the words have no fault, or this one is of their first fault's kind
told : (g : Over) (c : After-try_get_matches_from g)
    → MatchResult c.try_get_matches_from.result (λ _. fault_of (program_app c.args.texts.now.name.now (options_of c.args.run.now) (options_of c.args.replay.now)) (map g.S.AsStr.text c.args.words.now) ≡ []) (HasKind (fault_of (program_app c.args.texts.now.name.now (options_of c.args.run.now) (options_of c.args.replay.now)) (map g.S.AsStr.text c.args.words.now)))
told g c =
    let a = c.args in
    let parse = c.try_get_matches_from in
    let app = c.in_ok-command.ensures in
    subst (λ (app : App). MatchResult parse.result (λ _. fault_of app (map g.S.AsStr.text a.words.now) ≡ []) (HasKind (fault_of app (map g.S.AsStr.text a.words.now)))) app
    (parse.ensures.kinds (free_as _ a.texts.now.name.now (options_of a.run.now) (options_of a.replay.now) app))

pub returns-clause-err : goal.returns-clause-err
returns-clause-err g c = err_part c.try_get_matches_from.result _ _ (told g (goal.at.returns-clause-err g c).After-try_get_matches_from)

pub returns-clause-accepted : goal.returns-clause-accepted
returns-clause-accepted g c = ok_part c.try_get_matches_from.result _ _ (told g (goal.at.returns-clause-accepted g c).After-try_get_matches_from)
