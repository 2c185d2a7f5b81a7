use Rattle.std.proofs.Common.{◌≡◌, ◌∙◌, [], IfOk, IfErr, ap, ap₂, map, subst}
use Rattle.clap.specs.Words.{App, HasKind, fault_of, subcommand_of, subcommand_rows_of}
use Rattle.vt_options.specs.promise.Line.{program_app}
use Rattle.vt_options.specs.inside.Line.{options_of}
use Rattle.vt_options.specs.promise.Own.{app_for}
use Rattle.vt_options.specs.inside.Own.{models_of}
use Rattle.vt_options.proofs.asking.table_matches.Given.{Over}
use Rattle.vt_options.proofs.asking.table_matches.Goals.{After-matches_in}
use Rattle.vt_options.proofs.asking.table_matches.Goals as goal

-- the parser that the words are given to is that of the program
of_program : (g : Over) (c : After-matches_in g) → program_app c.args.texts.now.name.now (options_of c.as_slice.result.now) (options_of c.as_slice-2.result.now) ≡ app_for c.args.texts.now.name.now (models_of c.args.table.now)
of_program g c = ap₂ (program_app c.args.texts.now.name.now) (ap options_of c.as_slice.ensures.value ∙ c.in_ok-run.ensures) (ap options_of c.as_slice-2.ensures.value ∙ c.in_ok-replay.ensures)

pub returns-clause-ok : goal.returns-clause-ok
returns-clause-ok g c =
    subst (λ (a : App). IfOk c.matches_in.result (λ m. subcommand_rows_of m ≡ subcommand_of a (map g.S.AsStr.text c.args.words.now))) (of_program g (goal.at.returns-clause-ok g c).After-matches_in) c.matches_in.ensures.ok

pub returns-clause-accepted : goal.returns-clause-accepted
returns-clause-accepted g c =
    subst (λ (a : App). IfOk c.matches_in.result (λ _. fault_of a (map g.S.AsStr.text c.args.words.now) ≡ [])) (of_program g (goal.at.returns-clause-accepted g c).After-matches_in) c.matches_in.ensures.accepted

pub returns-clause-err : goal.returns-clause-err
returns-clause-err g c =
    subst (λ (a : App). IfErr c.matches_in.result (HasKind (fault_of a (map g.S.AsStr.text c.args.words.now)))) (of_program g (goal.at.returns-clause-err g c).After-matches_in) c.matches_in.ensures.err
