use Rattle.std.proofs.Common.{map}
use Rattle.std.proofs.lemmas.Result.{err_from_is_err_and}
use Rattle.vt_options.specs.promise.Own.{app_for, line_for}
use Rattle.vt_options.specs.inside.Own.{models_of}
use Rattle.vt_options.proofs.RequestLemmas.{refused_by_parser}
use Rattle.vt_options.proofs.asking.read_request.Goals as goal

pub returns-in_err-help_of-in-Err-clause-err : goal.returns-in_err-help_of-in-Err-clause-err
returns-in_err-help_of-in-Err-clause-err g c =
    let words = map g.S.AsStr.text c.args.words.now in
    let name = c.args.texts.now.name.now in
    let models = models_of c.args.table.now in
    let p = err_from_is_err_and c.from_residual.result c.from_residual.ensures.1 in
    rw (p.1, p.2) (refused_by_parser (line_for name models) words _ (c.in_err-help_of-in-Err.ensures.err (app_for name models) words c.told_error-told.ensures))

pub returns-in_ok-help_of-in-Err-clause-ok : goal.returns-in_ok-help_of-in-Err-clause-ok
returns-in_ok-help_of-in-Err-clause-ok g c =
    c.in_ok-help_of-in-Err.ensures.ok (app_for c.args.texts.now.name.now (models_of c.args.table.now)) (map g.S.AsStr.text c.args.words.now) c.told_error-told.ensures
