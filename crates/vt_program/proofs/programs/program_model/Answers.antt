use Rattle.std.proofs.lemmas.Result.{err_from_is_err_and}
use Rattle.vt_key.proofs.ResultLemmas.{if_err}
use Rattle.vt_program.specs.promise.Programs.{RefusesProgram}
use Rattle.vt_program.proofs.ProgramLemmas.{unsettled-refused}
use Rattle.vt_program.proofs.programs.program_model.Goals as goal

pub returns-in_err-loaded-clause-err : goal.returns-in_err-loaded-clause-err
returns-in_err-loaded-clause-err g c =
    if_err (RefusesProgram (g.D.Files.told c.args.files.now) c.args.program.now c.args.lps) c.from_residual.result c.in_err-loaded.field-0.0 c.from_residual.ensures.1 (c.in_err-loaded.ensures.err c.args.lps)

pub returns-in_err-config-clause-err : goal.returns-in_err-config-clause-err
returns-in_err-config-clause-err g c =
    let p = err_from_is_err_and c.from_residual-in_err-config.result c.from_residual-in_err-config.ensures.1 in
    let why = c.in_err-config.ensures.err in
    rw (p.1, p.2, why.1) (unsettled-refused _ _ _ c.in_ok-loaded.loaded why.0 c.in_ok-loaded.ensures.ok why.2)
