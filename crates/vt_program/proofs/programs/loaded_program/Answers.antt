use Rattle.std.proofs.Common.{◌≢◌, inl, inr, rules}
use Rattle.vt_key.proofs.ResultLemmas.{if_err}
use Rattle.vt_guest.specs.declared.loading.Refusal.TheVariants.{Memory}
use Rattle.vt_program.specs.promise.Programs.{MayGive, RefusesProgram}
use Rattle.vt_program.proofs.ProgramLemmas.{may_give}
use Rattle.vt_program.proofs.programs.loaded_program.Given.{Over}
use Rattle.vt_program.proofs.programs.loaded_program.Goals.{After-load}
use Rattle.vt_program.proofs.programs.loaded_program.Goals as goal

pub returns-in_err-bytes-clause-err : goal.returns-in_err-bytes-clause-err
returns-in_err-bytes-clause-err g c = λ lps.
    if_err (RefusesProgram (g.D.Files.told c.args.files.now) c.args.program.now lps) c.from_residual.result c.in_err-bytes.field-0.0 c.from_residual.ensures.1 (c.in_err-bytes.ensures.err lps)

pub returns-in_err-data-clause-err : goal.returns-in_err-data-clause-err
returns-in_err-data-clause-err g c = λ lps.
    if_err (RefusesProgram (g.D.Files.told c.args.files.now) c.args.program.now lps) c.from_residual-in_err-data.result c.in_err-data.field-0.0 c.from_residual-in_err-data.ensures.1 (c.in_err-data.ensures.err lps)

-- the files may have what was loaded
given : (g : Over) (c : After-load g) → MayGive (g.D.Files.told c.args.files.now) c.args.program.now c.as_slice-2.result.now c.as_slice-3.result.now c.in_ok-data.data.items
given g c = may_give _ _ c.as_slice-2.ensures.value c.as_slice-3.ensures.value c.as_slice.ensures.value c.in_ok-bytes.ensures.ok c.in-Ok.ensures c.in_ok-data.ensures.ok

pub returns-in-Ok-load-clause-ok : goal.returns-in-Ok-load-clause-ok
returns-in-Ok-load-clause-ok g c = record { bytes = _; sets = _; input = _; given = given g (goal.at.returns-in-Ok-load-clause-ok g c).After-load; is_loaded = c.in-Ok-load.ensures.loaded }

pub returns : goal.returns
returns g c =
    let other : c.in-Err.refusal ≢ Memory = search rules in
    record {
      ok = tt;
      err = λ lps. record {
        bytes = _;
        sets = _;
        input = _;
        given = given g (goal.at.returns g c).After-load;
        is_refused = elim c.in-Err.ensures.refused [
          | inl memory ↦ absurd (other memory)
          | inr refused ↦ refused
        ];
      };
    }
