use Rattle.std.proofs.Common.{subst, sym}
use Rattle.vt_runner.specs.inside.WithFiles.{TellsOption, TellsRefused}
use Rattle.vt_runner.specs.declared.with_files.Refused.{Refused}
use Rattle.vt_runner.proofs.with_files.tell_refused.Goals as goal

pub returns-in-Bad : goal.returns-in-Bad
returns-in-Bad g c =
    let old = g.E.Write.contents c.args.errors.now in
    let new = g.E.Write.contents c.tell_why.new.errors in
    subst (λ (why : Refused). TellsRefused c.args.name.now why c.tell_why.result old new) (sym c.in-Bad.is)
    (subst (λ said. TellsOption c.args.name.now c.in-Bad.option.now said c.tell_why.result old new) c.as_str.ensures.value c.tell_why.ensures)
