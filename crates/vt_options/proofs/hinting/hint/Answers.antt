use Rattle.std.proofs.Common.{map, subst}
use Rattle.std.proofs.lemmas.Option.{IfSome_then}
use Rattle.vt_key.specs.declared.fault.Fault.{Fault}
use Rattle.vt_options.specs.promise.Own.{line_for}
use Rattle.vt_options.specs.inside.Own.{models_of}
use Rattle.vt_options.specs.inside.Requests.{IsRefusedByOf}
use Rattle.vt_options.proofs.hinting.hint.Goals as goal

pub returns : goal.returns
returns g c =
    let words = map g.S.AsStr.text c.args.words.now in
    let line = line_for c.args.texts.now.name.now (models_of c.args.table.now) in
    let refused = subst (λ (fault : Fault). IsRefusedByOf line words fault) c.in-Err-BadOption.field-0-is c.in-Err-BadOption.ensures.err in
    IfSome_then c.hint_on_matches.result (c.hint_on_matches.ensures line words c.in-Ok.ensures.ok) (λ text told. record { name = c.in-Err-BadOption.name.now; refused = refused; told = told })
