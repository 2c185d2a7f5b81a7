use Rattle.std.proofs.Common.{sym, subst}
use Rattle.std.proofs.lemmas.Option.{IfSome_then}
use Rattle.vt_options.specs.inside.Shown.{IsShownWord}
use Rattle.vt_options.proofs.hinting.hint_on_option.Goals as goal

pub returns : goal.returns
returns c =
    let shown = subst (λ text. IsShownWord c.args.word.now text) (sym c.as_str.ensures.value) c.in_ok-shown.ensures in
    IfSome_then c.option_line.result c.option_line.ensures (λ line is. (c.as_str.result.now, shown, is))
