use Rattle.std.proofs.Common.{sym, subst}
use Rattle.std.proofs.lemmas.Option.{IfSome_then}
use Rattle.vt_options.specs.inside.Shown.{IsShownSentence}
use Rattle.vt_options.proofs.hinting.hint_on_error.Goals as goal

pub returns : goal.returns
returns c =
    let said = c.unwrap_or-said.result.now in
    let shown = subst (λ text. IsShownSentence said text) (sym c.as_str-2.ensures.value) c.in_ok-shown.ensures in
    IfSome_then c.hint_on_words.result c.hint_on_words.ensures (λ line is. (said, c.as_str-2.result.now, shown, is))
