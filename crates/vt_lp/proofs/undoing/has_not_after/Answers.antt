use Rattle.std.proofs.Common.{◌∙◌, not, ap, sym}
use Rattle.std.specs.Option.{option_copied}
use Rattle.vt_lp.proofs.RisingLemmas.{any-not-after-least, any-none}
use Rattle.vt_lp.proofs.undoing.has_not_after.Goals as goal

pub returns-in-Some : goal.returns-in-Some
returns-in-Some g c = ap not c.is_before.ensures ∙ sym (any-not-after-least c.args.rank.now c.in-Some.least.now c.args.letters.now (sym c.in-Some.ensures.letter) c.least.ensures.rising)

pub returns-in-None : goal.returns-in-None
returns-in-None g c = sym (any-none _ c.args.letters.now (sym c.least.ensures.letter ∙ ap option_copied c.in-None.is))
