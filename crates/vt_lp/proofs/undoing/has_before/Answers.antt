use Rattle.std.proofs.Common.{◌∙◌, ap, sym}
use Rattle.std.specs.Option.{option_copied}
use Rattle.vt_lp.proofs.RisingLemmas.{any-before-least, any-none}
use Rattle.vt_lp.proofs.undoing.has_before.Goals as goal

pub returns-in-Some : goal.returns-in-Some
returns-in-Some g c = c.is_before.ensures ∙ sym (any-before-least c.args.rank.now c.in-Some.least.now c.args.letters.now (sym c.in-Some.ensures.letter) c.least.ensures.rising)

pub returns-in-None : goal.returns-in-None
returns-in-None g c = sym (any-none _ c.args.letters.now (sym c.least.ensures.letter ∙ ap option_copied c.in-None.is))
