use Rattle.std.proofs.Common.{◌∙◌, ap, sym, Some}
use Rattle.std.specs.Option.{option_copied}
use Rattle.vt_key.specs.declared.letter.Letter.{Letter}
use Rattle.vt_past.specs.inside.Events.{rank_of_last}
use Rattle.vt_past.proofs.LastLemmas.{last-at}
use Rattle.vt_past.proofs.past.rank_of_last.Goals as goal

pub returns-in-Some : goal.returns-in-Some
returns-in-Some g c =
    ap (λ (l : Letter _). Some l.event.rank) c.get.ensures
    ∙ ap rank_of_last (sym (last-at c.args.events.now ∙ sym c.back.ensures ∙ ap option_copied c.in-Some.is))

pub returns-in-None : goal.returns-in-None
returns-in-None g c = ap rank_of_last (sym (last-at c.args.events.now ∙ sym c.back.ensures ∙ ap option_copied c.in-None.is))
