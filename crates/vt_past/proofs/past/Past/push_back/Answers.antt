use Rattle.std.proofs.Common.{◌∙◌, Some, ap, sym}
use Rattle.vt_key.specs.declared.letter.Letter.{Letter}
use Rattle.vt_past.specs.declared.event.PastEvent.{PastEvent}
use Rattle.vt_past.specs.inside.Events.{last_rank}
use Rattle.vt_past.proofs.LastLemmas.{last-pushed}
use Rattle.vt_past.proofs.past.Past.push_back.Goals as goal

pub invariant_of-self : goal.invariant_of-self
invariant_of-self g c =
    ap (λ (l : Letter _). Some l.event.rank) c.get-2.ensures ∙ ap (λ (e : PastEvent _ _). Some e.letter.event.rank) c.get.ensures
    ∙ last-pushed c.self.inside.events c.args.event ∙ ap last_rank (sym c.push_back.ensures)
