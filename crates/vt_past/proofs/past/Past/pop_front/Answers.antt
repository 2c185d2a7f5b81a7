use Rattle.std.proofs.Common.{◌≡◌, ◌∙◌, true, false, sym}
use Rattle.vt_past.proofs.LastLemmas.{last-popped}
use Rattle.vt_past.proofs.past.Past.pop_front.Goals as goal

pub invariant_of-self-else-is_empty : goal.invariant_of-self-else-is_empty
invariant_of-self-else-is_empty g c =
    c.self.invariant
    ∙ last-popped c.pop_front-first.result c.self.inside.events c.pop_front-first.new.self c.pop_front-first.ensures
    (λ e. absurd (let h : false ≡ true = sym c.if-is_empty.false ∙ c.is_empty.ensures.1 e in cc))
