use Rattle.std.proofs.Common.{rules, sym, ◌∙◌}
use Rattle.vt_nodes.proofs.TrailLemmas.{taken-off}
use Rattle.vt_list.proofs.iter.IterLinesIterator.next.Goals as goal

pub invariant_of-line : goal.invariant_of-line
invariant_of-line g c =
    let s = c.self.inside in
    let off = taken-off s.next c.in_ok-at.at s.left.now.owned c.front.result.now.owned c.rest-self-inside.result.now.owned c.get.result.now (sym c.address.ensures ∙ c.in_ok-at.was) c.self.invariant.0 c.self.invariant.1 c.front.ensures c.rest-self-inside.ensures c.get.ensures in
    (off.head_is, off.on)

pub invariant_of-self : goal.invariant_of-self
invariant_of-self g c =
    let s = c.self.inside in
    let off = taken-off s.next c.in_ok-at.at s.left.now.owned c.front.result.now.owned c.rest-self-inside.result.now.owned c.get.result.now (sym c.address.ensures ∙ c.in_ok-at.was) c.self.invariant.0 c.self.invariant.1 c.front.ensures c.rest-self-inside.ensures c.get.ensures in
    (off.next_is, off.stand)

pub returns-clause-steps : goal.returns-clause-steps
returns-clause-steps g c =
    let s = c.self.inside in
    let off = taken-off s.next c.in_ok-at.at s.left.now.owned c.front.result.now.owned c.rest-self-inside.result.now.owned c.get.result.now (sym c.address.ensures ∙ c.in_ok-at.was) c.self.invariant.0 c.self.invariant.1 c.front.ensures c.rest-self-inside.ensures c.get.ensures in
    sym c.self.view_is ∙ off.lines

pub returns-clause-goes : goal.returns-clause-goes
returns-clause-goes g c = search (rules, returns-clause-steps g c)
