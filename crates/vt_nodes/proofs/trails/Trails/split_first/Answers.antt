use Rattle.std.proofs.Common.{sym, ◌∙◌}
use Rattle.vt_nodes.proofs.TrailLemmas.{taken-off}
use Rattle.vt_nodes.proofs.trails.Trails.split_first.Goals as goal

pub invariant_of-first : goal.invariant_of-first
invariant_of-first g c =
    let s = c.self.inside in let parts = c.split-line in
    let off = taken-off s.head c.in-Some.at s.nodes.owned parts.result.0.owned parts.result.1.owned c.get.result.now (sym c.address.ensures ∙ c.in-Some.is) c.self.invariant.0 c.self.invariant.1 parts.ensures.0 parts.ensures.1 c.get.ensures in
    (off.head_is, off.on)

pub invariant_of-rest : goal.invariant_of-rest
invariant_of-rest g c =
    let s = c.self.inside in let parts = c.split-line in
    let off = taken-off s.head c.in-Some.at s.nodes.owned parts.result.0.owned parts.result.1.owned c.get.result.now (sym c.address.ensures ∙ c.in-Some.is) c.self.invariant.0 c.self.invariant.1 parts.ensures.0 parts.ensures.1 c.get.ensures in
    (off.next_is, off.stand)

pub returns-clause-parts : goal.returns-clause-parts
returns-clause-parts g c =
    let s = c.self.inside in let parts = c.split-line in
    let off = taken-off s.head c.in-Some.at s.nodes.owned parts.result.0.owned parts.result.1.owned c.get.result.now (sym c.address.ensures ∙ c.in-Some.is) c.self.invariant.0 c.self.invariant.1 parts.ensures.0 parts.ensures.1 c.get.ensures in
    sym c.self.view_is ∙ off.lines

pub returns-clause-filled : goal.returns-clause-filled
returns-clause-filled g c =
    let s = c.self.inside in let parts = c.split-line in
    let off = taken-off s.head c.in-Some.at s.nodes.owned parts.result.0.owned parts.result.1.owned c.get.result.now (sym c.address.ensures ∙ c.in-Some.is) c.self.invariant.0 c.self.invariant.1 parts.ensures.0 parts.ensures.1 c.get.ensures in
    off.filled
