use Rattle.std.proofs.Common.{None, sym, ap, ◌∙◌}
use Rattle.vt_nodes.specs.inside.Linked.{first_or}
use Rattle.vt_nodes.proofs.Links.{passed-beginning, on-back}
use Rattle.vt_nodes.proofs.path.part_at_first.Goals as goal

pub invariant_of-beginning : goal.invariant_of-beginning
invariant_of-beginning g c =
    let s = c.last.inside in
    passed-beginning c.trail.inside.head s.last s.next s.passed.owned s.ahead.owned (c.trail.invariant.0 ∙ ap (first_or None) (sym c.at_first.ensures.nodes ∙ sym (ap (λ v. v.2) c.last.view_is))) c.last.invariant

pub invariant_of-rest : goal.invariant_of-rest
invariant_of-rest g c = let s = c.last.inside in (c.last.invariant.next_is, on-back None s.passed.owned s.ahead.owned c.last.invariant.on)
