use Rattle.std.proofs.Common.{◌++◌, List, map, sym, ap, ◌∙◌, subst}
use Rattle.vt_nodes.specs.inside.Linked.{NodeAt, items, advanced}
use Rattle.vt_nodes.specs.inside.Lines.{lines_of, ArePassed}
use Rattle.vt_nodes.proofs.TrailLemmas.{taken-off}
use Rattle.vt_nodes.proofs.TrailsPaths.{next-passed}
use Rattle.vt_nodes.proofs.passing.TrailsPath.advance.Goals as goal

pub invariant_of-result-2 : goal.invariant_of-result-2
invariant_of-result-2 g c =
    let s = c.self.inside in let node = c.get.result.now in let parts = c.split-first in
    let off = taken-off s.next c.in-Some.at s.ahead.owned parts.result.0.owned parts.result.1.owned node (sym c.address.ensures ∙ c.in-Some.is) c.self.invariant.1 c.self.invariant.2 parts.ensures.0 parts.ensures.1 c.get.ensures in
    let on = next-passed s.head s.last s.next s.before.owned s.line.owned s.ahead.owned parts.result.0.owned parts.result.1.owned node c.self.invariant.0 off in (
      subst (λ (bs : List (NodeAt g.row.T.Denot)). ArePassed s.head s.next node.prev bs parts.result.0.owned) (sym c.append.ensures) on.0,
      off.next_is,
      off.stand,
    )

pub returns : goal.returns
returns g c =
    let s = c.self.inside in let node = c.get.result.now in let parts = c.split-first in
    let off = taken-off s.next c.in-Some.at s.ahead.owned parts.result.0.owned parts.result.1.owned node (sym c.address.ensures ∙ c.in-Some.is) c.self.invariant.1 c.self.invariant.2 parts.ensures.0 parts.ensures.1 c.get.ensures in
    let on = next-passed s.head s.last s.next s.before.owned s.line.owned s.ahead.owned parts.result.0.owned parts.result.1.owned node c.self.invariant.0 off in
    let passed : List (List g.row.T.Denot) = map items (lines_of (s.before.owned ++ s.line.owned)) in
    (λ i. ((ap (λ bs. map items (lines_of (bs ++ parts.result.0.owned))) c.append.ensures ∙ on.1) i, map items (lines_of parts.result.1.owned)))
    ∙ ap (λ ls. advanced (passed, ls)) (sym off.lines) ∙ ap advanced c.self.view_is
