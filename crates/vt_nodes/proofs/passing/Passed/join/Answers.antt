use Rattle.std.proofs.Common.{◌≡◌, ◌++◌, List, None, map, sym, ap, ◌∙◌, subst}
use Rattle.vt_nodes.specs.inside.Linked.{NodeAt, first_or, items}
use Rattle.vt_nodes.specs.inside.Lines.{lines_of, AreTrails}
use Rattle.vt_nodes.proofs.TrailsPaths.{join-passed}
use Rattle.vt_nodes.proofs.passing.Passed.join.Goals as goal

pub invariant_of-result-2 : goal.invariant_of-result-2
invariant_of-result-2 g c =
    let s = c.self.inside in let o = c.rest.inside in
    let on = join-passed s.head s.last s.next o.head c.in-Some.start s.before.owned s.line.owned o.nodes.owned (sym c.address.ensures ∙ c.in-Some.is) c.self.invariant c.rest.invariant.0 c.rest.invariant.1 in
    subst (λ (bs : List (NodeAt g.row.T.Denot)). (s.head ≡ first_or None bs) × AreTrails None (lines_of bs))
    (sym (c.append.ensures ∙ ap (λ bs. s.before.owned ++ bs) (c.append-joined.ensures ∙ ap (λ bs. bs ++ o.nodes.owned) c.set_first_prev.ensures))) (on.0, on.1)

pub returns : goal.returns
returns g c =
    let s = c.self.inside in let o = c.rest.inside in
    let on = join-passed s.head s.last s.next o.head c.in-Some.start s.before.owned s.line.owned o.nodes.owned (sym c.address.ensures ∙ c.in-Some.is) c.self.invariant c.rest.invariant.0 c.rest.invariant.1 in
    ap (λ bs. map items (lines_of bs)) (c.append.ensures ∙ ap (λ bs. s.before.owned ++ bs) (c.append-joined.ensures ∙ ap (λ bs. bs ++ o.nodes.owned) c.set_first_prev.ensures))
    ∙ on.2 ∙ (λ i. c.self.view_is i ++ c.rest.view_is i)
