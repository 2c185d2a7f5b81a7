use Rattle.std.proofs.Common.{◌≡◌, ◌++◌, ◌∷◌, List, None, map, sym, ap, ◌∙◌, subst}
use Rattle.vt_nodes.specs.inside.Linked.{NodeAt, first_or, items}
use Rattle.vt_nodes.specs.inside.Lines.{lines_of, AreTrails}
use Rattle.vt_nodes.proofs.TrailLemmas.{put-on}
use Rattle.vt_nodes.proofs.trails.Trails.with_first.Goals as goal

pub invariant_of-result : goal.invariant_of-result
invariant_of-result g c =
    let s = c.self.inside in let t = c.trail.inside in
    let on = put-on t.head s.head c.in-Some.at t.nodes.owned s.nodes.owned (sym c.address.ensures ∙ c.in-Some.is) c.trail.invariant.0 c.trail.invariant.1 c.self.invariant.0 c.self.invariant.1 in
    subst (λ (bs : List (NodeAt g.row.T.Denot)). (t.head ≡ first_or None bs) × AreTrails None (lines_of bs)) (sym (c.append.ensures ∙ ap (λ bs. bs ++ s.nodes.owned) c.set_first_prev.ensures)) (on.0, on.1)

pub returns : goal.returns
returns g c =
    let s = c.self.inside in let t = c.trail.inside in
    let on = put-on t.head s.head c.in-Some.at t.nodes.owned s.nodes.owned (sym c.address.ensures ∙ c.in-Some.is) c.trail.invariant.0 c.trail.invariant.1 c.self.invariant.0 c.self.invariant.1 in
    ap (λ bs. map items (lines_of bs)) (c.append.ensures ∙ ap (λ bs. bs ++ s.nodes.owned) c.set_first_prev.ensures) ∙ on.2 ∙ (λ i. c.trail.view_is i ∷ c.self.view_is i)
