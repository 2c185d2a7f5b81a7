use Rattle.std.proofs.Common.{◌++◌, List, slice_index_or, sym, ap, ◌∙◌, subst}
use Rattle.vt_nodes.specs.inside.Linked.{NodeAt, IsPosition, advanced, items}
use Rattle.vt_nodes.proofs.Links.{next-position, all-passed, one-more}
use Rattle.vt_nodes.proofs.position.Position.advance.Goals as goal

pub returns-in_default-clause-items : goal.returns-in_default-clause-items
returns-in_default-clause-items g c =
    let s = c.self.inside in let xs = items s.passed.owned in
    let none = all-passed s.last s.next s.passed.owned s.ahead.owned (sym c.address.ensures ∙ c.in_default.is) c.self.invariant in
    ap (λ bs. (xs, items bs)) none.0 ∙ sym (ap (λ bs. advanced (xs, items bs)) none.0) ∙ ap (λ v. advanced (v.0, v.1)) c.self.view_is

pub invariant_of-result-2 : goal.invariant_of-result-2
invariant_of-result-2 g c =
    let s = c.self.inside in let p = c.in-Some.at in let node = c.get.result.now in let one = c.split-one.ensures.0 in
    let passed = c.append.ensures ∙ ap (λ bs. s.passed.owned ++ bs) one in
    subst (λ (y : List (NodeAt g.row.T.Denot) × List (NodeAt g.row.T.Denot)). IsPosition s.next node.next y.0 y.1) (λ i. (sym passed i, sym c.split-one.ensures.1 i))
    (next-position s.last s.next p s.passed.owned s.ahead.owned node (sym c.address.ensures ∙ c.in-Some.is) c.self.invariant
    (c.get.ensures ∙ ap (λ (bs : List (NodeAt g.row.T.Denot)). (slice_index_or bs 0 (p, node)).1) one))

pub returns-clause-items : goal.returns-clause-items
returns-clause-items g c =
    let s = c.self.inside in
    let passed = c.append.ensures ∙ ap (λ bs. s.passed.owned ++ bs) c.split-one.ensures.0 in
    (λ i. (items (passed i), items (c.split-one.ensures.1 i))) ∙ one-more s.passed.owned s.ahead.owned ∙ ap (λ v. advanced (v.0, v.1)) c.self.view_is
