use Rattle.std.proofs.Common.{rules, reverse, sym, ap, ◌∙◌, subst}
use Rattle.std_collections.specs.Map.Iter.{TakesFirst, deref}
use Rattle.vt_nodes.specs.inside.Linked.{items}
use Rattle.vt_nodes.proofs.Links.{address-last, no-last, without-last}
use Rattle.vt_list.proofs.iter.IterBackIterator.next.Goals as goal

pub returns-in_err-at-clause-steps : goal.returns-in_err-at-clause-steps
returns-in_err-at-clause-steps g c =
    let none = sym c.self.view_is ∙ ap (λ bs. reverse (items bs)) (no-last c.self.inside.left.now.owned (sym c.self.invariant.0 ∙ sym c.address.ensures ∙ c.in_err-at.was)) in
    subst (λ r. TakesFirst (deref {X = g.row.T.Denot}) c.args.self.now r c.args.self.now) (sym c.from_residual.ensures) (none, none)

pub get-node-requires : goal.get-node-requires
get-node-requires g c κs within = (search rules, address-last c.in_ok-at.at c.self.inside.left.now.owned (sym c.self.invariant.0 ∙ sym c.address.ensures ∙ c.in_ok-at.was))

pub invariant_of-self : goal.invariant_of-self
invariant_of-self g c =
    let left = without-last c.in_ok-at.at c.self.inside.left.now.owned c.front-self-inside.result.now.owned c.get-node.result.now (sym c.self.invariant.0 ∙ sym c.address.ensures ∙ c.in_ok-at.was) c.self.invariant.1
    c.front-self-inside.ensures c.get-node.ensures in
    (left.0, left.1)
