use Rattle.std.proofs.Common.{◌++◌, sym, ap, ◌∙◌, subst}
use Rattle.vt_nodes.specs.inside.Linked.{IsChain, with_prev}
use Rattle.vt_nodes.proofs.Links.{join-chain, no-items, items-joined, items-with_prev}
use Rattle.vt_nodes.proofs.chain.Chain.join.Goals as goal

pub end-requires : goal.end-requires
end-requires g c = no-items _ c.self.inside.nodes.owned _ c.self.view_is c.self.invariant.tail_is (sym c.address.ensures ∙ c.in_default.is)

pub returns-in_default : goal.returns-in_default
returns-in_default g c = c.other.view_is ∙ ap (λ xs. xs ++ c.args.other) (sym (no-items _ c.self.inside.nodes.owned _ c.self.view_is c.self.invariant.tail_is (sym c.address.ensures ∙ c.in_default.is)))

pub invariant_of-result-2 : goal.invariant_of-result-2
invariant_of-result-2 g c =
    let s = c.self.inside in let o = c.other.inside in
    subst (IsChain s.head o.tail) (sym (c.append.ensures ∙ (λ i. c.set_last_next-front.ensures i ++ c.set_first_prev-back.ensures i)))
    (join-chain s.head s.tail o.head o.tail c.in-Some.end c.in-Some-address.start s.nodes.owned o.nodes.owned c.self.invariant c.other.invariant (sym c.address.ensures ∙ c.in-Some.is) (sym c.address-2.ensures ∙ c.in-Some-address.is))

pub returns : goal.returns
returns g c =
    let s = c.self.inside in let o = c.other.inside in
    items-joined o.head s.nodes.owned (with_prev s.tail o.nodes.owned) _ _ _ (c.append.ensures ∙ (λ i. c.set_last_next-front.ensures i ++ c.set_first_prev-back.ensures i)) c.self.view_is
    (items-with_prev s.tail o.nodes.owned ∙ c.other.view_is)
