use Rattle.std.proofs.Common.{None, ◌++◌, sym, ap, ◌∙◌}
use Rattle.vt_nodes.proofs.Links.{leads-joined, no-items, items-joined}
use Rattle.vt_nodes.proofs.trail.Trail.with_chain.Goals as goal

pub end-requires : goal.end-requires
end-requires g c = no-items _ c.chain.inside.nodes.owned _ c.chain.view_is c.chain.invariant.tail_is (sym c.address.ensures ∙ c.in_default.is)

pub returns-in_default : goal.returns-in_default
returns-in_default g c = c.self.view_is ∙ ap (λ xs. xs ++ c.args.self) (sym (no-items _ c.chain.inside.nodes.owned _ c.chain.view_is c.chain.invariant.tail_is (sym c.address.ensures ∙ c.in_default.is)))

pub invariant_of-result-2 : goal.invariant_of-result-2
invariant_of-result-2 g c =
    let s = c.chain.inside in let o = c.self.inside in
    leads-joined s.head s.tail None o.head c.in-Some.end s.nodes.owned o.nodes.owned _ (c.append.ensures ∙ ap (λ bs. bs ++ o.nodes.owned) c.set_last_next.ensures) (sym c.address.ensures ∙ c.in-Some.is)
    c.chain.invariant.head_is c.chain.invariant.tail_is c.chain.invariant.on c.self.invariant.0 c.self.invariant.1

pub returns : goal.returns
returns g c =
    items-joined c.self.inside.head c.chain.inside.nodes.owned c.self.inside.nodes.owned _ _ _ (c.append.ensures ∙ ap (λ bs. bs ++ c.self.inside.nodes.owned) c.set_last_next.ensures) c.chain.view_is c.self.view_is
