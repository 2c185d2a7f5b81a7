use Rattle.std.proofs.Common.{◌++◌, sym, ap, ◌∙◌}
use Rattle.vt_nodes.proofs.Links.{no-last, no-items, items-joined, leads-joined}
use Rattle.vt_nodes.proofs.path.Beginning.join.Goals as goal

pub end-requires : goal.end-requires
end-requires g c = no-last c.self.inside.nodes.owned (sym c.self.invariant.last_is ∙ sym c.address.ensures ∙ c.in_default.is)

pub returns-in_default : goal.returns-in_default
returns-in_default g c = c.rest.view_is ∙ ap (λ xs. xs ++ c.args.rest) (sym (no-items _ c.self.inside.nodes.owned _ c.self.view_is c.self.invariant.last_is (sym c.address.ensures ∙ c.in_default.is)))

pub invariant_of-result-2 : goal.invariant_of-result-2
invariant_of-result-2 g c =
    let s = c.self.inside in let o = c.rest.inside in
    leads-joined s.head s.last s.next o.head c.in-Some.end s.nodes.owned o.nodes.owned _ (c.append.ensures ∙ ap (λ bs. bs ++ o.nodes.owned) c.set_last_next.ensures) (sym c.address.ensures ∙ c.in-Some.is)
    c.self.invariant.head_is c.self.invariant.last_is c.self.invariant.on c.rest.invariant.0 c.rest.invariant.1

pub returns : goal.returns
returns g c =
    items-joined c.rest.inside.head c.self.inside.nodes.owned c.rest.inside.nodes.owned _ _ _ (c.append.ensures ∙ ap (λ bs. bs ++ c.rest.inside.nodes.owned) c.set_last_next.ensures) c.self.view_is c.rest.view_is
