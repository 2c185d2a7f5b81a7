use Rattle.std.proofs.Common.{rules, length, sym, ap, ◌∙◌, arith, false, true, ◌≡◌}
use Rattle.vt_nodes.proofs.Links.{address-last, no-items}
use Rattle.vt_nodes.proofs.chain.Chain.last.Goals as goal

pub get-requires : goal.get-requires
get-requires g c κs within = (search rules, address-last c.in-Some.tail c.self.inside.nodes.owned (sym c.self.invariant.tail_is ∙ sym c.address.ensures ∙ c.in-Some.is))

pub returns-in_default-clause-variant : goal.returns-in_default-clause-variant
returns-in_default-clause-variant g c =
    let none = no-items _ c.self.inside.nodes.owned _ c.self.view_is c.self.invariant.tail_is (sym c.address.ensures ∙ c.in_default.is) in
    ((λ e. absurd (let f : false ≡ true = e in cc)), (λ some. absurd (omega (arith, some, ap length none))))
