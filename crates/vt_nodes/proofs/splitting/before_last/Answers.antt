use Rattle.std.proofs.Common.{rules, [], ◌-◌, length, take, drop, sym, ap, ◌∙◌, arith}
use Rattle.vt_nodes.specs.inside.Blocks.{address_at}
use Rattle.vt_nodes.specs.inside.Linked.{items}
use Rattle.vt_nodes.proofs.Links.{last-of, drop-last, last-position, no-last}
use Rattle.vt_nodes.proofs.splitting.before_last.Goals as goal

pub returns-in_default : goal.returns-in_default
returns-in_default g c =
    let none = no-last c.args.nodes.owned (sym c.requires.tail_is ∙ sym c.address.ensures ∙ c.in_default.is) in
    c.at_front.ensures ∙ (λ i. ([], items (none i), none i)) ∙ sym (λ i. (take (length (items (none i)) - 1) (items (none i)), drop (length (items (none i)) - 1) (items (none i)), none i))

pub get-requires : goal.get-requires
get-requires g c κs within =
    let bs = c.args.nodes.owned in let p = c.in-Some.last in
    let l = last-of p bs (sym c.requires.tail_is ∙ sym c.address.ensures ∙ c.in-Some.is) in let end = c.split-front.ensures.1 ∙ drop-last p bs l in
    (search rules, (omega (arith, ap length end), ap (λ cs. address_at cs 0) end))

pub invariant_of-result : goal.invariant_of-result
invariant_of-result g c =
    let s = c.args in let p = c.in-Some.last in let front = c.split-front.result.0.owned in let end = c.split-front.result.1.owned in
    last-position s.head s.tail p s.nodes.owned front end c.get.result.now (sym c.address.ensures ∙ c.in-Some.is) c.requires c.split-front.ensures.0 c.split-front.ensures.1 c.get.ensures
