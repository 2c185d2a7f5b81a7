use Rattle.std.proofs.Common.{◌++◌, map, sym, ap, ◌∙◌}
use Rattle.vt_nodes.specs.inside.Blocks.{addresses}
use Rattle.vt_nodes.specs.inside.Linked.{NodeAt, with_next}
use Rattle.vt_nodes.proofs.Links.{last-of, take-last, drop-last, with_next-snoc}
use Rattle.vt_nodes.proofs.node.set_last_next.Goals as goal

pub set_next-requires : goal.set_next-requires
set_next-requires g c =
    let l = last-of c.args.last c.args.nodes.owned c.requires in
    ap addresses (c.split-front.ensures.1 ∙ drop-last c.args.last c.args.nodes.owned l)

pub returns : goal.returns
returns g c =
    let p = c.args.last in let z = c.args.next in let bs = c.args.nodes.owned in
    let l = last-of p bs c.requires in
    let front = c.split-front.ensures.0 ∙ take-last p bs l in
    let end = c.split-front.ensures.1 ∙ drop-last p bs l in
    let written = c.set_next.ensures ∙ ap (map (λ (b : NodeAt g.row.T.Denot). (b.0, record b.1 { next = z }))) end in
    c.append.ensures ∙ (λ i. front i ++ written i) ∙ sym (ap (with_next z) l.is ∙ with_next-snoc z l.front (p, l.content))
